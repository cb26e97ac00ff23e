-- What recorded hours answer, by their tables and by their records; and the laws of an hour source.
use Rattle.std.specs.Prelude.{◌≡◌, ℕ, zero, suc, ◌+◌, ◌-◌, ◌<◌, ◌≤◌, min, true, false, ◌&&◌, List, ◌++◌, length, take, drop, ℤ, pos, is_some, Some, None, Ok, Err, Option, Result, ◌≢◌, nat_lt, slice_index_or, refl}
use Rattle.std.proofs.Common.{sym, ap, ◌∙◌, arith}
use Rattle.std.proofs.lemmas.List.{length-take, length-drop, get_or-take, get_or-drop}
use Rattle.std.proofs.lemmas.Bool.{cond-true, cond-false, lt-ltb, le-ltb}
use Rattle.std.proofs.lemmas.Bool.Decides.{nat_tests}
use Rattle.std.proofs.lemmas.Option.{none-some}
use Rattle.std.specs.Cmp.Derive.{both_true}
use Rattle.std.proofs.lemmas.Int.{ints}
use Rattle.hours.specs.declared.fault.Fault.{Fault}
use Rattle.hours.specs.declared.period.Slot.{Slot}
use Rattle.hours.specs.declared.counts.Counts.{Counts}
use Rattle.hours.specs.declared.series.Series.{Series}
use Rattle.hours.specs.declared.recorded.tables.Tables.{Tables}
use Rattle.hours.specs.Bounds.{Within}
use Rattle.hours.specs.Faults.{lacking_year, past_count}
use Rattle.hours.specs.Periods.{lawful_slot, past_year, lawful_year}
use Rattle.hours.specs.Questions.{counted, present, year_of, hour_of, how_many, written}
use Rattle.hours.specs.RecordedEntries.{hours_by, lawful_price, LawfulSeries}
use Rattle.hours.specs.RecordedFormat.{records_of, counts_in, hours_in, prices_in}
use Rattle.hours.specs.RecordedTables.{tabled_counts, start_of, start_found, tables_of, Sized}
use Rattle.hours.specs.RecordedTablesLemmas.{Stands, Same}
use Rattle.hours.specs.RecordedAlike.{kept_alike}

abbrev pub series_of : ℕ → Slot → ℕ → Series
series_of location slot year = record { location = location; slot = slot; year = year }

-- the records by themselves
kept : (xs : List ℤ) → Same xs (tables_of xs) (records_of xs)
kept xs = kept_alike xs (tables_of xs) refl

-- counts of a slot

pub tables_sized : (xs : List ℤ) (t : Tables) → t ≡ tables_of xs → Sized t
tables_sized xs t e = (kept_alike xs t e).sized

pub counts_found : (xs : List ℤ) (t : Tables) (slot : Slot) → t ≡ tables_of xs → lawful_slot slot ≡ true → tabled_counts t slot ≡ counts_in (records_of xs) slot
counts_found xs t slot e lawful = (kept_alike xs t e).looks slot lawful

pub counts_unlawful : (xs : List ℤ) (slot : Slot) → lawful_slot slot ≡ false → counts_in (records_of xs) slot ≡ None
counts_unlawful xs slot e = go (counts_in (records_of xs) slot) ((kept xs).slots slot)
  where
    go : (o : Option (Counts ℕ)) → ((c : Counts ℕ) → o ≡ Some c → lawful_slot slot ≡ true) → o ≡ None
    go None f = refl
    go (Some c) f = let w : true ≡ false = sym (f c refl) ∙ e in let z : ◌≡◌ {A = ℕ} 0 1 = cc in absurd (omega arith)

-- prices of a year

start_some : (all : List ℤ) (start n : ℕ) (o : Option (List ℤ)) → Stands all start n o → (start ≢ 0) → (o ≡ Some (take n (drop start all))) × (start + n ≤ length all)
unfolding Stands
start_some all start n None s ne = absurd (ne s)
start_some all start n (Some vs) s ne =
    let l = s.2 in
    let a : length (take (length vs) (drop start all)) ≡ length vs = ap length s.1 in
    let b : min (length vs) (length all - start) ≡ length vs = sym (length-take (length vs) (drop start all) ∙ ap (λ (j : ℕ). min (length vs) j) (length-drop start all)) ∙ a in
    let some = s.3 in
    (ap Some (sym s.1 ∙ ap (λ (j : ℕ). take j (drop start all)) l), omega arith)

start_none : (all : List ℤ) (start n : ℕ) (o : Option (List ℤ)) → Stands all start n o → start ≡ 0 → o ≡ None
unfolding Stands
start_none all start n None s e = refl
start_none all start n (Some vs) s e = let w = s.0 in absurd (omega arith)

start_tells : (all : List ℤ) (start n : ℕ) (o : Option (List ℤ)) → Stands all start n o → is_some (start_found start) ≡ is_some o
unfolding Stands
start_tells all zero n None s = refl
start_tells all (suc start) n None s = let z : suc start ≡ 0 = s in absurd (omega arith)
start_tells all zero n (Some vs) s = let w = s.0 in absurd (omega arith)
start_tells all (suc start) n (Some vs) s = refl

-- where the table has a start, the year's prices stand there
pub year_found : (xs : List ℤ) (t : Tables) (l : ℕ) (k : Slot) (y : ℕ) → t ≡ tables_of xs → LawfulSeries (series_of l k y) → (start_of t (series_of l k y) ≢ 0) →
    (prices_in (records_of xs) l k y ≡ Some (take (hours_in (records_of xs) k y) (drop (start_of t (series_of l k y)) xs))) × (start_of t (series_of l k y) + hours_in (records_of xs) k y ≤ length xs)
year_found xs t l k y e lawful ne = start_some xs _ _ (prices_in (records_of xs) l k y) ((kept_alike xs t e).stands (series_of l k y) lawful) ne

pub year_lacking : (xs : List ℤ) (t : Tables) (l : ℕ) (k : Slot) (y : ℕ) → t ≡ tables_of xs → LawfulSeries (series_of l k y) → start_of t (series_of l k y) ≡ 0 → prices_in (records_of xs) l k y ≡ None
year_lacking xs t l k y e lawful z = start_none xs _ _ (prices_in (records_of xs) l k y) ((kept_alike xs t e).stands (series_of l k y) lawful) z

pub year_told : (xs : List ℤ) (t : Tables) (l : ℕ) (k : Slot) (y : ℕ) → t ≡ tables_of xs → LawfulSeries (series_of l k y) → is_some (start_found (start_of t (series_of l k y))) ≡ is_some (prices_in (records_of xs) l k y)
year_told xs t l k y e lawful = start_tells xs _ _ (prices_in (records_of xs) l k y) ((kept_alike xs t e).stands (series_of l k y) lawful)

pub year_unlawful : (xs : List ℤ) (l : ℕ) (k : Slot) (y : ℕ) → (LawfulSeries (series_of l k y) → ⊥) → prices_in (records_of xs) l k y ≡ None
year_unlawful xs l k y n = go (prices_in (records_of xs) l k y) ((kept xs).series (series_of l k y))
  where
    go : (o : Option (List ℤ)) → ((vs : List ℤ) → o ≡ Some vs → LawfulSeries (series_of l k y)) → o ≡ None
    go None f = refl
    go (Some vs) f = absurd (n (f vs refl))

-- a question that is lawful in every way but for what the source has

pub series_asked : (l : ℕ) (k : Slot) (y : ℕ) → lawful_slot k ≡ true → past_year y ≡ true → l < 64 → LawfulSeries (series_of l k y)
series_asked l k y a b h = (a, omega arith, grind (arith, nat_tests))

year_asked : (prices : ℕ → Slot → ℕ → Option (List ℤ)) (l : ℕ) (k : Slot) (y : ℕ) → lawful_slot k ≡ true → past_year y ≡ true → l < 64 → year_of 64 prices l k y ≡ present (prices l k y) l y
year_asked prices l k y a b h =
    cond-true (lawful_slot k && past_year y) _ _ (both_true a b) ∙ cond-true (nat_lt l 64) _ _ (lt-ltb l 64 h)

pub count_answered : (xs : List ℤ) (t : Tables) (k : Slot) (y n : ℕ) → t ≡ tables_of xs → lawful_slot k ≡ true → lawful_year y ≡ true → n ≡ hours_by (tabled_counts t k) y →
    Ok n ≡ counted (hours_in (records_of xs)) k y
count_answered xs t k y n e a b q =
    ap Ok (q ∙ ap (λ (o : Option (Counts ℕ)). hours_by o y) (counts_found xs t k e a)) ∙ sym (cond-true (lawful_slot k && lawful_year y) _ _ (both_true a b))

not_found : (n : ℕ) → start_found n ≡ None → n ≡ 0
not_found zero e = refl
not_found (suc n) e = absurd (none-some (suc n) (sym e))

found : (n start : ℕ) → start_found n ≡ Some start → (start ≡ n) × (n ≢ 0)
found zero start e = absurd (none-some start e)
found (suc n) start e = (cc, λ z. omega arith)

pub lacking_answered : (xs : List ℤ) (t : Tables) (l : ℕ) (k : Slot) (y : ℕ) → t ≡ tables_of xs → lawful_slot k ≡ true → past_year y ≡ true → l < 64 → start_found (start_of t (series_of l k y)) ≡ None →
    Err (lacking_year l y) ≡ year_of 64 (prices_in (records_of xs)) l k y
lacking_answered xs t l k y e a b h z =
    sym (year_asked (prices_in (records_of xs)) l k y a b h ∙ ap (λ (o : Option (List ℤ)). present o l y) (year_lacking xs t l k y e (series_asked l k y a b h) (not_found (start_of t (series_of l k y)) z)))

pub span_answered : (xs : List ℤ) (t : Tables) (l : ℕ) (k : Slot) (y start hours : ℕ) → t ≡ tables_of xs → lawful_slot k ≡ true → past_year y ≡ true → l < 64 →
    start_found (start_of t (series_of l k y)) ≡ Some start → hours ≡ hours_by (tabled_counts t k) y →
    (start + hours ≤ length xs) × (hours ≤ 9000) × (Ok (take hours (drop start xs)) ≡ year_of 64 (prices_in (records_of xs)) l k y)
span_answered xs t l k y start hours e a b h there q =
    let at = found (start_of t (series_of l k y)) start there in
    let p = at.0 in
    let f = year_found xs t l k y e (series_asked l k y a b h) at.1 in
    let n : hours ≡ hours_in (records_of xs) k y = q ∙ ap (λ (o : Option (Counts ℕ)). hours_by o y) (counts_found xs t k e a) in
    let w = f.1 in let v = (kept xs).few k y in (
      omega arith,
      omega arith,
      ap (λ (j : ℕ). Ok (take j (drop start xs))) n ∙ ap (λ (j : ℕ). Ok (take (hours_in (records_of xs) k y) (drop j xs))) p
          ∙ sym (year_asked (prices_in (records_of xs)) l k y a b h ∙ ap (λ (o : Option (List ℤ)). present o l y) f.0),
    )

-- the prices of a year by where they stand

span_long : (xs : List ℤ) (start hours : ℕ) → start + hours ≤ length xs → length (take hours (drop start xs)) ≡ hours
span_long xs start hours h = simp (length-take, length-drop) (omega arith)

pub hour_answered : (xs : List ℤ) (start hours hour l y : ℕ) (year : Result (List ℤ) Fault) → start + hours ≤ length xs → Ok (take hours (drop start xs)) ≡ year → hour < hours →
    Ok (slice_index_or xs (start + hour) (pos 0)) ≡ hour_of year l y hour
hour_answered xs start hours hour l y year w e h =
    let n = span_long xs start hours w in
    let zs : List ℤ = take hours (drop start xs) in
    ap Ok (sym (get_or-take hours (drop start xs) hour (pos 0) h ∙ get_or-drop start xs hour (pos 0)))
    ∙ sym (cond-true (nat_lt hour (length zs)) (Ok (slice_index_or zs hour (pos 0))) (Err (past_count l y)) (lt-ltb hour (length zs) (omega arith)))
    ∙ ap (λ (r : Result (List ℤ) Fault). hour_of r l y hour) e

pub past_answered : (xs : List ℤ) (start hours hour l y : ℕ) (year : Result (List ℤ) Fault) → start + hours ≤ length xs → Ok (take hours (drop start xs)) ≡ year → hours ≤ hour →
    Err (past_count l y) ≡ hour_of year l y hour
past_answered xs start hours hour l y year w e h =
    let n = span_long xs start hours w in
    let zs : List ℤ = take hours (drop start xs) in
    sym (cond-false (nat_lt hour (length zs)) (Ok (slice_index_or zs hour (pos 0))) (Err (past_count l y)) (le-ltb hour (length zs) (omega arith)))
    ∙ ap (λ (r : Result (List ℤ) Fault). hour_of r l y hour) e

pub fill_answered : (xs ys : List ℤ) (start hours : ℕ) (buffer after : List ℤ) (year : Result (List ℤ) Fault) → start + hours ≤ length xs → Ok (take hours (drop start xs)) ≡ year →
    ys ≡ take hours (drop start xs) → after ≡ ys ++ drop (length ys) buffer → (Ok hours ≡ how_many year) × (after ≡ written year buffer)
fill_answered xs ys start hours buffer after year w e p q = (
  ap Ok (sym (span_long xs start hours w)) ∙ ap how_many e,
  q ∙ ap (λ (zs : List ℤ). zs ++ drop (length zs) buffer) p ∙ ap (λ (r : Result (List ℤ) Fault). written r buffer) e,
)

-- the laws of an hour source

pub few_hours_lem : (xs : List ℤ) (k : Slot) (y : ℕ) → hours_in (records_of xs) k y ≤ 9000
few_hours_lem xs k y = (kept xs).few k y

standing : (all : List ℤ) (start n : ℕ) (o : Option (List ℤ)) (vs : List ℤ) → Stands all start n o → o ≡ Some vs → (length vs ≡ n) × (0 < n)
unfolding Stands
standing all start n None vs s e = absurd (none-some vs e)
standing all start n (Some ws) vs s e = let q : ws ≡ vs = cc in (ap length (sym q) ∙ s.2, s.3)

whole_some : (xs : List ℤ) (l : ℕ) (k : Slot) (y : ℕ) (vs : List ℤ) → prices_in (records_of xs) l k y ≡ Some vs → (length vs ≡ hours_in (records_of xs) k y) × (0 < hours_in (records_of xs) k y)
whole_some xs l k y vs e =
    standing xs _ _ (prices_in (records_of xs) l k y) vs ((kept xs).stands (series_of l k y) ((kept xs).series (series_of l k y) vs e)) e

pub whole_year_lem : (xs : List ℤ) (l : ℕ) (k : Slot) (y : ℕ) (vs : List ℤ) → prices_in (records_of xs) l k y ≡ Some vs → length vs ≡ hours_in (records_of xs) k y
whole_year_lem xs l k y vs e = (whole_some xs l k y vs e).0

pub empty_year_lem : (xs : List ℤ) (l : ℕ) (k : Slot) (y : ℕ) → hours_in (records_of xs) k y ≡ 0 → prices_in (records_of xs) l k y ≡ None
empty_year_lem xs l k y z = go (prices_in (records_of xs) l k y) (whole_some xs l k y)
  where
    go : (o : Option (List ℤ)) → ((vs : List ℤ) → o ≡ Some vs → (length vs ≡ hours_in (records_of xs) k y) × (0 < hours_in (records_of xs) k y)) → o ≡ None
    go None f = refl
    go (Some vs) f = let w = (f vs refl).1 in absurd (omega arith)

lawful_within : (z : ℤ) → lawful_price z ≡ true → Within 200000 z
lawful_within z e = (grind (arith, ints, nat_tests), grind (arith, ints, nat_tests))

pub small_prices_lem : (xs : List ℤ) (l : ℕ) (k : Slot) (y : ℕ) (vs : List ℤ) (hour : ℕ) → prices_in (records_of xs) l k y ≡ Some vs → Within 200000 (slice_index_or vs hour (pos 0))
small_prices_lem xs l k y vs hour e = lawful_within (slice_index_or vs hour (pos 0)) ((kept xs).near (series_of l k y) vs e hour)
