-- What holds of rows that were accepted.
use Rattle.std.specs.Prelude.{◌≡◌, ℕ, ◌+◌, ◌<◌, ◌≤◌, Bool, true, false, cond, not, ◌&&◌, ◌⊎◌, List, [], ◌∷◌, ◌++◌, length, replicate, ℤ, pos, is_some, Some, None, Ok, Err, Option, Result, ◌==◌, nat_le, nat_lt, slice_index_or, refl}
use Rattle.std.proofs.Common.{sym, ap, subst, ◌∙◌, inl, inr, arith}
use Rattle.std.proofs.lemmas.List.{length-replicate, get_or-replicate, get_or_past}
use Rattle.std.proofs.lemmas.Int.{ints}
use Rattle.std.proofs.lemmas.Bool.{and_parts, or_parts, not-false, leb-true, ltb-true, eqb-true, cases_lt}
use Rattle.std.proofs.lemmas.Bool.Decides.{nat_tests}
use Rattle.hours.specs.declared.period.Slot.{Slot}
use Rattle.hours.specs.declared.rows.CountRow.{CountRow}
use Rattle.hours.specs.declared.rows.MeanRow.{MeanRow}
use Rattle.hours.specs.Bounds.{Within, within}
use Rattle.std.specs.List.{find}
use Rattle.hours.specs.Listings.{first_at_fault}
use Rattle.hours.specs.Means.{hours_in, hours_by, row_of, rows_count, is_mean_of, mean_of, every_hour, mean_prices, lawful_count, lawful_mean, count_at_fault, mean_at_fault, behind, or_else, rows_refusal}
use Rattle.hours.specs.declared.fault.Fault.{Fault}
use Rattle.hours.specs.Faults.{past_count}
use Rattle.hours.specs.Periods.{lawful_slot, past_year, same_slot}
use Rattle.hours.specs.Questions.{present, hour_of, priced}
use Rattle.hours.specs.Years.{asked_well, hour_below, hour_past}

pub not_none : {A X : Type 0} (a : A) → ◌≡◌ {A = Option A} None (Some a) → X
not_none a e = let z : ◌≡◌ {A = ℕ} 0 1 = cc in absurd (omega arith)

-- a row that is found among rows of which none is at fault is not at fault, and passes the test
pub found : {R : Type 0} (fault : List R → R → Bool) (Q : R → Type 0) → ((before : List R) (r : R) → fault before r ≡ false → Q r) →
    (before rows : List R) → first_at_fault fault before rows ≡ None → (p : R → Bool) (r : R) → find p rows ≡ Some r → Q r × (p r ≡ true)
found fault Q good before [] none p r e = not_none r e
found {R = R} fault Q good before (x ∷ rows) none p r e = sound (fault before x) refl none (found fault Q good (before ++ (x ∷ [])) rows)
  where
    here : (b : Bool) → p x ≡ b → fault before x ≡ false → cond b (Some x) (find p rows) ≡ Some r → (find p rows ≡ Some r → Q r × (p r ≡ true)) → Q r × (p r ≡ true)
    here true passes ok q on = let same : x ≡ r = cc in subst (λ (y : R). Q y × (p y ≡ true)) same (good before x ok, passes)
    here false passes ok q on = on q

    sound : (b : Bool) → fault before x ≡ b → cond b (Some (length before + 1)) (first_at_fault fault (before ++ (x ∷ [])) rows) ≡ None →
        (first_at_fault fault (before ++ (x ∷ [])) rows ≡ None → (p : R → Bool) (r : R) → find p rows ≡ Some r → Q r × (p r ≡ true)) → Q r × (p r ≡ true)
    sound true bad q again = not_none (length before + 1) (sym q)
    sound false ok q again = here (p x) refl ok e (again q p r)

-- slots that look the same are one
pub slot_same : (a b : Slot) → same_slot a b ≡ true → a ≡ b
slot_same a b e =
    let f : a.period.first ≡ b.period.first = grind (arith, nat_tests) in
    let m : a.period.months ≡ b.period.months = grind (arith, nat_tests) in
    let k : a.class ≡ b.class = grind (arith, nat_tests) in
    λ i. record { period = record { first = f i; months = m i }; class = k i }

pub within-Within : (b : ℕ) (z : ℤ) → within b z ≡ true → Within b z
within-Within b z e = (grind (arith, ints, nat_tests), grind (arith, ints, nat_tests))

-- accepted rows have no row at fault
pub accepted : (counts : List (CountRow ℕ)) (means : List MeanRow) → is_some (rows_refusal counts means) ≡ false → (first_at_fault count_at_fault [] counts ≡ None) × (first_at_fault (mean_at_fault counts) [] means ≡ None)
accepted counts means e = few (nat_le (length counts) 12 && nat_le (length means) 48) (first_at_fault count_at_fault [] counts) (first_at_fault (mean_at_fault counts) [] means) e
  where
    few : (b : Bool) (o q : Option ℕ) → is_some (cond b (or_else o (behind (length counts) q)) (Some 0)) ≡ false → (o ≡ None) × (q ≡ None)
    few true None None h = (refl, refl)
    few true None (Some k) h = let z : ◌≡◌ {A = ℕ} 0 1 = cc in absurd (omega arith)
    few true (Some k) q h = let z : ◌≡◌ {A = ℕ} 0 1 = cc in absurd (omega arith)
    few false o q h = let z : ◌≡◌ {A = ℕ} 0 1 = cc in absurd (omega arith)

count_good : (before : List (CountRow ℕ)) (r : CountRow ℕ) → count_at_fault before r ≡ false → lawful_count r ≡ true
count_good before r e = not-false (lawful_count r) (or_parts (not (lawful_count r)) (is_some (row_of before r.slot)) e).0

mean_good : (counts : List (CountRow ℕ)) (before : List MeanRow) (m : MeanRow) → mean_at_fault counts before m ≡ false → lawful_mean counts m ≡ true
mean_good counts before m e = not-false (lawful_mean counts m) (or_parts (not (lawful_mean counts m)) (is_some (mean_of before m.series.location m.series.slot m.series.year)) e).0

hours_low : (r : CountRow ℕ) (y : ℕ) → lawful_count r ≡ true → hours_in r y ≤ 9000
hours_low r y e =
    let a = (and_parts (lawful_slot r.slot) (nat_le r.counts.recent 9000 && (nat_le r.counts.distant 9000 && nat_le r.counts.ahead 9000)) e).1 in
    let b = and_parts (nat_le r.counts.recent 9000) (nat_le r.counts.distant 9000 && nat_le r.counts.ahead 9000) a in
    let c = and_parts (nat_le r.counts.distant 9000) (nat_le r.counts.ahead 9000) b.1 in
    let d = leb-true r.counts.recent 9000 b.0 in
    let f = leb-true r.counts.distant 9000 c.0 in
    let g = leb-true r.counts.ahead 9000 c.1 in
    grind (arith, nat_tests)

-- no slot has more than 9,000 hours
pub few_hours_lem : (counts : List (CountRow ℕ)) (means : List MeanRow) → is_some (rows_refusal counts means) ≡ false → (s : Slot) (y : ℕ) → rows_count counts s y ≤ 9000
few_hours_lem counts means e s y = go (row_of counts s) refl
  where
    go : (o : Option (CountRow ℕ)) → row_of counts s ≡ o → hours_by o y ≤ 9000
    go None q = omega arith
    go (Some r) q = hours_low r y (found count_at_fault (λ (r : CountRow ℕ). lawful_count r ≡ true) count_good [] counts (accepted counts means e).0 (λ (r : CountRow ℕ). same_slot r.slot s) r q).0

pub whole_year_lem : (o : Option MeanRow) (n : ℕ) (zs : List ℤ) → every_hour o n ≡ Some zs → length zs ≡ n
whole_year_lem None n zs e = not_none zs e
whole_year_lem (Some m) n zs e = let same : replicate n m.mcc ≡ zs = cc in ap length (sym same) ∙ length-replicate n m.mcc

-- the row of a mean that is found is within bounds, and its year has hours
pub mean_facts : (counts : List (CountRow ℕ)) (means : List MeanRow) → is_some (rows_refusal counts means) ≡ false → (l : ℕ) (s : Slot) (y : ℕ) (m : MeanRow) → mean_of means l s y ≡ Some m → Within 200000 m.mcc × (0 < rows_count counts s y)
mean_facts counts means e l s y m q =
    let f = found (mean_at_fault counts) (λ (m : MeanRow). lawful_mean counts m ≡ true) (mean_good counts) [] means (accepted counts means e).1 (λ (m : MeanRow). is_mean_of m l s y) m q in
    let a = (and_parts (nat_le m.series.location 63) (lawful_slot m.series.slot && (past_year m.series.year && (within 200000 m.mcc && nat_lt 0 (rows_count counts m.series.slot m.series.year)))) f.0).1 in
    let b = (and_parts (lawful_slot m.series.slot) (past_year m.series.year && (within 200000 m.mcc && nat_lt 0 (rows_count counts m.series.slot m.series.year))) a).1 in
    let c = (and_parts (past_year m.series.year) (within 200000 m.mcc && nat_lt 0 (rows_count counts m.series.slot m.series.year)) b).1 in
    let d = and_parts (within 200000 m.mcc) (nat_lt 0 (rows_count counts m.series.slot m.series.year)) c in
    let p = (and_parts (m.series.location == l) (same_slot m.series.slot s && m.series.year == y) f.1).1 in
    let r = and_parts (same_slot m.series.slot s) (m.series.year == y) p in
    let here : rows_count counts m.series.slot m.series.year ≡ rows_count counts s y =
    ap (λ (t : Slot). rows_count counts t m.series.year) (slot_same m.series.slot s r.0) ∙ ap (rows_count counts s) (eqb-true m.series.year y r.1) in
    (within-Within 200000 m.mcc d.0, subst (λ (n : ℕ). 0 < n) here (ltb-true 0 _ d.1))

pub empty_year_lem : (counts : List (CountRow ℕ)) (means : List MeanRow) → is_some (rows_refusal counts means) ≡ false → (l : ℕ) (s : Slot) (y : ℕ) → rows_count counts s y ≡ 0 → mean_prices counts means l s y ≡ None
empty_year_lem counts means e l s y z = go (mean_of means l s y) refl
  where
    go : (o : Option MeanRow) → mean_of means l s y ≡ o → every_hour o (rows_count counts s y) ≡ None
    go None q = refl
    go (Some m) q = let f = (mean_facts counts means e l s y m q).1 in absurd (omega arith)

pub small_prices_lem : (counts : List (CountRow ℕ)) (means : List MeanRow) → is_some (rows_refusal counts means) ≡ false → (l : ℕ) (s : Slot) (y : ℕ) (zs : List ℤ) (h : ℕ) → mean_prices counts means l s y ≡ Some zs → Within 200000 (slice_index_or zs h (pos 0))
small_prices_lem counts means e l s y zs h q = go (mean_of means l s y) refl q
  where
    at : (n : ℕ) (z : ℤ) → Within 200000 z → (h < n) ⊎ (n ≤ h) → Within 200000 (slice_index_or (replicate n z) h (pos 0))
    at n z w (inl below) = subst (Within 200000) (sym (get_or-replicate n h z (pos 0) below)) w
    at n z w (inr past) = subst (Within 200000) (sym (get_or_past (replicate n z) h (pos 0) (simp length-replicate past))) (omega (arith, ints), omega (arith, ints))

    go : (o : Option MeanRow) → mean_of means l s y ≡ o → every_hour o (rows_count counts s y) ≡ Some zs → Within 200000 (slice_index_or zs h (pos 0))
    go None k p = not_none zs p
    go (Some m) k p =
        let same : replicate (rows_count counts s y) m.mcc ≡ zs = cc in
        subst (λ (ws : List ℤ). Within 200000 (slice_index_or ws h (pos 0))) same (at (rows_count counts s y) m.mcc (mean_facts counts means e l s y m k).0 (cases_lt h (rows_count counts s y)))

-- an hour of a year whose row is found
pub mean_hour : (counts : List (CountRow ℕ)) (means : List MeanRow) (l : ℕ) (s : Slot) (y h : ℕ) (m : MeanRow) → true ≡ lawful_slot s → true ≡ past_year y → l < 64 → mean_of means l s y ≡ Some m →
    priced 64 (mean_prices counts means) l s y h ≡ hour_of (Ok (replicate (rows_count counts s y) m.mcc)) l y h
mean_hour counts means l s y h m lawful past known there =
    ap (λ (r : Result (List ℤ) Fault). hour_of r l y h) (asked_well 64 (mean_prices counts means) l s y lawful past known ∙ ap (λ (o : Option MeanRow). present (every_hour o (rows_count counts s y)) l y) there)

pub mean_below : (counts : List (CountRow ℕ)) (means : List MeanRow) (l : ℕ) (s : Slot) (y h : ℕ) (m : MeanRow) → true ≡ lawful_slot s → true ≡ past_year y → l < 64 → mean_of means l s y ≡ Some m →
    h < rows_count counts s y → priced 64 (mean_prices counts means) l s y h ≡ Ok m.mcc
mean_below counts means l s y h m lawful past known there below =
    let n : ℕ = rows_count counts s y in
    mean_hour counts means l s y h m lawful past known there ∙ hour_below (replicate n m.mcc) l y h (simp length-replicate below) ∙ ap Ok (get_or-replicate n h m.mcc (pos 0) below)

pub mean_past : (counts : List (CountRow ℕ)) (means : List MeanRow) (l : ℕ) (s : Slot) (y h : ℕ) (m : MeanRow) → true ≡ lawful_slot s → true ≡ past_year y → l < 64 → mean_of means l s y ≡ Some m →
    rows_count counts s y ≤ h → priced 64 (mean_prices counts means) l s y h ≡ Err (past_count l y)
mean_past counts means l s y h m lawful past known there over =
    mean_hour counts means l s y h m lawful past known there ∙ hour_past (replicate (rows_count counts s y) m.mcc) l y h (simp length-replicate over)
