-- The tables and the lists of the entries before say the same.
use Rattle.std.specs.Prelude.{◌≡◌, ℕ, ◌+◌, ◌<◌, ◌≤◌, Bool, true, false, cond, List, [], ◌++◌, length, take, drop, ℤ, pos, Some, None, Option, ◌==◌, ◌≢◌, slice_index_or, refl}
use Rattle.std.proofs.Common.{sym, ap, ◌∙◌, subst, inl, inr, arith}
use Rattle.std.proofs.lemmas.List.{length-set, get_or-set_same, get_or-set_other, get_or-replicate, length-replicate, take_at}
use Rattle.std.proofs.lemmas.Bool.{cases_Bool, cond-true, cond-false}
use Rattle.std.proofs.lemmas.Bool.Decides.{nat_tests}
use Rattle.std.proofs.lemmas.Option.{none-some}
use Rattle.hours.specs.declared.period.Slot.{Slot}
use Rattle.hours.specs.declared.counts.Counts.{Counts}
use Rattle.hours.specs.declared.rows.CountRow.{CountRow}
use Rattle.hours.specs.declared.series.Series.{Series}
use Rattle.hours.specs.declared.recorded.entry.Head.{Head}
use Rattle.hours.specs.declared.recorded.tables.Tables.{Tables}
use Rattle.hours.specs.LawfulRows.{slot_same}
use Rattle.hours.specs.Periods.{lawful_slot, same_slot}
use Rattle.hours.specs.RecordedEntries.{hours_by, lawful_price, same_series, LawfulSeries}
use Rattle.hours.specs.RecordedFormat.{Year, Records, lists, no_records, counts_among, prices_among}
use Rattle.hours.specs.RecordedTables.{slot_number, series_number, tabled_counts, start_of, with_entry, with_series, empty_tables, Sized}
use Rattle.hours.specs.RecordedLawful.{slot_bounds, FewHours}

-- where the prices of a series stand among all numbers, and how many they are
unfoldable pub Stands : List ℤ → ℕ → ℕ → Option (List ℤ) → Type 0
Stands all start n None = start ≡ 0
Stands all start n (Some vs) = (0 < start) × (take (length vs) (drop start all) ≡ vs) × (length vs ≡ n) × (0 < n)

-- each of these prices is lawful
abbrev pub Near : List ℤ → Type 0
Near vs = (n : ℕ) → lawful_price (slice_index_or vs n (pos 0)) ≡ true

-- tables and records that say the same, and what both are held to
pub record Same (all : List ℤ) (t : Tables) (r : Records) : Type 0 where
  pub sized : Sized t
  pub looks : (k : Slot) → lawful_slot k ≡ true → tabled_counts t k ≡ counts_among r.listed k
  pub stands : (s : Series) → LawfulSeries s → Stands all (start_of t s) (hours_by (counts_among r.listed s.slot) s.year) (prices_among r.years s)
  pub slots : (k : Slot) (c : Counts ℕ) → counts_among r.listed k ≡ Some c → lawful_slot k ≡ true
  pub series : (s : Series) (vs : List ℤ) → prices_among r.years s ≡ Some vs → LawfulSeries s
  pub few : (k : Slot) (y : ℕ) → hours_by (counts_among r.listed k) y ≤ 9000
  pub near : (s : Series) (vs : List ℤ) → prices_among r.years s ≡ Some vs → Near vs

slot_within : (k : Slot) → lawful_slot k ≡ true → slot_number k < 338
slot_within k e = let b = slot_bounds k e in omega arith

series_within : (s : Series) → LawfulSeries s → series_number s < 43264
series_within s l = let b = slot_bounds s.slot l.0 in omega arith

pub same_none : (all : List ℤ) → Same all empty_tables no_records
unfolding Stands
same_none all =
    record {
      sized = (length-replicate {A = Option (Counts ℕ)} 338 None, length-replicate {A = ℕ} 43264 0);
      looks = λ k e. get_or-replicate 338 (slot_number k) None None (slot_within k e);
      stands = λ s e. get_or-replicate 43264 (series_number s) 0 0 (series_within s e);
      slots = λ k c p. absurd (none-some c p);
      series = λ s vs p. absurd (none-some vs p);
      few = λ k y. omega arith;
      near = λ s vs p. absurd (none-some vs p);
    }

-- numbers of slots and of series

slots_apart : (k j : Slot) → lawful_slot k ≡ true → lawful_slot j ≡ true → same_slot k j ≡ false → slot_number j ≢ slot_number k
slots_apart k j s t e h =
    let a = slot_bounds k s in
    let b = slot_bounds j t in
    let n : k.period.months ≡ j.period.months = omega arith in
    let f : k.period.first ≡ j.period.first = omega arith in
    let c : k.class ≡ j.class = omega arith in
    other k j n f c e
  where
    other : (k j : Slot) → k.period.months ≡ j.period.months → k.period.first ≡ j.period.first → k.class ≡ j.class → same_slot k j ≢ false
    other k j n f c e = grind (arith, nat_tests)

same_series_lem : (a b : Series) → same_series a b ≡ true → a ≡ b
same_series_lem a b e =
    let k : same_slot a.slot b.slot ≡ true = grind (arith, nat_tests) in
    let l : a.location ≡ b.location = grind (arith, nat_tests) in
    let y : a.year ≡ b.year = grind (arith, nat_tests) in
    let s : a.slot ≡ b.slot = slot_same a.slot b.slot k in
    λ i. record { location = l i; slot = s i; year = y i }

series_apart : (a b : Series) → LawfulSeries a → LawfulSeries b → same_series a b ≡ false → series_number b ≢ series_number a
series_apart a b s t e h =
    let p = slot_bounds a.slot s.0 in
    let q = slot_bounds b.slot t.0 in
    let n : a.slot.period.months ≡ b.slot.period.months = omega arith in
    let f : a.slot.period.first ≡ b.slot.period.first = omega arith in
    let c : a.slot.class ≡ b.slot.class = omega arith in
    let l : a.location ≡ b.location = omega arith in
    let y : a.year ≡ b.year = omega arith in
    other a b n f c l y e
  where
    other : (a b : Series) → a.slot.period.months ≡ b.slot.period.months → a.slot.period.first ≡ b.slot.period.first → a.slot.class ≡ b.slot.class → a.location ≡ b.location → a.year ≡ b.year → same_series a b ≢ false
    other a b n f c l y e = grind (arith, nat_tests)

-- an entry of the first section more

few_by : (c : Counts ℕ) (y : ℕ) → FewHours c → hours_by (Some c) y ≤ 9000
few_by c y f = go (y == 0) (y == 1) (y == 2)
  where
    go : (a b d : Bool) → cond a c.recent (cond b c.distant (cond d c.ahead 0)) ≤ 9000
    go true b d = f.0
    go false true d = f.1
    go false false true = f.2
    go false false false = omega arith

few_either : (b : Bool) (c : Counts ℕ) (o : Option (Counts ℕ)) (y : ℕ) → FewHours c → hours_by o y ≤ 9000 → hours_by (cond b (Some c) o) y ≤ 9000
few_either true c o y f h = few_by c y f
few_either false c o y f h = h

none_stands : (all : List ℤ) (n m s : ℕ) (o : Option (List ℤ)) → o ≡ None → Stands all s n o → Stands all s m o
unfolding Stands
none_stands all n m s None e h = h
none_stands all n m s (Some vs) e h = absurd (none-some vs (sym e))

pub same_entry : (all : List ℤ) (t : Tables) (r : Records) (e : CountRow ℕ) → lawful_slot e.slot ≡ true → FewHours e.counts → r.years ≡ [] → Same all t r → Same all (with_entry t e) (lists.list r e)
same_entry all t r e lawful few none same =
    record {
      sized = (simp length-set same.sized.0, same.sized.1);
      looks = λ k m. elim (cases_Bool (same_slot e.slot k)) [
        | inl y ↦
            let long : slot_number e.slot < length t.counts = let l = same.sized.0 in let w = slot_within e.slot lawful in omega arith in
            ap (λ (j : Slot). tabled_counts (with_entry t e) j) (sym (slot_same e.slot k y)) ∙ get_or-set_same t.counts (slot_number e.slot) (Some e.counts) None long
            ∙ sym (cond-true (same_slot e.slot k) (Some e.counts) (counts_among r.listed k) y)
        | inr n ↦
            get_or-set_other t.counts (slot_number e.slot) (slot_number k) (Some e.counts) None (slots_apart e.slot k lawful m n) ∙ same.looks k m
            ∙ sym (cond-false (same_slot e.slot k) (Some e.counts) (counts_among r.listed k) n)
      ];
      stands = λ s m. none_stands all _ _ _ (prices_among r.years s) (ap (λ (ys : List Year). prices_among ys s) none) (same.stands s m);
      slots = λ k c p. elim (cases_Bool (same_slot e.slot k)) [
        | inl y ↦ subst (λ (k : Slot). lawful_slot k ≡ true) (slot_same e.slot k y) lawful
        | inr n ↦ same.slots k c (sym (cond-false (same_slot e.slot k) (Some e.counts) (counts_among r.listed k) n) ∙ p)
      ];
      series = same.series;
      few = λ k y. few_either (same_slot e.slot k) e.counts (counts_among r.listed k) y few (same.few k y);
      near = same.near;
    }

-- an entry of the second section more: its prices are the next among all numbers, after the six numbers of its head
pub same_year : (all : List ℤ) (t : Tables) (r : Records) (h : Head) (vs rest : List ℤ) → LawfulSeries h.series → drop (t.next + 6) all ≡ vs ++ rest →
    length vs ≡ hours_by (counts_among r.listed h.series.slot) h.series.year → 0 < length vs → Near vs → Same all t r → Same all (with_series t h vs) (lists.put r h vs)
unfolding Stands
same_year all t r h vs rest lawful d l some close same =
    let key : Series = h.series in
    let long : series_number key < length t.starts = let w = same.sized.1 in let v = series_within key lawful in omega arith in
    record {
      sized = (same.sized.0, simp length-set same.sized.1);
      looks = same.looks;
      stands = λ s m. elim (cases_Bool (same_series key s)) [
        | inl y ↦
            let at : start_of (with_series t h vs) key ≡ t.next + 6 = get_or-set_same t.starts (series_number key) (t.next + 6) 0 long in
            let there : Stands all (t.next + 6) (hours_by (counts_among r.listed key.slot) key.year) (Some vs) =
            (omega arith, ap (take (length vs)) d ∙ take_at vs rest (length vs) refl, l, subst (λ (n : ℕ). 0 < n) l some) in
            let here : Stands all (start_of (with_series t h vs) key) (hours_by (counts_among r.listed key.slot) key.year) (Some vs) =
            subst (λ (p : ℕ). Stands all p (hours_by (counts_among r.listed key.slot) key.year) (Some vs)) (sym at) there in
            subst (λ (o : Option (List ℤ)). Stands all (start_of (with_series t h vs) s) (hours_by (counts_among r.listed s.slot) s.year) o)
            (sym (cond-true (same_series key s) (Some vs) (prices_among r.years s) y))
            (subst (λ (s : Series). Stands all (start_of (with_series t h vs) s) (hours_by (counts_among r.listed s.slot) s.year) (Some vs)) (same_series_lem key s y) here)
        | inr n ↦
            subst (λ (o : Option (List ℤ)). Stands all (start_of (with_series t h vs) s) (hours_by (counts_among r.listed s.slot) s.year) o)
            (sym (cond-false (same_series key s) (Some vs) (prices_among r.years s) n))
            (subst (λ (p : ℕ). Stands all p (hours_by (counts_among r.listed s.slot) s.year) (prices_among r.years s))
            (sym (get_or-set_other t.starts (series_number key) (series_number s) (t.next + 6) 0 (series_apart key s lawful m n))) (same.stands s m))
      ];
      slots = same.slots;
      series = λ s ws p. elim (cases_Bool (same_series key s)) [
        | inl y ↦ subst LawfulSeries (same_series_lem key s y) lawful
        | inr n ↦ same.series s ws (sym (cond-false (same_series key s) (Some vs) (prices_among r.years s) n) ∙ p)
      ];
      few = same.few;
      near = λ s ws p. elim (cases_Bool (same_series key s)) [
        | inl y ↦ let q : vs ≡ ws = let w = sym (cond-true (same_series key s) (Some vs) (prices_among r.years s) y) ∙ p in cc in subst Near q close
        | inr n ↦ same.near s ws (sym (cond-false (same_series key s) (Some vs) (prices_among r.years s) n) ∙ p)
      ];
    }
