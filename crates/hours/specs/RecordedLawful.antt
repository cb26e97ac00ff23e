-- What a lawful entry of recorded hours is held to.
use Rattle.std.specs.Prelude.{◌≡◌, ℕ, ◌≤◌, Bool, true, false, List, ℤ, pos, negsuc, Some, None, Option, ◌≢◌, slice_index_or, refl}
use Rattle.std.proofs.Common.{subst, arith}
use Rattle.std.proofs.lemmas.Bool.Decides.{nat_tests}
use Rattle.std.proofs.lemmas.Option.{none-some, cond_some}
use Rattle.hours.specs.declared.period.Slot.{Slot}
use Rattle.hours.specs.declared.counts.Counts.{Counts}
use Rattle.hours.specs.declared.rows.CountRow.{CountRow}
use Rattle.hours.specs.declared.recorded.entry.Head.{Head}
use Rattle.hours.specs.declared.series.Series.{Series}
use Rattle.hours.specs.Periods.{lawful_slot}
use Rattle.hours.specs.RecordedEntries.{and_then, up_to, slot_from, entry_from, head_from, lawful_series, LawfulSeries, fitting}

-- what an `and_then` that gives something went through
pub through : {A B : Type 0} (o : Option A) (make : A → Option B) (b : B) → and_then o make ≡ Some b → (a : A) × (o ≡ Some a) × (make a ≡ Some b)
through None make b e = absurd (none-some b e)
through (Some a) make b e = (a, refl, e)

pub up_to_le : (m : ℕ) (x : ℤ) (v : ℕ) → up_to m x ≡ Some v → v ≤ m
up_to_le m (pos n) v e = grind (arith, nat_tests)
up_to_le m (negsuc n) v e = absurd (none-some v e)

-- the bounds on the months and the class of a lawful slot
pub slot_bounds : (s : Slot) → lawful_slot s ≡ true → (s.period.first ≤ 12) × (s.period.months ≤ 12) × (s.class ≤ 1)
slot_bounds s e = (grind (arith, nat_tests), grind (arith, nat_tests), grind (arith, nat_tests))

slot_lawful : (f n c : ℤ) (s : Slot) → slot_from f n c ≡ Some s → lawful_slot s ≡ true
slot_lawful f n c s e =
    let p = through (up_to 12 f) _ s e in
    let q = through (up_to 12 n) _ s p.2 in
    let r = through (up_to 1 c) _ s q.2 in
    let made : Slot = record { period = record { first = p.0; months = q.0 }; class = r.0 } in
    let w = cond_some (lawful_slot made) made s r.2 in
    subst (λ (s : Slot). lawful_slot s ≡ true) w.1 w.0

pub entry_lawful : (xs : List ℤ) (e : CountRow ℕ) → entry_from xs ≡ Some e → lawful_slot e.slot ≡ true
entry_lawful xs e h =
    let p = through (slot_from (slice_index_or xs 0 (pos 0)) (slice_index_or xs 1 (pos 0)) (slice_index_or xs 2 (pos 0))) _ e h in
    let q = through (up_to 9000 (slice_index_or xs 3 (pos 0))) _ e p.2 in
    let r = through (up_to 9000 (slice_index_or xs 4 (pos 0))) _ e q.2 in
    let s = through (up_to 9000 (slice_index_or xs 5 (pos 0))) _ e r.2 in
    let same : p.0 ≡ e.slot = let w = s.2 in cc in
    subst (λ (k : Slot). lawful_slot k ≡ true) same (slot_lawful (slice_index_or xs 0 (pos 0)) (slice_index_or xs 1 (pos 0)) (slice_index_or xs 2 (pos 0)) p.0 p.1)

-- no count is above 9,000
abbrev pub FewHours : Counts ℕ → Type 0
FewHours c = (c.recent ≤ 9000) × (c.distant ≤ 9000) × (c.ahead ≤ 9000)

pub entry_few : (xs : List ℤ) (e : CountRow ℕ) → entry_from xs ≡ Some e → FewHours e.counts
entry_few xs e h =
    let p = through (slot_from (slice_index_or xs 0 (pos 0)) (slice_index_or xs 1 (pos 0)) (slice_index_or xs 2 (pos 0))) _ e h in
    let q = through (up_to 9000 (slice_index_or xs 3 (pos 0))) _ e p.2 in
    let r = through (up_to 9000 (slice_index_or xs 4 (pos 0))) _ e q.2 in
    let s = through (up_to 9000 (slice_index_or xs 5 (pos 0))) _ e r.2 in
    let same : ◌≡◌ {A = CountRow ℕ} (record { slot = p.0; counts = record { recent = q.0; distant = r.0; ahead = s.0 } }) e = let w = s.2 in cc in
    subst (λ (e : CountRow ℕ). FewHours e.counts) same
    (up_to_le 9000 (slice_index_or xs 3 (pos 0)) q.0 q.1, up_to_le 9000 (slice_index_or xs 4 (pos 0)) r.0 r.1, up_to_le 9000 (slice_index_or xs 5 (pos 0)) s.0 s.1)

pub head_lawful : (xs : List ℤ) (h : Head) → head_from xs ≡ Some h → LawfulSeries h.series × (h.hours ≤ 9000)
head_lawful xs h e =
    let p = through (up_to 63 (slice_index_or xs 0 (pos 0))) _ h e in
    let q = through (slot_from (slice_index_or xs 1 (pos 0)) (slice_index_or xs 2 (pos 0)) (slice_index_or xs 3 (pos 0))) _ h p.2 in
    let r = through (up_to 1 (slice_index_or xs 4 (pos 0))) _ h q.2 in
    let s = through (up_to 9000 (slice_index_or xs 5 (pos 0))) _ h r.2 in
    let same : ◌≡◌ {A = Head} (record { series = record { location = p.0; slot = q.0; year = r.0 }; hours = s.0 }) h = let w = s.2 in cc in
    subst (λ (h : Head). LawfulSeries h.series × (h.hours ≤ 9000)) same (
      (slot_lawful (slice_index_or xs 1 (pos 0)) (slice_index_or xs 2 (pos 0)) (slice_index_or xs 3 (pos 0)) q.0 q.1, up_to_le 63 (slice_index_or xs 0 (pos 0)) p.0 p.1, up_to_le 1 (slice_index_or xs 4 (pos 0)) r.0 r.1),
      up_to_le 9000 (slice_index_or xs 5 (pos 0)) s.0 s.1,
    )

-- what fits has hours
pub fitting_some : (o : Option (Counts ℕ)) (there : Bool) (h : Head) → fitting o there h ≡ true → h.hours ≢ 0
fitting_some o there h e z = grind (arith, nat_tests)

pub series_lawful : (s : Series) → lawful_series s ≡ true → LawfulSeries s
series_lawful s e = (grind (arith, nat_tests), grind (arith, nat_tests), grind (arith, nat_tests))

pub series_unlawful : (s : Series) → lawful_series s ≡ false → LawfulSeries s → ⊥
series_unlawful s e l = let a = l.0 in let b = l.1 in let c = l.2 in grind (arith, nat_tests)
