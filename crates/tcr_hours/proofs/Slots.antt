-- What is written of a listed class, and of a period, part by part. Assumes nothing.
use Rattle.std.proofs.Common.{◌≡◌, ℕ, List, ◌++◌, string_bytes, Some, codes, Option, ap, ◌∙◌, append_assoc}
use Rattle.hours.specs.declared.counts.Counts.{Counts}
use Rattle.hours.specs.declared.period.Slot.{Slot}
use Rattle.hours.specs.RecordedFormat.{Records, records_of, counts_in}
use Rattle.tcr_hours.specs.declared.listing.Written.{Written}
use Rattle.tcr_hours.specs.Lines.{slot_line}
use Rattle.tcr_hours.specs.Listings.{Adds}
use Rattle.tcr_hours.specs.Report.{locations_shown, slot_by, slot_shown, slot_of, period_shown}
use Rattle.tcr_hours.proofs.Orders.{adds_then}

-- its line, and its locations below
pub slot_written : (a b c : Written) (slot : Slot) (counts : Counts ℕ) (line : List ℕ) → Some counts ≡ counts_in (records_of a.recorded.now) slot → line ≡ slot_line slot counts ++ codes "\n" → Adds a b (λ _. line) → Adds b c (λ r. locations_shown r slot) → Adds a c (λ r. slot_shown r slot)
slot_written a b c slot counts line s l x y =
    let h = adds_then a b c (λ _. line) (λ r. locations_shown r slot) x y in
    (h.0, h.1 ∙ ap (λ (bs : List ℕ). string_bytes a.out ++ (bs ++ locations_shown (records_of a.recorded.now) slot)) l ∙ ap (λ (o : Option (Counts ℕ)). string_bytes a.out ++ slot_by (records_of a.recorded.now) slot o) s)

-- a period: its on-peak hours, then its off-peak hours
pub period_written : (r : Records) (first months : ℕ) (before on after : List ℕ) → on ≡ before ++ slot_shown r (slot_of first months 0) → after ≡ on ++ slot_shown r (slot_of first months 1) → after ≡ before ++ period_shown r first months
period_written r first months before on after o a =
    a
    ∙ ap (λ (bs : List ℕ). bs ++ slot_shown r (slot_of first months 1)) o
    ∙ append_assoc before (slot_shown r (slot_of first months 0)) (slot_shown r (slot_of first months 1))
