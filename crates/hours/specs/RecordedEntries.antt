-- The entries of recorded hours, each taken from its own numbers.
use Rattle.std.specs.Prelude.{◌≡◌, ℕ, ◌≤◌, Bool, true, cond, not, ◌&&◌, List, ℤ, pos, Some, None, Option, ◌==◌, int_le, nat_le, slice_index_or, unsigned_abs}
use Rattle.hours.specs.declared.period.Slot.{Slot}
use Rattle.hours.specs.declared.counts.Counts.{Counts}
use Rattle.hours.specs.declared.rows.CountRow.{CountRow}
use Rattle.hours.specs.declared.series.Series.{Series}
use Rattle.hours.specs.declared.recorded.entry.Head.{Head}
use Rattle.hours.specs.Bounds.{within}
use Rattle.hours.specs.Counting.{hours_of}
use Rattle.hours.specs.Periods.{lawful_slot, past_year, same_slot}

-- what is made of a value, if there is one
abbrev pub and_then : {A B : Type 0} → Option A → (A → Option B) → Option B
and_then None make = None
and_then (Some a) make = make a

-- a number from 0 to a bound
abbrev pub up_to : ℕ → ℤ → Option ℕ
up_to most x = cond (int_le (pos 0) x && int_le x (pos most)) (Some (unsigned_abs x)) None

-- the slot with this first month, these months and this class, if there is one
abbrev pub slot_from : ℤ → ℤ → ℤ → Option Slot
slot_from first months class =
    and_then (up_to 12 first) (λ f. and_then (up_to 12 months) (λ n. and_then (up_to 1 class) (λ c.
    cond (lawful_slot (record { period = record { first = f; months = n }; class = c })) (Some (record { period = record { first = f; months = n }; class = c })) None)))

-- an entry of the first section by its six numbers: first month, months, class, and the hours of the recent year, of the distant year and ahead
abbrev pub entry_from : List ℤ → Option (CountRow ℕ)
entry_from xs =
    and_then (slot_from (slice_index_or xs 0 (pos 0)) (slice_index_or xs 1 (pos 0)) (slice_index_or xs 2 (pos 0))) (λ slot.
    and_then (up_to 9000 (slice_index_or xs 3 (pos 0))) (λ recent. and_then (up_to 9000 (slice_index_or xs 4 (pos 0))) (λ distant. and_then (up_to 9000 (slice_index_or xs 5 (pos 0))) (λ ahead.
    Some (record { slot = slot; counts = record { recent = recent; distant = distant; ahead = ahead } })))))

-- the head of an entry of the second section by its six numbers: location, first month, months, class, year, and how many prices follow
abbrev pub head_from : List ℤ → Option Head
head_from xs =
    and_then (up_to 63 (slice_index_or xs 0 (pos 0))) (λ location.
    and_then (slot_from (slice_index_or xs 1 (pos 0)) (slice_index_or xs 2 (pos 0)) (slice_index_or xs 3 (pos 0))) (λ slot.
    and_then (up_to 1 (slice_index_or xs 4 (pos 0))) (λ year. and_then (up_to 9000 (slice_index_or xs 5 (pos 0))) (λ hours.
    Some (record { series = record { location = location; slot = slot; year = year }; hours = hours })))))

-- the hours of a year by the counts of its slot: 0 where the slot is not listed
abbrev pub hours_by : Option (Counts ℕ) → ℕ → ℕ
hours_by None year = 0
hours_by (Some c) year = hours_of c year

-- whether the entry of a head may stand: it has at least one hour, as many as the counts of its slot say, and it is not there already
abbrev pub fitting : Option (Counts ℕ) → Bool → Head → Bool
fitting known there h = nat_le 1 h.hours && (h.hours == hours_by known h.series.year && not there)

-- a price is within 200,000 cents either way
abbrev pub lawful_price : ℤ → Bool
lawful_price x = within 200000 x

abbrev pub same_series : Series → Series → Bool
same_series a b = a.location == b.location && (same_slot a.slot b.slot && a.year == b.year)

-- a series that there can be: of one of 64 locations, in a lawful slot and a past year
abbrev pub lawful_series : Series → Bool
lawful_series s = lawful_slot s.slot && (past_year s.year && nat_le s.location 63)

abbrev pub LawfulSeries : Series → Type 0
LawfulSeries s = (lawful_slot s.slot ≡ true) × (s.location ≤ 63) × (s.year ≤ 1)
