-- Average hours: rows of counts, and rows of one mean price for every hour of a location's year.
use Rattle.std.specs.Prelude.{ℕ, ◌+◌, Bool, cond, not, ◌&&◌, ◌||◌, List, [], length, replicate, ℤ, is_some, Some, None, Option, ◌==◌, nat_le, nat_lt}
use Rattle.hours.specs.declared.period.Slot.{Slot}
use Rattle.hours.specs.declared.rows.CountRow.{CountRow}
use Rattle.hours.specs.declared.rows.MeanRow.{MeanRow}
use Rattle.hours.specs.Bounds.{within}
use Rattle.hours.specs.Counting.{hours_of}
use Rattle.std.specs.List.{find}
use Rattle.hours.specs.Listings.{first_at_fault}
use Rattle.hours.specs.Periods.{lawful_slot, past_year, same_slot}

-- the hours of a row in a year
abbrev pub hours_in : CountRow ℕ → ℕ → ℕ
hours_in r y = hours_of r.counts y

-- the row of a slot, if one lists it
abbrev pub row_of : List (CountRow ℕ) → Slot → Option (CountRow ℕ)
row_of rows s = find (λ r. same_slot r.slot s) rows

-- the hours of a slot in a year: those of its row, and none where no row lists it
abbrev pub hours_by : Option (CountRow ℕ) → ℕ → ℕ
hours_by None y = 0
hours_by (Some r) y = hours_in r y

abbrev pub rows_count : List (CountRow ℕ) → Slot → ℕ → ℕ
rows_count rows s y = hours_by (row_of rows s) y

-- the row is for this location, slot and year
abbrev pub is_mean_of : MeanRow → ℕ → Slot → ℕ → Bool
is_mean_of m l s y = m.series.location == l && (same_slot m.series.slot s && m.series.year == y)

-- the row of a location's year, if one lists it
abbrev pub mean_of : List MeanRow → ℕ → Slot → ℕ → Option MeanRow
mean_of rows l s y = find (λ m. is_mean_of m l s y) rows

-- every one of n hours has the row's mean
abbrev pub every_hour : Option MeanRow → ℕ → Option (List ℤ)
every_hour None n = None
every_hour (Some m) n = Some (replicate n m.mcc)

abbrev pub mean_prices : List (CountRow ℕ) → List MeanRow → ℕ → Slot → ℕ → Option (List ℤ)
mean_prices counts means l s y = every_hour (mean_of means l s y) (rows_count counts s y)

-- a row of counts for a lawful slot, each count at most 9,000
abbrev pub lawful_count : CountRow ℕ → Bool
lawful_count r = lawful_slot r.slot && (nat_le r.counts.recent 9000 && (nat_le r.counts.distant 9000 && nat_le r.counts.ahead 9000))

-- a row of a mean within bounds, for one of 64 locations and a past year that has hours
abbrev pub lawful_mean : List (CountRow ℕ) → MeanRow → Bool
lawful_mean counts m =
    nat_le m.series.location 63 && (lawful_slot m.series.slot && (past_year m.series.year && (within 200000 m.mcc && nat_lt 0 (rows_count counts m.series.slot m.series.year))))

-- a row is at fault if it is unlawful, or if a row before it lists the same
abbrev pub count_at_fault : List (CountRow ℕ) → CountRow ℕ → Bool
count_at_fault before r = not (lawful_count r) || is_some (row_of before r.slot)

abbrev pub mean_at_fault : List (CountRow ℕ) → List MeanRow → MeanRow → Bool
mean_at_fault counts before m = not (lawful_mean counts m) || is_some (mean_of before m.series.location m.series.slot m.series.year)

-- counted on behind n rows of another kind
abbrev pub behind : ℕ → Option ℕ → Option ℕ
behind n None = None
behind n (Some k) = Some (n + k)

abbrev pub or_else : Option ℕ → Option ℕ → Option ℕ
or_else None o = o
or_else (Some k) o = Some k

-- the line at which the rows are refused, if they are: 0 for more than 12 rows of counts or 48 of means; else the first row at fault, the counts numbered first
abbrev pub rows_refusal : List (CountRow ℕ) → List MeanRow → Option ℕ
rows_refusal counts means =
    cond (nat_le (length counts) 12 && nat_le (length means) 48)
    (or_else (first_at_fault count_at_fault [] counts) (behind (length counts) (first_at_fault (mean_at_fault counts) [] means)))
    (Some 0)
