-- The entries before, kept in tables: another memory for the reader of recorded hours.
use Rattle.std.specs.Prelude.{◌≡◌, ℕ, zero, suc, ◌+◌, ◌*◌, Bool, cond, List, length, replicate, ℤ, Some, None, Ok, Err, Option, Result, nat_le, nat_lt, slice_index, slice_index_or, slice_set}
use Rattle.hours.specs.declared.period.Slot.{Slot}
use Rattle.hours.specs.declared.counts.Counts.{Counts}
use Rattle.hours.specs.declared.rows.CountRow.{CountRow}
use Rattle.hours.specs.declared.series.Series.{Series}
use Rattle.hours.specs.declared.recorded.entry.Head.{Head}
use Rattle.hours.specs.declared.recorded.tables.Tables.{Tables}
use Rattle.hours.specs.declared.unlawful.Unlawful.{Unlawful}
use Rattle.hours.specs.RecordedFormat.{Memory, Left, both_sections, or_instead}

-- where a slot stands in the table of counts, and a series in the table of starts
abbrev pub slot_number : Slot → ℕ
slot_number s = s.period.months * 26 + s.period.first * 2 + s.class

abbrev pub series_number : Series → ℕ
series_number s = slot_number s.slot * 128 + s.location * 2 + s.year

abbrev pub tabled_counts : Tables → Slot → Option (Counts ℕ)
tabled_counts t slot = slice_index_or t.counts (slot_number slot) None

-- where the prices of a series start: 0 where it is not there
abbrev pub start_of : Tables → Series → ℕ
start_of t series = slice_index t.starts (series_number series)

-- the same as an answer
abbrev pub start_found : ℕ → Option ℕ
start_found zero = None
start_found (suc n) = Some (suc n)

abbrev pub with_entry : Tables → CountRow ℕ → Tables
with_entry t e = record { counts = slice_set t.counts (slot_number e.slot) (Some e.counts); starts = t.starts; next = t.next + 6 }

abbrev pub has_start : Tables → Series → Bool
has_start t series = nat_lt 0 (start_of t series)

-- the prices follow the six numbers of their head
abbrev pub with_series : Tables → Head → List ℤ → Tables
with_series t h prices = record { counts = t.counts; starts = slice_set t.starts (series_number h.series) (t.next + 6); next = t.next + 6 + h.hours }

abbrev pub in_tables : Memory Tables
in_tables = record { counts = tabled_counts; list = with_entry; has = has_start; put = with_series }

-- the first entry of the second section comes after the counts of both sections, and after the entries of the first section: six numbers each
abbrev pub empty_tables : Tables
empty_tables = record { counts = replicate 338 None; starts = replicate 43264 0; next = 2 }

-- the tables of the numbers, or the line at which they are refused
abbrev pub tables_read : List ℤ → Result Tables ℕ
tables_read xs = cond (nat_le (length xs) 1000000) (both_sections in_tables empty_tables xs) (Err 0)

-- what is kept of the numbers: empty tables where they are refused
abbrev pub tables_of : List ℤ → Tables
tables_of xs = or_instead empty_tables (tables_read xs)

abbrev pub Sized : Tables → Type 0
Sized t = (length t.counts ≡ 338) × (length t.starts ≡ 43264)

-- what a section of them leaves
abbrev pub left_at : Tables → ℕ → List ℤ → Left Tables
left_at t line xs = record { known = t; line = line; rest = xs }

-- how a reading came out: with a value, or at the line of the refusal
abbrev pub came_out : {A : Type 0} → Result Unit Unlawful → A → Result A ℕ
came_out (Ok u) a = Ok a
came_out (Err e) a = Err e.line

-- the same, where the refusal is told by its line
abbrev pub refused_at : {A : Type 0} → Result A ℕ → Result A Unlawful
refused_at (Ok a) = Ok a
refused_at (Err line) = Err (record { line = line })
