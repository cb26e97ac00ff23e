-- All that the program writes for a file. Assumes nothing.
use Rattle.std.specs.Prelude.{ℕ, zero, suc, ◌+◌, Bool, cond, ◌||◌, List, [], ◌++◌, ℤ, is_some, Some, None, Ok, Err, codes, Option, Result}
use Rattle.hours.specs.declared.period.Slot.{Slot}
use Rattle.hours.specs.declared.counts.Counts.{Counts}
use Rattle.hours.specs.RecordedFormat.{Records, records, counts_in, prices_in}
use Rattle.text.specs.declared.words.BadWord.{BadWord}
use Rattle.text.specs.Words.{words_of, numbers_of}
use Rattle.tcr_hours.specs.Lines.{unreadable_line, refused_line, slot_line, location_line}

-- what is written of each of n numbers in a row, the first of which is k
unfoldable pub in_order : (ℕ → List ℕ) → ℕ → ℕ → List ℕ
in_order shown zero k = []
in_order shown (suc n) k = shown k ++ in_order shown n (k + 1)

-- a location has a line where it has prices in one of the two years
abbrev pub location_by : ℕ → Bool → Bool → List ℕ
location_by location recent distant = cond (recent || distant) (location_line location recent distant ++ codes "\n") []

abbrev pub location_shown : Records → Slot → ℕ → List ℕ
location_shown r slot location = location_by location (is_some (prices_in r location slot 0)) (is_some (prices_in r location slot 1))

-- the locations are 0 to 63
abbrev pub locations_shown : Records → Slot → List ℕ
locations_shown r slot = in_order (location_shown r slot) 64 0

-- a period and class that is listed has a line, with its locations below
abbrev pub slot_by : Records → Slot → Option (Counts ℕ) → List ℕ
slot_by r slot None = []
slot_by r slot (Some counts) = (slot_line slot counts ++ codes "\n") ++ locations_shown r slot

abbrev pub slot_shown : Records → Slot → List ℕ
slot_shown r slot = slot_by r slot (counts_in r slot)

-- the hours of a class in a period
abbrev pub slot_of : ℕ → ℕ → ℕ → Slot
slot_of first months class = record { period = record { first = first; months = months }; class = class }

-- the on-peak hours of a period, then its off-peak hours
abbrev pub period_shown : Records → ℕ → ℕ → List ℕ
period_shown r first months = slot_shown r (slot_of first months 0) ++ slot_shown r (slot_of first months 1)

-- the periods that start in a month, the shortest first
abbrev pub first_month_shown : Records → ℕ → List ℕ
first_month_shown r first = in_order (period_shown r first) 12 1

-- the periods by their first months
abbrev pub listing_of : Records → List ℕ
listing_of r = codes "lawful recorded hours\n" ++ in_order (first_month_shown r) 12 1

-- numbers are lawful, and what they say is listed, or they are refused at a line
abbrev pub verdict_of : Result Records ℕ → List ℕ
verdict_of (Ok r) = listing_of r
verdict_of (Err line) = refused_line line ++ codes "\n"

-- all words of a file are numbers, or one is told that is none
abbrev pub read_of : Result (List ℤ) BadWord → List ℕ
read_of (Ok numbers) = verdict_of (records numbers)
read_of (Err bad) = unreadable_line bad ++ codes "\n"

abbrev pub report_of : List ℕ → List ℕ
report_of bytes = read_of (numbers_of (words_of bytes))
