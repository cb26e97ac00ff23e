-- Recorded hours as a list of numbers: what it says, and at which line it is refused.
--
-- section 1: count of entries; for each  first month, months, class, recent hours, distant hours, hours ahead
-- section 2: count of entries; for each  location, first month, months, class, year, hours, and that many prices
-- and nothing more.
--
-- The rule is `records`, at the end: the numbers are read entry by entry, and what was read is kept as the two lists of entries.
-- The reader itself does not say how the entries before are kept: it asks a `Memory`. To read the rule, take `lists`, which keeps the entries themselves,
-- for every memory `m` below, and `Records` for `S`. (The code keeps tables in their place; that both come out alike is proved.)
use Rattle.std.specs.Prelude.{ℕ, zero, suc, ◌+◌, Bool, cond, List, [], ◌∷◌, length, take, drop, ℤ, pos, is_some, Some, None, Ok, Err, Option, Result, int_le, nat_le, unsigned_abs}
use Rattle.hours.specs.declared.period.Slot.{Slot}
use Rattle.hours.specs.declared.unlawful.Unlawful.{Unlawful}
use Rattle.hours.specs.declared.counts.Counts.{Counts}
use Rattle.hours.specs.declared.rows.CountRow.{CountRow}
use Rattle.hours.specs.declared.series.Series.{Series}
use Rattle.hours.specs.declared.recorded.entry.Head.{Head}
use Rattle.hours.specs.Periods.{same_slot}
use Rattle.hours.specs.RecordedEntries.{and_then, entry_from, head_from, fitting, lawful_price, same_series, hours_by}

-- an entry of the second section: the prices of a location in a year of a slot
pub record Year : Type 0 where
  pub series : Series
  pub prices : List ℤ

-- what the numbers say: the entries of the two sections, the last one first
pub record Records : Type 0 where
  pub listed : List (CountRow ℕ)
  pub years : List Year

-- the counts of a slot among these entries
abbrev pub counts_among : List (CountRow ℕ) → Slot → Option (Counts ℕ)
counts_among [] slot = None
counts_among (e ∷ es) slot = cond (same_slot e.slot slot) (Some e.counts) (counts_among es slot)

-- the prices of a series among these entries
abbrev pub prices_among : List Year → Series → Option (List ℤ)
prices_among [] series = None
prices_among (y ∷ ys) series = cond (same_series y.series series) (Some y.prices) (prices_among ys series)

-- what is known of the entries before: the counts of a slot, and whether a series is there; and what is known with one entry more
pub record Memory (S : Type 0) : Type 0 where
  pub counts : S → Slot → Option (Counts ℕ)
  pub list : S → CountRow ℕ → S
  pub has : S → Series → Bool
  pub put : S → Head → List ℤ → S

-- the memory of the rule: the entries themselves
abbrev pub lists : Memory Records
lists = record {
  counts = λ r slot. counts_among r.listed slot;
  list = λ r e. record { listed = e ∷ r.listed; years = r.years };
  has = λ r series. is_some (prices_among r.years series);
  put = λ r h prices. record { listed = r.listed; years = record { series = h.series; prices = prices } ∷ r.years };
}

abbrev pub no_records : Records
no_records = record { listed = []; years = [] }

-- what is made of a value, or the line of a refusal
abbrev pub and_then_ok : {A B E : Type 0} → Result A E → (A → Result B E) → Result B E
and_then_ok (Ok a) make = make a
and_then_ok (Err e) make = Err e

-- what is made of an entry, or the line of the entry where it is at fault
abbrev pub or_refused : {A B : Type 0} → Option A → ℕ → (A → Result B ℕ) → Result B ℕ
or_refused None line make = Err line
or_refused (Some a) line make = make a

-- what a section leaves: what is known then, the line of the next entry and the numbers that follow
pub record Left (S : Type 0) : Type 0 where
  pub known : S
  pub line : ℕ
  pub rest : List ℤ

-- the entry of a slot is none where the slot is listed already
abbrev pub unlisted : Option (Counts ℕ) → Option (CountRow ℕ) → Option (CountRow ℕ)
unlisted (Some old) entry = None
unlisted None entry = entry

-- the entry of the first section at the front, unless it is cut short, unlawful or listed already
abbrev pub entry_at : {S : Type 0} → Memory S → S → List ℤ → Option (CountRow ℕ)
entry_at m s xs = cond (nat_le 6 (length xs)) (and_then (entry_from (take 6 xs)) (λ e. unlisted (m.counts s e.slot) (Some e))) None

-- some entries of the first section, the first of them at this line
abbrev pub read_entries : {S : Type 0} → Memory S → ℕ → S → ℕ → List ℤ → Result (Left S) ℕ
read_entries m zero s line xs = Ok (record { known = s; line = line; rest = xs })
read_entries m (suc n) s line xs = or_refused (entry_at m s xs) line (λ e. read_entries m n (m.list s e) (line + 1) (drop 6 xs))

-- the prices at the front, and the numbers that follow them
pub record Prices : Type 0 where
  pub these : List ℤ
  pub rest : List ℤ

-- so many prices, unless they are cut short or one of them is unlawful
abbrev pub read_prices : ℕ → List ℤ → Option Prices
read_prices zero xs = Some (record { these = []; rest = xs })
read_prices (suc k) [] = None
read_prices (suc k) (x ∷ xs) = cond (lawful_price x) (and_then (read_prices k xs) (λ p. Some (record { these = x ∷ p.these; rest = p.rest }))) None

-- the head of an entry of the second section at the front, unless it is cut short, unlawful, of another count than its slot has, or there already
abbrev pub head_at : {S : Type 0} → Memory S → S → List ℤ → Option Head
head_at m s xs =
    cond (nat_le 6 (length xs))
    (and_then (head_from (take 6 xs)) (λ h. cond (fitting (m.counts s h.series.slot) (m.has s h.series) h) (Some h) None))
    None

-- an entry of the second section, and the numbers that follow it
pub record Taken : Type 0 where
  pub head : Head
  pub prices : List ℤ
  pub rest : List ℤ

-- the prices of an entry, after its head
abbrev pub prices_after : Option Head → List ℤ → Option Taken
prices_after head xs = and_then head (λ h. and_then (read_prices h.hours xs) (λ p. Some (record { head = h; prices = p.these; rest = p.rest })))

-- the entry of the second section at the front
abbrev pub year_at : {S : Type 0} → Memory S → S → List ℤ → Option Taken
year_at m s xs = prices_after (head_at m s xs) (drop 6 xs)

-- some entries of the second section, the first of them at this line
abbrev pub read_years : {S : Type 0} → Memory S → ℕ → S → ℕ → List ℤ → Result (Left S) ℕ
read_years m zero s line xs = Ok (record { known = s; line = line; rest = xs })
read_years m (suc n) s line xs = or_refused (year_at m s xs) line (λ y. read_years m n (m.put s y.head y.prices) (line + 1) y.rest)

-- the count of a section at the front
abbrev pub count_at : List ℤ → Result ℕ ℕ
count_at [] = Err 0
count_at (count ∷ xs) = cond (int_le (pos 0) count) (Ok (unsigned_abs count)) (Err 0)

-- nothing follows
abbrev pub ended : {S : Type 0} → S → List ℤ → Result S ℕ
ended s [] = Ok s
ended s (x ∷ xs) = Err 0

abbrev pub nothing_more : {S : Type 0} → Left S → Result S ℕ
nothing_more left = ended left.known left.rest

-- the second section: its count, its entries, and nothing after them
abbrev pub second_section : {S : Type 0} → Memory S → S → ℕ → List ℤ → Result S ℕ
second_section m s line [] = Err 0
second_section m s line (count ∷ xs) = cond (int_le (pos 0) count) (and_then_ok (read_years m (unsigned_abs count) s line xs) nothing_more) (Err 0)

abbrev pub onward : {S : Type 0} → Memory S → Left S → Result S ℕ
onward m left = second_section m left.known left.line left.rest

-- the first section: its count and its entries; and then the second
abbrev pub both_sections : {S : Type 0} → Memory S → S → List ℤ → Result S ℕ
both_sections m s [] = Err 0
both_sections m s (count ∷ xs) = cond (int_le (pos 0) count) (and_then_ok (read_entries m (unsigned_abs count) s 1 xs) (onward m)) (Err 0)

-- what the numbers say, or the line at which they are refused: at most 1,000,000 numbers
abbrev pub records : List ℤ → Result Records ℕ
records xs = cond (nat_le (length xs) 1000000) (both_sections lists no_records xs) (Err 0)

-- the answer of the check
abbrev pub checked : {A : Type 0} → Result A ℕ → Result Unit Unlawful
checked (Ok a) = Ok tt
checked (Err line) = Err (record { line = line })

-- a value, or another one in place of a refusal
abbrev pub or_instead : {A : Type 0} → A → Result A ℕ → A
or_instead other (Ok a) = a
or_instead other (Err line) = other

-- what is kept of the numbers: nothing where they are refused
abbrev pub records_of : List ℤ → Records
records_of xs = or_instead no_records (records xs)

-- the counts of a slot, the hours of a year, and the prices of a location in a year
abbrev pub counts_in : Records → Slot → Option (Counts ℕ)
counts_in r slot = counts_among r.listed slot

abbrev pub hours_in : Records → Slot → ℕ → ℕ
hours_in r slot year = hours_by (counts_in r slot) year

abbrev pub prices_in : Records → ℕ → Slot → ℕ → Option (List ℤ)
prices_in r location slot year = prices_among r.years (record { location = location; slot = slot; year = year })

-- the hours and the prices that numbers mean. They stay shut where a source is used: an answer then speaks of them by name, and not of the whole format
unfoldable pub recorded_hours : List ℤ → Slot → ℕ → ℕ
recorded_hours xs slot year = hours_in (records_of xs) slot year

unfoldable pub recorded_prices : List ℤ → ℕ → Slot → ℕ → Option (List ℤ)
recorded_prices xs location slot year = prices_in (records_of xs) location slot year
