-- Prices, and the bounds within which the gate's numbers are lawful.
use Rattle.std.specs.Prelude.{ℕ, ◌+◌, Bool, ◌&&◌, ℤ, Result, ◌==◌, nat_le, nat_lt}
use Rattle.hours.specs.Bounds.{within}
use Rattle.hours.specs.declared.fault.Fault.{Fault}
use Rattle.hours.specs.declared.period.Period.{Period}
use Rattle.books.specs.declared.key.Key.{Key}

-- what a book answers for each key: cents per megawatt for the whole period, or a fault
abbrev pub Prices : Type 0
Prices = Key → Result ℤ Fault

-- the last month is not before the open month o
abbrev pub unfinished : ℕ → Period → Bool
unfinished o p = nat_lt o (p.first + p.months)

-- tenths of a megawatt
abbrev pub lawful_megawatts : ℕ → Bool
lawful_megawatts q = nat_le 1 q && nat_le q 20_000

abbrev pub lawful_price : ℤ → Bool
lawful_price x = within 8_000_000_000 x

abbrev pub customer : ℕ → Bool
customer c = nat_le 1 c && nat_le c 16

abbrev pub same_period : Period → Period → Bool
same_period p q = p.first == q.first && p.months == q.months
