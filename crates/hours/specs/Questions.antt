-- What a source answers, by what it means: `count` gives the hours of a slot in a year, `prices` the prices of a location, slot and year, or none.
use Rattle.std.specs.Prelude.{ℕ, cond, ◌&&◌, List, ◌++◌, length, drop, ℤ, pos, Some, None, Ok, Err, Option, Result, nat_lt, slice_index_or}
use Rattle.hours.specs.declared.fault.Fault.{Fault}
use Rattle.hours.specs.declared.period.Slot.{Slot}
use Rattle.hours.specs.Faults.{unlawful_question, unknown_location, lacking_year, past_count}
use Rattle.hours.specs.Periods.{lawful_slot, lawful_year, past_year}

-- whether hours of a slot can be counted in a year
abbrev pub countable : Slot → ℕ → Result Unit Fault
countable s y = cond (lawful_slot s && lawful_year y) (Ok tt) (Err unlawful_question)

-- how many hours a slot has in a year
abbrev pub counted : (Slot → ℕ → ℕ) → Slot → ℕ → Result ℕ Fault
counted count s y = cond (lawful_slot s && lawful_year y) (Ok (count s y)) (Err unlawful_question)

-- whether a source that knows so many locations can be asked for the prices of a year: first the question is looked at, then the location
abbrev pub askable : ℕ → ℕ → Slot → ℕ → Result Unit Fault
askable locations l s y = cond (lawful_slot s && past_year y) (cond (nat_lt l locations) (Ok tt) (Err (unknown_location l))) (Err unlawful_question)

-- the prices of a year, if the location has them
abbrev pub present : Option (List ℤ) → ℕ → ℕ → Result (List ℤ) Fault
present None l y = Err (lacking_year l y)
present (Some zs) l y = Ok zs

-- all prices of a location in a year: first the question is looked at, then the location, then the year
abbrev pub year_of : ℕ → (ℕ → Slot → ℕ → Option (List ℤ)) → ℕ → Slot → ℕ → Result (List ℤ) Fault
year_of locations prices l s y =
    cond (lawful_slot s && past_year y) (cond (nat_lt l locations) (present (prices l s y) l y) (Err (unknown_location l))) (Err unlawful_question)

-- the price of one hour among those of its year
abbrev pub hour_of : Result (List ℤ) Fault → ℕ → ℕ → ℕ → Result ℤ Fault
hour_of (Err e) l y h = Err e
hour_of (Ok zs) l y h = cond (nat_lt h (length zs)) (Ok (slice_index_or zs h (pos 0))) (Err (past_count l y))

-- the price of one hour: as for a year, and last the hour itself
abbrev pub priced : ℕ → (ℕ → Slot → ℕ → Option (List ℤ)) → ℕ → Slot → ℕ → ℕ → Result ℤ Fault
priced locations prices l s y h = hour_of (year_of locations prices l s y) l y h

-- how many hours were written into a buffer, and the buffer afterwards: the year at its front, the rest as it was
abbrev pub how_many : Result (List ℤ) Fault → Result ℕ Fault
how_many (Err e) = Err e
how_many (Ok zs) = Ok (length zs)

abbrev pub written : Result (List ℤ) Fault → List ℤ → List ℤ
written (Err e) buffer = buffer
written (Ok zs) buffer = zs ++ drop (length zs) buffer
