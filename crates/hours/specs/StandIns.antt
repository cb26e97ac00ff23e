-- The proxy: what stands in for a year that a location lacks.
use Rattle.std.specs.Prelude.{ℕ, zero, suc, ◌+◌, cond, List, [], ◌∷◌, map, ℤ, pos, ◌+ℤ◌, Some, None, Ok, Err, Option, Result, nat_lt, slice_index_or}
use Rattle.std.specs.Int.Signed.{shr_z}
use Rattle.std.specs.List.{range_with_len}
use Rattle.hours.specs.declared.fault.Fault.{Fault}

-- a sum divided by how many were added up, rounded down, below zero too
abbrev pub mean_down : ℤ → ℕ → ℤ
mean_down sum n = shr_z sum n

-- In what follows `years` has the prices of one year at each location, or none where the location lacks the year.

-- one location more: its price in an hour counts only where it has the year
abbrev pub plus_price : Option (List ℤ) → ℕ → ℤ → ℤ
plus_price None h sum = sum
plus_price (Some zs) h sum = sum +ℤ slice_index_or zs h (pos 0)

abbrev pub plus_one : Option (List ℤ) → ℕ → ℕ
plus_one None n = n
plus_one (Some zs) n = n + 1

-- the sum of the prices in an hour, over those of the first n locations that have the year
abbrev pub sum_at : (ℕ → Option (List ℤ)) → ℕ → ℕ → ℤ
sum_at years h zero = pos 0
sum_at years h (suc n) = plus_price (years n) h (sum_at years h n)

-- how many of the first n locations have the year
abbrev pub having : (ℕ → Option (List ℤ)) → ℕ → ℕ
having years zero = 0
having years (suc n) = plus_one (years n) (having years n)

-- the mean price in an hour over the locations that have the year
abbrev pub mean_at : (ℕ → Option (List ℤ)) → ℕ → ℕ → ℤ
mean_at years n h = mean_down (sum_at years h n) (having years n)

-- hour by hour the mean over n locations, if some location has the year
abbrev pub stand_in : (ℕ → Option (List ℤ)) → ℕ → ℕ → Option (List ℤ)
stand_in years n count = cond (nat_lt 0 (having years n)) (Some (map (mean_at years n) (range_with_len 0 count))) None

-- a year that is lacking is stood in for, one that is there stays
abbrev pub or_stand_in : Option (List ℤ) → Option (List ℤ) → Option (List ℤ)
or_stand_in (Some zs) means = Some zs
or_stand_in None means = means

abbrev pub proxied : (ℕ → Option (List ℤ)) → ℕ → ℕ → ℕ → Option (List ℤ)
proxied years n count l = or_stand_in (years l) (stand_in years n count)

-- The same sum and number by the answers of a source, location by location.

abbrev pub plus_answer : Result ℤ Fault → ℤ → ℤ
plus_answer (Ok z) sum = sum +ℤ z
plus_answer (Err e) sum = sum

abbrev pub plus_answered : Result ℤ Fault → ℕ → ℕ
plus_answered (Ok z) n = n + 1
plus_answered (Err e) n = n

abbrev pub sum_of : (ℕ → Result ℤ Fault) → ℕ → ℤ
sum_of answers zero = pos 0
sum_of answers (suc n) = plus_answer (answers n) (sum_of answers n)

abbrev pub number_of : (ℕ → Result ℤ Fault) → ℕ → ℕ
number_of answers zero = 0
number_of answers (suc n) = plus_answered (answers n) (number_of answers n)

-- A worked figure: location 0 has the price a in the one hour of a year, location 1 has b, and no other has the year.
abbrev pub two_prices : ℤ → ℤ → ℕ → Option (List ℤ)
two_prices a b zero = Some (a ∷ [])
two_prices a b (suc zero) = Some (b ∷ [])
two_prices a b (suc (suc l)) = None
