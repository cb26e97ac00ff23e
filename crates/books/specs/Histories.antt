-- The price of a key from the hours of two past years. A year's differences go by their sum and their number, (S1, n1) in the recent year and (S2, n2) in the distant one.
use Rattle.std.specs.Prelude.{ℕ, ◌*◌, cond, List, ◌++◌, ℤ, pos, ◌+ℤ◌, ◌-ℤ◌, ◌*ℤ◌, Some, None, Ok, Err, Option, Result, ◌==◌, int_lt}
use Rattle.std.specs.Int.Signed.{shr_z}
use Rattle.std.specs.Int.{int_max}
use Rattle.hours.specs.Questions.{counted, year_of}
use Rattle.hours.specs.declared.fault.Fault.{Fault}
use Rattle.hours.specs.declared.period.Slot.{Slot}
use Rattle.books.specs.BookFaults.{unlawful_key, no_hours}
use Rattle.books.specs.Differences.{differences, summed, losses}
use Rattle.books.specs.Keys.{lawful_key}
use Rattle.books.specs.Percentiles.{percentile_of}
use Rattle.books.specs.Results.{bind}
use Rattle.books.specs.declared.key.Key.{Key}
use Rattle.books.specs.declared.key.Path.{Path}

-- The mean M is the fraction A / D: the recent year counts three quarters, the distant year one quarter.
-- A = 3 S1 n2 + S2 n1
abbrev pub numerator : ℤ × ℕ → ℤ × ℕ → ℤ
numerator recent distant = pos 3 *ℤ (recent.0 *ℤ pos distant.1) +ℤ distant.0 *ℤ pos recent.1

-- D = 4 n1 n2
abbrev pub denominator : ℤ × ℕ → ℤ × ℕ → ℕ
denominator recent distant = 4 * (recent.1 * distant.1)

-- the greatest whole number that is not above a / d
abbrev pub floored : ℤ → ℕ → ℤ
floored a d = shr_z a d

-- H M, rounded down, below zero too
abbrev pub mean_ahead : ℕ → ℤ × ℕ → ℤ × ℕ → ℤ
mean_ahead ahead recent distant = floored (numerator recent distant *ℤ pos ahead) (denominator recent distant)

-- how many in a hundred hours the stress covers: 75 where the mean is above zero, else 90
abbrev pub percent : ℤ → ℕ
percent a = cond (int_lt (pos 0) a) 75 90

-- the percentile of the losses, or 0 if that is a gain
abbrev pub stress_of : Option ℤ → ℤ
stress_of None = pos 0
stress_of (Some v) = int_max v (pos 0)

-- the price: the mean over the hours ahead, less the stress in each of them
abbrev pub price_from : ℕ → ℤ × ℕ → ℤ × ℕ → List ℤ → ℤ
price_from ahead recent distant lost =
    mean_ahead ahead recent distant -ℤ stress_of (percentile_of (percent (numerator recent distant)) lost) *ℤ pos ahead

-- the same from the differences of both years
abbrev pub path_price : ℕ → List ℤ → List ℤ → ℤ
path_price ahead recent distant = price_from ahead (summed recent) (summed distant) (losses (recent ++ distant))

-- the hours of a slot in a year, of which there have to be some
abbrev pub some_hours : (Slot → ℕ → ℕ) → Slot → ℕ → Result ℕ Fault
some_hours hours s y = bind (counted hours s y) (λ n. cond (n == 0) (Err (no_hours y)) (Ok n))

-- the differences of both years, by the prices of a location in a year: first the source's two years are asked for, then the sink's
abbrev pub path_years : (ℕ → Slot → ℕ → Result (List ℤ) Fault) → Path → Slot → Result (List ℤ × List ℤ) Fault
path_years year p s =
    bind (year p.source s 0) (λ a. bind (year p.source s 1) (λ b. bind (year p.sink s 0) (λ c. bind (year p.sink s 1) (λ d. Ok (differences c a, differences d b)))))

-- the price of a path whose differences are known
abbrev pub priced_years : ℕ → Result (List ℤ × List ℤ) Fault → Result ℤ Fault
priced_years ahead r = bind r (λ years. Ok (path_price ahead years.0 years.1))

-- the price of a key: the key has to be lawful, the three counts must not be 0, and both locations need both years
abbrev pub history_price : (Slot → ℕ → ℕ) → ℕ → (ℕ → Slot → ℕ → Option (List ℤ)) → Key → Result ℤ Fault
history_price hours locations prices k =
    cond (lawful_key k)
    (bind (some_hours hours k.slot 0) (λ _. bind (some_hours hours k.slot 1) (λ _. bind (some_hours hours k.slot 2) (λ ahead.
    priced_years ahead (path_years (year_of locations prices) k.path k.slot)))))
    (Err unlawful_key)
