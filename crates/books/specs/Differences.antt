-- What a path paid in each hour of a year: the sink's price less the source's.
use Rattle.std.specs.Prelude.{◌≡◌, ℕ, ◌*◌, ◌<◌, ◌≤◌, List, [], ◌∷◌, ◌++◌, map, length, take, drop, ℤ, pos, ◌+ℤ◌, ◌-ℤ◌, neg_ℤ, Ok, Err, Result, slice_index_or}
use Rattle.hours.specs.Bounds.{Within}
use Rattle.hours.specs.declared.fault.Fault.{Fault}
use Rattle.books.specs.Results.{bind}

-- hour by hour, of the sink's prices and the source's
abbrev pub differences : List ℤ → List ℤ → List ℤ
differences (x ∷ xs) (y ∷ ys) = (x -ℤ y) ∷ differences xs ys
differences (x ∷ xs) [] = []
differences [] ys = []

-- all of them added
abbrev pub total : List ℤ → ℤ
total [] = pos 0
total (d ∷ ds) = d +ℤ total ds

-- their sum and their number
abbrev pub summed : List ℤ → ℤ × ℕ
summed ds = (total ds, length ds)

-- what the path lost in each hour
abbrev pub losses : List ℤ → List ℤ
losses ds = map neg_ℤ ds

-- The rest is of years as they are read: what bounds them, and where they stand in buffers.
-- every number lies between -b and b
abbrev pub Small : ℕ → List ℤ → Type 0
Small b xs = (k : ℕ) → k < length xs → Within b (slice_index_or xs k (pos 0))

-- the sum and the number of the differences of a year: at least one hour, at most 9,000, each within 400,000 on average
abbrev pub YearSum : ℤ × ℕ → Type 0
YearSum y = (0 < y.1) × (y.1 ≤ 9000) × Within (400000 * y.1) y.0

-- what is left where the source's prices stood, once the sink's prices of the year are known: the losses, in front of the rest
abbrev pub lost : Result (List ℤ) Fault → List ℤ → List ℤ
lost (Err e) sources = sources
lost (Ok sinks) sources = losses (differences sinks (take (length sinks) sources)) ++ drop (length sinks) sources

-- the sum and the number of the differences, once the sink's prices are known
abbrev pub gained : Result (List ℤ) Fault → List ℤ → Result (ℤ × ℕ) Fault
gained year sources = bind year (λ sinks. Ok (summed (differences sinks (take (length sinks) sources))))

-- the sums and the numbers of both years
abbrev pub summed_years : Result (List ℤ × List ℤ) Fault → Result ((ℤ × ℕ) × (ℤ × ℕ)) Fault
summed_years r = bind r (λ years. Ok (summed years.0, summed years.1))

-- a year that was read, or what was there before it
abbrev pub there_now : Result (List ℤ) Fault → List ℤ → List ℤ
there_now (Err e) before = before
there_now (Ok zs) before = zs

-- the losses of both years stand at the front of two buffers
abbrev pub LostIn : Result (List ℤ × List ℤ) Fault → List ℤ → List ℤ → Type 0
LostIn (Err e) recent distant = Unit {0}
LostIn (Ok years) recent distant = (take (length years.0) recent ≡ losses years.0) × (take (length years.1) distant ≡ losses years.1)

-- the losses of both years are left
abbrev pub LeftIn : Result (List ℤ × List ℤ) Fault → List ℤ → List ℤ → Type 0
LeftIn (Err e) recent distant = Unit {0}
LeftIn (Ok years) recent distant = (recent ≡ losses years.0) × (distant ≡ losses years.1)
