-- Percentiles of a list of values.
use Rattle.std.specs.Prelude.{◌≡◌, ℕ, ◌+◌, ◌*◌, ◌<◌, ◌≤◌, Bool, cond, ◌&&◌, List, [], ◌∷◌, length, ℤ, pos, ◌<ℤ◌, Some, None, Option, int_le, nat_le, slice_index_or}
use Rattle.std.specs.Int.{int_min}

-- how many of the values are at most v
abbrev pub at_most : ℤ → List ℤ → ℕ
at_most v [] = 0
at_most v (x ∷ xs) = cond (int_le x v) 1 0 + at_most v xs

-- at least p in a hundred of the values are at most v
abbrev pub Reaches : ℕ → List ℤ → ℤ → Type 0
Reaches p xs v = p * length xs ≤ 100 * at_most v xs

-- the same as a test
abbrev pub reached : ℕ → List ℤ → ℤ → Bool
reached p xs v = nat_le (p * length xs) (100 * at_most v xs)

-- the lesser of a value and one that there may be
abbrev pub or_less : ℤ → Option ℤ → ℤ
or_less x None = x
or_less x (Some y) = int_min x y

-- the least of the values that pass a test, if one does
abbrev pub least_of : (ℤ → Bool) → List ℤ → Option ℤ
least_of test [] = None
least_of test (x ∷ xs) = cond (test x) (Some (or_less x (least_of test xs))) (least_of test xs)

-- the smallest value that at least p in a hundred of the values do not exceed
abbrev pub percentile_of : ℕ → List ℤ → Option ℤ
percentile_of p xs = least_of (reached p xs) xs

-- v is one of the values
abbrev pub Among : List ℤ → ℤ → Type 0
Among xs v = (k : ℕ) × ((k < length xs) × (slice_index_or xs k (pos 0) ≡ v))

-- v is one of the values and reaches p in a hundred, and no number below v does
pub record Percentile (p : ℕ) (xs : List ℤ) (v : ℤ) : Type 0 where
  pub among : Among xs v
  pub reaches : Reaches p xs v
  pub least : (w : ℤ) → w <ℤ v → Reaches p xs w → ⊥

-- p is 1 to 100, and there are no more than 100,000 values
abbrev pub rankable : ℕ → List ℤ → Bool
rankable p xs = nat_le 1 p && (nat_le p 100 && nat_le (length xs) 100000)

-- what is answered for any p and any values
abbrev pub ranked : ℕ → List ℤ → Option ℤ
ranked p xs = cond (rankable p xs) (percentile_of p xs) None
