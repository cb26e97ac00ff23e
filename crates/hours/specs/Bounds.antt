-- The bounds on what a source may say.
use Rattle.std.specs.Prelude.{ℕ, Bool, ◌&&◌, ℤ, pos, neg_ℤ, ◌≤ℤ◌, int_le}

-- z lies between -b and b
abbrev pub Within : ℕ → ℤ → Type 0
Within b z = (neg_ℤ (pos b) ≤ℤ z) × (z ≤ℤ pos b)

-- the same as a test
abbrev pub within : ℕ → ℤ → Bool
within b z = int_le (neg_ℤ (pos b)) z && int_le z (pos b)
