-- The mean of two years, and what bounds it.
use Rattle.std.specs.Prelude.{ℕ, ◌*◌, ◌<◌, ◌≤◌, ℤ, pos, ◌*ℤ◌}
use Rattle.std.proofs.Common.{ap, subst, mul_assoc, mul_comm, mul_right_comm, mul-pos, arith}
use Rattle.std.proofs.lemmas.Int.{ints}
use Rattle.hours.specs.Bounds.{Within}
use Rattle.books.specs.Differences.{YearSum}
use Rattle.books.specs.Histories.{numerator, denominator, floored, mean_ahead}
use Rattle.books.specs.Products.{within_times, within_shr}

-- a wider bound
pub wider : (b d : ℕ) (z : ℤ) → b ≤ d → Within b z → Within d z
wider b d z h k = (omega (arith, ints), omega (arith, ints))

-- the sum of one year times the hours of the other
pub crossed : (s : ℤ) (m n : ℕ) → YearSum (s, m) → n ≤ 9000 → Within 32400000000000 (s *ℤ pos n)
crossed s m n y h =
    let small = y.2 in
    let few = y.1 in
    wider (3600000000 * n) 32400000000000 (s *ℤ pos n) (omega arith) (within_times 3600000000 n s (wider (400000 * m) 3600000000 s (omega arith) small))

-- a fraction within 400,000, over some hours
pub over_within : (a : ℤ) (d h : ℕ) → 0 < d → h ≤ 9000 → Within (400000 * d) a → Within 3600000000 (floored (a *ℤ pos h) d)
over_within a d h above few small =
    let v : Within ((400000 * h) * d) (a *ℤ pos h) = subst (λ (n : ℕ). Within n (a *ℤ pos h)) (mul_right_comm 400000 d h) (within_times (400000 * d) h a small) in
    wider (400000 * h) 3600000000 (floored (a *ℤ pos h) d) (omega arith) (within_shr (400000 * h) d (a *ℤ pos h) above v)

module _ (s1 s2 : ℤ) (n1 n2 : ℕ) (y1 : YearSum (s1, n1)) (y2 : YearSum (s2, n2)) where
  -- the mean of differences that are within 400,000 is so too
  pub mean_within : Within (400000 * denominator (s1, n1) (s2, n2)) (numerator (s1, n1) (s2, n2))
  mean_within =
      let a = within_times (400000 * n1) n2 s1 y1.2 in
      let b = within_times (400000 * n2) n1 s2 y2.2 in
      let e = mul_assoc 400000 n1 n2 in
      let f = mul_assoc 400000 n2 n1 in
      let g = mul_comm n2 n1 in
      let k = ap (λ (n : ℕ). 400000 * n) g in
      (omega (arith, ints), omega (arith, ints))

  pub divisor_above : 0 < denominator (s1, n1) (s2, n2)
  divisor_above = let h : 0 < n1 * n2 = mul-pos y1.0 y2.0 in omega arith

  pub ahead_within : (h : ℕ) → h ≤ 9000 → Within 3600000000 (mean_ahead h (s1, n1) (s2, n2))
  ahead_within h few = over_within (numerator (s1, n1) (s2, n2)) (denominator (s1, n1) (s2, n2)) h divisor_above few mean_within
