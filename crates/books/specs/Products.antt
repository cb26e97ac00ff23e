-- Products and quotients stay in bounds.
use Rattle.std.specs.Prelude.{◌≡◌, ℕ, suc, ◌*◌, ◌/◌, ◌<◌, ◌≤◌, ℤ, pos, negsuc, ◌*ℤ◌, refl}
use Rattle.std.proofs.Common.{mul-le-mul_right, div-lt_iff_lt-mul, mul_comm, arith}
use Rattle.std.proofs.Math.Nat.{div-le_of_le-mul}
use Rattle.std.proofs.Math.IntN.{pos-*ℤ-pos, negsuc-*ℤ-pos}
use Rattle.std.specs.Int.Signed.{shr_z}
use Rattle.std.proofs.lemmas.Int.{ints}
use Rattle.std.specs.Int.{int_div_euclid, int_max}
use Rattle.hours.specs.Bounds.{Within}

pub within_times : (b n : ℕ) (z : ℤ) → Within b z → Within (b * n) (z *ℤ pos n)
within_times b n (pos a) h =
    let k : a ≤ b = omega (arith, ints) in
    let m : a * n ≤ b * n = mul-le-mul_right n k in
    rw (pos-*ℤ-pos a n) (omega (arith, ints))
within_times b n (negsuc a) h =
    let k : suc a ≤ b = omega (arith, ints) in
    let m : suc a * n ≤ b * n = mul-le-mul_right n k in
    rw (negsuc-*ℤ-pos a n) (omega (arith, ints))

pub div_is : (s : ℤ) (n : ℕ) → int_div_euclid s (pos n) ≡ shr_z s n
div_is (pos a) n = refl
div_is (negsuc a) n = refl

-- what is within b times n is within b when it is divided by n
pub within_shr : (b n : ℕ) (s : ℤ) → 0 < n → Within (b * n) s → Within b (shr_z s n)
within_shr b n (pos a) p h =
    let k : a ≤ b * n = omega (arith, ints, h.1) in
    let q : a / n ≤ b = div-le_of_le-mul n (omega (arith, mul_comm b n)) in
    omega (arith, ints)
within_shr b n (negsuc a) p h =
    let k : a < b * n = omega (arith, ints, h.0) in
    let q : a / n < b = (div-lt_iff_lt-mul p).1 k in
    omega (arith, ints)

pub max_within : (b : ℕ) (z : ℤ) → Within b z → Within b (int_max z (pos 0))
max_within b z h = (grind (arith, ints), grind (arith, ints))
