use Rattle.std.proofs.lemmas.Grind.{common_steps}
use Rattle.std.proofs.lemmas.Bool.Decides.{nat_tests}
use Rattle.std.proofs.Common.{◌≡◌, ℕ, ◌+◌, ◌-◌, ◌*◌, ◌<◌, ◌≤◌, List, [], ◌∷◌, ℤ, pos, negsuc, ◌+ℤ◌, ◌-ℤ◌, ◌*ℤ◌, ◌≤ℤ◌, mul-le-mul, arith}
use Rattle.std.specs.Int.{int_max}
use borrow.Author.Differences.{up, down}
use Rattle.std.proofs.lemmas.Int.{ints, clamps}
use Rattle.std.specs.List.{AllByRecursion}
use Rattle.gate_model.specs.Money.{max0, floor_z, one, two, three, four, six, twelve, BidLaw, OfferLaw, ConversionLaw, PartsLaw, FloorLaw, greatest, MoneyLaws}

-- for omega: max0 as up and down
pub max0_is : (x : ℤ) → (up (max0 x) ≡ up x - down x) × (down (max0 x) ≡ 0)
max0_is (pos n) = omega arith
max0_is (negsuc n) = omega arith

-- a product by a smaller natural, of a smaller number, is at most the larger one's, where that is above 0
pub scaled : (w q : ℕ) (e d : ℤ) → w ≤ q → e ≤ℤ d → (pos w *ℤ e) ≤ℤ max0 (pos q *ℤ d)
scaled w q (pos n) (pos m) h l = let g : n ≤ m = omega (arith, ints) in omega (arith, ints, mul-le-mul h g)
scaled w q (pos n) (negsuc m) h l = absurd (omega (arith, ints))
scaled w q (negsuc n) (pos m) h l = omega (arith, ints, max0_is)
scaled w q (negsuc n) (negsuc m) h l = omega (arith, ints, max0_is)

bid : BidLaw
bid w q x c r h l = grind (arith, ints, nat_tests, common_steps)

-- the same with nothing cut off, where the larger number is at least 0
pub scaled_up : (w q : ℕ) (e d : ℤ) → w ≤ q → e ≤ℤ d → pos 0 ≤ℤ d → (pos w *ℤ e) ≤ℤ (pos q *ℤ d)
scaled_up w q e (pos m) h l g = scaled w q e (pos m) h l
scaled_up w q e (negsuc m) h l g = absurd (omega (arith, ints))

offer : OfferLaw
offer w q x c a r h l = scaled_up (12 * w) (12 * q) (r +ℤ max0 (a -ℤ x) -ℤ max0 a) (max0 r +ℤ max0 (a -ℤ c)) (omega arith) (omega (arith, ints, max0_is)) (omega (arith, ints, max0_is))

-- for omega: floor_z at a divisor above 0
pub floor_is : (z : ℤ) (k : ℕ) → 0 < k
    → (k * up (floor_z z k) + down z ≤ up z + k * down (floor_z z k)) × (up z + k * down (floor_z z k) < k * up (floor_z z k) + down z + k)
floor_is (pos a) k h = omega arith
floor_is (negsuc a) k h = omega arith

conversion : ConversionLaw
conversion p n hp hn = omega (arith, ints, max0_is, floor_is)

parts : PartsLaw
parts n z one = omega (arith, ints, floor_is)
parts n z two = omega (arith, ints, floor_is)
parts n z three = omega (arith, ints, floor_is)
parts n z four = omega (arith, ints, floor_is)
parts n z six = omega (arith, ints, floor_is)
parts n z twelve = omega (arith, ints, floor_is)

floor : FloorLaw
floor z d = grind (arith, ints, nat_tests)

greatest_low : (x : ℤ) (xs : List ℤ) → x ≤ℤ greatest x xs
greatest_low x [] = omega (arith, ints)
greatest_low x (y ∷ ys) = let l = greatest_low (int_max x y) ys in omega (arith, ints, clamps)

greatest_bounds : (x : ℤ) (xs : List ℤ) (r : ℤ) → greatest x xs ≤ℤ r → AllByRecursion (λ y. y ≤ℤ r) (x ∷ xs)
greatest_bounds x [] r h = (h, tt)
greatest_bounds x (y ∷ ys) r h =
    let b = greatest_bounds (int_max x y) ys r h in
    grind (arith, ints, nat_tests)

greatest_least : (x : ℤ) (xs : List ℤ) (r : ℤ) → AllByRecursion (λ y. y ≤ℤ r) (x ∷ xs) → greatest x xs ≤ℤ r
greatest_least x [] r h = h.0
greatest_least x (y ∷ ys) r h = let a = h.0 in let b = h.1.0 in greatest_least (int_max x y) ys r (omega (arith, ints, clamps), h.1.1)

pub proved : MoneyLaws
proved = record { bid = bid; offer = offer; conversion = conversion; parts = parts; floor = floor; greatest = λ x xs r. (greatest_bounds x xs r, greatest_least x xs r) }

pub max0_max : (x : ℤ) → int_max x (pos 0) ≡ max0 x
max0_max x = omega (arith, ints, clamps, max0_is)
