-- The first of a list that passes a test, and the list with something in its place.
use Rattle.std.proofs.lemmas.Grind.{common_steps}
use Rattle.std.proofs.lemmas.Bool.Decides.{nat_tests}
use Rattle.std.proofs.Common.{◌≡◌, Bool, true, List, [], ◌∷◌, ℤ, pos, ◌+ℤ◌, ◌≤ℤ◌, arith}
use Rattle.std.proofs.lemmas.Int.{ints}
use Rattle.std.proofs.lemmas.Bool.{false≢true}
use Rattle.std.specs.List.{AllByRecursion}
use Rattle.gate_model.specs.Sums.{sum_z}
use Rattle.gate_model.proofs.Sums.{sum_z-append}
use Rattle.gate_model.specs.State.{the_first, any, replaced}

pub replaced_sum : {X : Type 0} (f : X → ℤ) (p : X → Bool) (g : X → List X) (d : X) (xs : List X) → any p xs ≡ true
    → (sum_z f (replaced p g xs) +ℤ f (the_first p d xs)) ≡ (sum_z f xs +ℤ sum_z f (g (the_first p d xs)))
replaced_sum f p g d [] h = absurd (false≢true h)
replaced_sum f p g d (x ∷ xs) h =
    let r = replaced_sum f p g d xs in
    let a = sum_z-append f (g x) xs in
    grind (arith, ints, nat_tests)

pub all_first : {X : Type 0} (P : X → Type 0) (p : X → Bool) (d : X) (xs : List X) → any p xs ≡ true → AllByRecursion P xs → P (the_first p d xs)
all_first P p d [] h a = absurd (false≢true h)
all_first P p d (x ∷ xs) h a =
    let r = all_first P p d xs in
    grind (arith, ints, nat_tests)

pub all_replaced : {X : Type 0} (P : X → Type 0) (p : X → Bool) (g : X → List X) (xs : List X) → ((x : X) → P x → AllByRecursion P (g x)) → AllByRecursion P xs → AllByRecursion P (replaced p g xs)
all_replaced P p g [] k a = tt
all_replaced P p g (x ∷ xs) k a =
    let r = all_replaced P p g xs k a.1 in
    grind (arith, ints, nat_tests, common_steps)

-- a sum of numbers that are at least 0 is at least 0, and at least each
pub sum_above : {X : Type 0} (f : X → ℤ) → ((x : X) → pos 0 ≤ℤ f x) → (xs : List X) → pos 0 ≤ℤ sum_z f xs
sum_above f h [] = omega (arith, ints)
sum_above f h (x ∷ xs) = let a = h x in let r = sum_above f h xs in omega (arith, ints)

pub each_below : {X : Type 0} (f : X → ℤ) → ((x : X) → pos 0 ≤ℤ f x) → (xs : List X) (z : ℤ) → sum_z f xs ≤ℤ z → AllByRecursion (λ x. f x ≤ℤ z) xs
each_below f h [] z l = tt
each_below f h (x ∷ xs) z l =
    let a = h x in let s = sum_above f h xs in
    (omega (arith, ints), each_below f h xs z (omega (arith, ints)))

pub all_both : {X : Type 0} (P Q R : X → Type 0) → ((x : X) → P x → Q x → R x) → (xs : List X) → AllByRecursion P xs → AllByRecursion Q xs → AllByRecursion R xs
all_both P Q R k [] a b = tt
all_both P Q R k (x ∷ xs) a b = (k x a.0 b.0, all_both P Q R k xs a.1 b.1)
