use Rattle.std.proofs.Common.{◌≡◌, ℕ, zero, suc, ◌+◌, ◌<◌, Bool, true, false, cond, not, List, [], ◌∷◌, ◌++◌, length, get_or, take, set, ℤ, ◌+ℤ◌, filter, refl, ap, ◌∙◌, arith}
use Rattle.std.proofs.lemmas.List.{take_more}
use lib.IntN.{+ℤ_idr}
use Rattle.std.proofs.lemmas.Int.{ints}
use Rattle.gate_model.specs.Sums.{sum_z, SumLaws}

pub sum_z-append : {X : Type 0} (f : X → ℤ) (xs ys : List X) → sum_z f (xs ++ ys) ≡ sum_z f xs +ℤ sum_z f ys
sum_z-append f [] ys = omega (arith, ints)
sum_z-append f (x ∷ xs) ys = let r = sum_z-append f xs ys in omega (arith, ints)

pub sum_z-set : {X : Type 0} (f : X → ℤ) (xs : List X) (i : ℕ) (y d : X) → i < length xs → (sum_z f (set xs i y) +ℤ f (get_or xs i d)) ≡ (sum_z f xs +ℤ f y)
sum_z-set f [] i y d h = absurd (omega arith)
sum_z-set f (x ∷ xs) zero y d h = omega (arith, ints)
sum_z-set f (x ∷ xs) (suc i) y d h = let r = sum_z-set f xs i y d (omega arith) in omega (arith, ints)

pub sum_z_kept : {X : Type 0} (f : X → ℤ) (p : X → Bool) (xs : List X) → (sum_z f (filter p xs) +ℤ sum_z f (filter (λ x. not (p x)) xs)) ≡ sum_z f xs
sum_z_kept f p [] = refl
sum_z_kept f p (x ∷ xs) = let r = sum_z_kept f p xs in
    elim (p x) as (λ b. (sum_z f (cond b (x ∷ filter p xs) (filter p xs)) +ℤ sum_z f (cond (not b) (x ∷ filter (λ y. not (p y)) xs) (filter (λ y. not (p y)) xs))) ≡ (f x +ℤ sum_z f xs))
    [ true ↦ omega (arith, ints) | false ↦ omega (arith, ints) ]

pub proved : (X : Type 0) → SumLaws X
proved X = record { append = sum_z-append; set = sum_z-set; kept = sum_z_kept }

pub sum_z_more : {X : Type 0} (f : X → ℤ) (xs : List X) (i : ℕ) (d : X) → i < length xs → sum_z f (take (i + 1) xs) ≡ sum_z f (take i xs) +ℤ f (get_or xs i d)
sum_z_more f xs i d h = ap (sum_z f) (take_more xs i d h) ∙ sum_z-append f (take i xs) (get_or xs i d ∷ []) ∙ ap (λ z. sum_z f (take i xs) +ℤ z) (+ℤ_idr (f (get_or xs i d)))
