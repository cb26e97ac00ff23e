-- The parts of a slice that is cut, one after another. Assumes nothing.
use Rattle.std.proofs.Common.{◌≡◌, ℕ, suc, ◌+◌, ◌<◌, Bool, true, false, cond, List, [], ◌∷◌, length, get_or, drop, Some, None, Option, Bor, sym, refl, ap, ◌∙◌, arith}
use Rattle.std.specs.Fn.{CalledAt}
use Rattle.std.specs.Iterator.{Yields}
use Rattle.std.specs.Iterator.Adapters.{enumerate_source, enumerate_count, enumerate_steps}
use Rattle.std.specs.List.{slice_split, onto_first, enumerate_from}
use Rattle.std.specs.Slice.Iter as slice
use Rattle.std.proofs.lemmas.Iterator.Consumers.{YieldsList-from_enumerate, YieldsList-turn, YieldsList-end}
use Rattle.std.proofs.lemmas.Iterator.Splits.{YieldsList-from_slice_split}
use Rattle.std.proofs.lemmas.List.{at_drop_more, drop_all}
use Rattle.std.proofs.lemmas.List.FromFn.{length-enumerate_from, get_or-enumerate_from}
use denote.Param.Members.{Mut}

-- the lengths of parts, each with the one element behind it
abbrev pub spans : {A : Type 0} → List (List A) → ℕ
spans [] = 0
spans (l ∷ ls) = length l + 1 + spans ls

spans_onto : {A : Type 0} (x : A) (ls : List (List A)) (n : ℕ) → spans ls ≡ n + 1 → spans (onto_first x ls) ≡ suc n + 1
spans_onto x [] n e = let no : ⊥ = omega arith in absurd no
spans_onto x (l ∷ ls) n e = omega arith

pub spans_split : {A : Type 0} (p : A → Bool) (xs : List A) → spans (slice_split p xs) ≡ length xs + 1
spans_split p [] = refl
spans_split p (x ∷ xs) = go (p x) (spans_split p xs)
  where
    go : (t : Bool) → spans (slice_split p xs) ≡ length xs + 1 → spans (cond t ([] ∷ slice_split p xs) (onto_first x (slice_split p xs))) ≡ suc (length xs) + 1
    go true e = omega arith
    go false e = spans_onto x (slice_split p xs) (length xs) e

-- the elements from a place on, with the one that stands there
from_place : {A : Type 0} (xs : List A) (n : ℕ) (x : A) → (n < length xs) × (x ≡ get_or xs n x) → drop n xs ≡ x ∷ drop (n + 1) xs
from_place {A} xs n x h = at_drop_more (λ (ys : List A). ys) xs n x h.0 ∙ ap (λ (y : A). y ∷ drop (n + 1) xs) (sym h.1)

from_number : {A : Type 0} (xs : List A) (n k : ℕ) (x : A) → (n < length (enumerate_from 0 xs)) × ((k, x) ≡ get_or (enumerate_from 0 xs) n (k, x)) → (k ≡ n) × (drop n xs ≡ x ∷ drop (n + 1) xs)
from_number {A} xs n k x h =
    let l : n < length xs = omega (arith, length-enumerate_from 0 xs, h.0) in
    let e = h.1 ∙ get_or-enumerate_from 0 xs n (k, x) l in
    (omega (arith, ap (λ (p : ℕ × A). p.0) e), from_place xs n x (l, ap (λ (p : ℕ × A). p.1) e))

-- a `for` over what `split(p)` yields, where g is the closure, and has yielded ys
module _ {A F : Type 0} (g : Mut F (Bor A × Unit {0}) Bool) (p : A → Bool) {f : F} (xs : List A) (same : (x : A) (b : Bool) (q : F) → CalledAt g f x b q → (q ≡ f) × (b ≡ p x)) where
  -- the next part is x
  pub part_turn : (s : _) → slice.split_rest s ≡ xs → slice.split_done s ≡ false → slice.split_callee s ≡ f → (ys : List (Bor (List A))) (t : _) → Yields (slice.split_steps g) s ys t → (r : Option (Bor (List A))) (u : _) (x : Bor (List A)) → r ≡ Some x → slice.split_steps g t r u → drop (length ys) (slice_split p xs) ≡ x.now ∷ drop (length ys + 1) (slice_split p xs)
  part_turn s a b c ys t y r u x i k = from_place (slice_split p xs) (length ys) x.now (YieldsList-turn (YieldsList-from_slice_split g p xs a b c same) ys t y r u x i k)

  -- no part is left
  pub part_end : (s : _) → slice.split_rest s ≡ xs → slice.split_done s ≡ false → slice.split_callee s ≡ f → (ys : List (Bor (List A))) (t : _) → Yields (slice.split_steps g) s ys t → (r : Option (Bor (List A))) (u : _) → r ≡ None → slice.split_steps g t r u → drop (length ys) (slice_split p xs) ≡ []
  part_end s a b c ys t y r u i k = let e = YieldsList-end (YieldsList-from_slice_split g p xs a b c same) ys t y r u i k in drop_all (length ys) (slice_split p xs) (omega (arith, e.1))

  -- the same under `enumerate()`
  pub number_turn : (s : _) → slice.split_rest (enumerate_source s) ≡ xs → slice.split_done (enumerate_source s) ≡ false → slice.split_callee (enumerate_source s) ≡ f → enumerate_count s ≡ 0 → (ys : List (ℕ × Bor (List A))) (t : _) → Yields (enumerate_steps (slice.split_steps g)) s ys t → (r : Option (ℕ × Bor (List A))) (u : _) (n : ℕ) (x : Bor (List A)) → r ≡ Some (n, x) → enumerate_steps (slice.split_steps g) t r u → (n ≡ length ys) × (drop (length ys) (slice_split p xs) ≡ x.now ∷ drop (length ys + 1) (slice_split p xs))
  number_turn s a b c d ys t y r u n x i k = from_number (slice_split p xs) (length ys) n x.now (YieldsList-turn (YieldsList-from_enumerate (YieldsList-from_slice_split g p xs a b c same) d) ys t y r u (n, x) i k)

  pub number_end : (s : _) → slice.split_rest (enumerate_source s) ≡ xs → slice.split_done (enumerate_source s) ≡ false → slice.split_callee (enumerate_source s) ≡ f → enumerate_count s ≡ 0 → (ys : List (ℕ × Bor (List A))) (t : _) → Yields (enumerate_steps (slice.split_steps g)) s ys t → (r : Option (ℕ × Bor (List A))) (u : _) → r ≡ None → enumerate_steps (slice.split_steps g) t r u → drop (length ys) (slice_split p xs) ≡ []
  number_end s a b c d ys t y r u i k = let e = YieldsList-end (YieldsList-from_enumerate (YieldsList-from_slice_split g p xs a b c same) d) ys t y r u i k in drop_all (length ys) (slice_split p xs) (omega (arith, e.1, length-enumerate_from 0 (slice_split p xs)))
