-- The least of the values that pass a test.
use Rattle.std.specs.Prelude.{◌≡◌, ℕ, zero, suc, ◌<◌, ◌≤◌, Bool, true, false, cond, ◌&&◌, List, [], ◌∷◌, length, ℤ, pos, ◌≤ℤ◌, ◌<ℤ◌, IfSome, Some, None, Option, ◌≢◌, int_lt, nat_le, slice_index_or, refl}
use Rattle.std.proofs.Common.{◌∙◌, ap, subst, sym, arith}
use Rattle.std.proofs.lemmas.Int.{ints}
use Rattle.std.proofs.lemmas.Bool.{and_from, and_parts, le-leb, leb-true}
use Rattle.std.specs.Int.{int_min}
use Rattle.std.specs.List.{AllByRecursion}
use Rattle.hours.specs.Bounds.{Within}
use Rattle.books.specs.Differences.{Small}
use Rattle.books.specs.Histories.{stress_of}
use Rattle.books.specs.Products.{max_within}
use Rattle.books.specs.Percentiles.{least_of, or_less, Percentile, percentile_of, rankable, ranked, reached}

-- nothing below v passes
module _ (test : ℤ → Bool) (v : ℤ) (none : (w : ℤ) → w <ℤ v → test w ≢ true) where
  abbrev AtLeast : Option ℤ → Type 0
  AtLeast None = Unit {0}
  AtLeast (Some y) = v ≤ℤ y

  min_left : (x y : ℤ) → x ≤ℤ y → int_min x y ≡ x
  min_left x y h = grind (arith, ints)

  min_right : (x y : ℤ) → y ≤ℤ x → int_min x y ≡ y
  min_right x y h = grind (arith, ints)

  at_least_less : (x : ℤ) (o : Option ℤ) → v ≤ℤ x → AtLeast o → v ≤ℤ or_less x o
  at_least_less x None h k = h
  at_least_less x (Some y) h k = grind (arith, ints)

  passes_above : (x : ℤ) → test x ≡ true → v ≤ℤ x
  passes_above x e = by (int_lt x v) refl
    where
      by : (b : Bool) → int_lt x v ≡ b → v ≤ℤ x
      by true q = absurd (none x (omega (arith, ints)) e)
      by false q = omega (arith, ints)

  at_least : (xs : List ℤ) → AtLeast (least_of test xs)
  at_least [] = tt
  at_least (x ∷ xs) = by (test x) refl (at_least xs)
    where
      by : (b : Bool) → test x ≡ b → AtLeast (least_of test xs) → AtLeast (cond b (Some (or_less x (least_of test xs))) (least_of test xs))
      by true e k = at_least_less x (least_of test xs) (passes_above x e) k
      by false e k = k

  less_here : (x : ℤ) (o : Option ℤ) → x ≡ v → AtLeast o → or_less x o ≡ v
  less_here x None e k = e
  less_here x (Some y) e k = min_left x y (omega (arith, ints)) ∙ e

  found : test v ≡ true → (xs : List ℤ) (k : ℕ) → k < length xs → slice_index_or xs k (pos 0) ≡ v → least_of test xs ≡ Some v
  found p [] k l e = absurd (omega arith)
  found p (x ∷ xs) zero l e =
      ap (λ b. cond b (Some (or_less x (least_of test xs))) (least_of test xs)) (ap test e ∙ p) ∙ ap Some (less_here x (least_of test xs) e (at_least xs))
  found p (x ∷ xs) (suc k) l e = by (test x) refl (found p xs k (omega arith) e)
    where
      by : (b : Bool) → test x ≡ b → least_of test xs ≡ Some v → cond b (Some (or_less x (least_of test xs))) (least_of test xs) ≡ Some v
      by true q h = ap (λ o. Some (or_less x o)) h ∙ ap Some (min_right x v (passes_above x q))
      by false q h = h

-- what the relation says of a number, the definition gives
pub percentile_value : (p : ℕ) (xs : List ℤ) (v : ℤ) → Percentile p xs v → percentile_of p xs ≡ Some v
percentile_value p xs v h =
    found (reached p xs) v (λ w l e. h.least w l (leb-true _ _ e)) (le-leb _ _ h.reaches) xs h.among.0 h.among.1.0 h.among.1.1

-- what is answered: nothing for no values, else the number that the relation is about
pub ranked_none : (p : ℕ) (xs : List ℤ) → length xs ≡ 0 → None ≡ ranked p xs
ranked_none p [] h = sym (cond_same (rankable p []))
  where
    cond_same : (b : Bool) → cond {A = Option ℤ} b None None ≡ None
    cond_same true = refl
    cond_same false = refl
ranked_none p (x ∷ xs) h = absurd (omega arith)

pub ranked_some : (p : ℕ) (xs : List ℤ) (v : ℤ) → rankable p xs ≡ true → Percentile p xs v → Some v ≡ ranked p xs
ranked_some p xs v h k = sym (ap (λ (b : Bool). cond b (percentile_of p xs) None) h ∙ percentile_value p xs v k)

pub percentile_none : (p : ℕ) (xs : List ℤ) → rankable p xs ≡ true → None ≡ ranked p xs → None ≡ percentile_of p xs
percentile_none p xs h k = k ∙ ap (λ (b : Bool). cond b (percentile_of p xs) None) h

pub rankable_from : (p : ℕ) (xs : List ℤ) → 1 ≤ p → p ≤ 100 → length xs ≤ 100000 → rankable p xs ≡ true
rankable_from p xs a b c =
    and_from (nat_le 1 p) (nat_le p 100 && nat_le (length xs) 100000) (le-leb 1 p a) (and_from (nat_le p 100) (nat_le (length xs) 100000) (le-leb p 100 b) (le-leb (length xs) 100000 c))

pub rankable_parts : (p : ℕ) (xs : List ℤ) → rankable p xs ≡ true → (1 ≤ p) × (p ≤ 100) × (length xs ≤ 100000)
rankable_parts p xs h =
    let a = and_parts (nat_le 1 p) (nat_le p 100 && nat_le (length xs) 100000) h in
    let b = and_parts (nat_le p 100) (nat_le (length xs) 100000) a.1 in
    (leb-true 1 p a.0, leb-true p 100 b.0, leb-true (length xs) 100000 b.1)

-- a percentile lies where the values lie
pub percentile_within : (b p : ℕ) (xs : List ℤ) (v : ℤ) → Percentile p xs v → Small b xs → Within b v
percentile_within b p xs v h small = subst (λ (z : ℤ). Within b z) h.among.1.1 (small h.among.0 h.among.1.0)

-- the least of values within b is within b
least_within : (b : ℕ) (test : ℤ → Bool) (xs : List ℤ) → AllByRecursion (Within b) xs → IfSome (least_of test xs) (Within b)
least_within b test [] h = tt
least_within b test (x ∷ xs) h = by (test x) (least_of test xs) (least_within b test xs h.1)
  where
    less : (o : Option ℤ) → IfSome o (Within b) → Within b (or_less x o)
    less None k = h.0
    less (Some y) k = let a = h.0 in (grind (arith, ints), grind (arith, ints))

    by : (c : Bool) (o : Option ℤ) → IfSome o (Within b) → IfSome (cond c (Some (or_less x o)) o) (Within b)
    by true o k = less o k
    by false o k = k

pub stress_within : (b p : ℕ) (xs : List ℤ) → AllByRecursion (Within b) xs → Within b (stress_of (percentile_of p xs))
stress_within b p xs h = by (percentile_of p xs) (least_within b (reached p xs) xs h)
  where
    by : (o : Option ℤ) → IfSome o (Within b) → Within b (stress_of o)
    by None k = (omega (arith, ints), omega (arith, ints))
    by (Some v) k = max_within b v k
