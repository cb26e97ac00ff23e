-- How many values are at most a bound.
use Rattle.std.proofs.Common.{◌≡◌, ℕ, suc, ◌+◌, ◌*◌, ◌<◌, ◌≤◌, Bool, true, false, cond, List, [], ◌∷◌, ◌++◌, length, ℤ, pos, ◌+ℤ◌, ◌-ℤ◌, neg_ℤ, ◌≤ℤ◌, ◌<ℤ◌, fold, sym, refl, ap, ◌∙◌, ⊎_elim, mul-le-mul_right, arith, w32, w64, to_z, of_z}
use lib.Signed.{le_z, lt_z, quot_z}
use Rattle.std.proofs.ByRecursion.{All-append, All-weaker, folded_min_z_bounds, folded_max_z_bounds}
use Rattle.std.proofs.lemmas.Int.{ints}
use Rattle.std.proofs.lemmas.Bool.{cases_lt, leb-false, leb-true}
use Rattle.std.proofs.lemmas.List.Sums.{sum_by-cons}
use Rattle.std.specs.Int.{int_min, int_max}
use Rattle.std.specs.List.{AllByRecursion, sum_by}
use Rattle.books.specs.Percentiles.{at_most, Among, Percentile, Reaches, reached}

-- one value
abbrev one : ℤ → ℤ → ℕ
one v x = cond (le_z x v) 1 0

pub one_yes : (v x : ℤ) → x ≤ℤ v → one v x ≡ 1
one_yes v x h = grind (arith, ints)

pub one_no : (v x : ℤ) → v <ℤ x → one v x ≡ 0
one_no v x h = grind (arith, ints)

one_mono : (u v x : ℤ) → u ≤ℤ v → one u x ≤ one v x
one_mono u v x h = grind (arith, ints)

pub at_most_append : (v : ℤ) (xs ys : List ℤ) → at_most v (xs ++ ys) ≡ at_most v xs + at_most v ys
at_most_append v [] ys = omega arith
at_most_append v (x ∷ xs) ys = omega (arith, at_most_append v xs ys)

-- a value is above or it is not
pub above_or_not : (v : ℤ) (xs : List ℤ) → sum_by (λ x. cond (lt_z v x) 1 0) xs + at_most v xs ≡ length xs
above_or_not v [] = refl
above_or_not v (x ∷ xs) = let one : cond (lt_z v x) 1 0 + cond (le_z x v) 1 0 ≡ 1 = grind (arith, ints) in omega (arith, above_or_not v xs, sum_by-cons (λ y. cond (lt_z v y) 1 0) x xs)

at_most_mono : (u v : ℤ) (xs : List ℤ) → u ≤ℤ v → at_most u xs ≤ at_most v xs
at_most_mono u v [] h = omega arith
at_most_mono u v (x ∷ xs) h = omega (arith, one_mono u v x h, at_most_mono u v xs h)

at_most_all : (v : ℤ) (xs : List ℤ) → AllByRecursion (λ x. x ≤ℤ v) xs → at_most v xs ≡ length xs
at_most_all v [] h = refl
at_most_all v (x ∷ xs) h = omega (arith, one_yes v x h.0, at_most_all v xs h.1)

at_most_none : (v : ℤ) (xs : List ℤ) → AllByRecursion (λ x. v <ℤ x) xs → at_most v xs ≡ 0
at_most_none v [] h = refl
at_most_none v (x ∷ xs) h = omega (arith, one_no v x h.0, at_most_none v xs h.1)

-- a bound above all values reaches, and nothing below all values does
pub top_reaches : (p : ℕ) (xs : List ℤ) (high : ℤ) → p ≤ 100 → AllByRecursion (λ x. x ≤ℤ high) xs → Reaches p xs high
top_reaches p xs high h all =
    let e = at_most_all high xs all in
    omega (arith, mul-le-mul_right (length xs) h)

pub below_fails : (p : ℕ) (xs : List ℤ) (low w : ℤ) → 0 < p → 0 < length xs → AllByRecursion (λ x. low ≤ℤ x) xs → w <ℤ low → Reaches p xs w → ⊥
below_fails p xs low w h n all l r =
    let e = at_most_none w xs (All-weaker (λ x. low ≤ℤ x) (λ x. w <ℤ x) (λ x k. omega (arith, ints)) xs all) in
    let m : 1 * length xs ≤ p * length xs = mul-le-mul_right (length xs) h in
    omega arith

-- what fails at v fails below it
pub fails_below : (p : ℕ) (xs : List ℤ) (v w : ℤ) → 100 * at_most v xs < p * length xs → w ≤ℤ v → Reaches p xs w → ⊥
fails_below p xs v w f l r = omega (arith, at_most_mono w v xs l)

later : (x v : ℤ) (xs : List ℤ) → Among xs v → Among (x ∷ xs) v
later x v xs (k, h) = (suc k, (omega (arith, h.0), h.1))

-- where more are at most v than are at most v - 1, v is one of the values
among : (v : ℤ) (xs : List ℤ) → at_most (v -ℤ pos 1) xs < at_most v xs → Among xs v
among v [] h = absurd (omega arith)
among v (x ∷ xs) h = by (le_z x v) (le_z x (v -ℤ pos 1)) refl refl h (λ l. among v xs l)
  where
    by : (a b : Bool) → le_z x v ≡ a → le_z x (v -ℤ pos 1) ≡ b → cond b 1 0 + at_most (v -ℤ pos 1) xs < cond a 1 0 + at_most v xs → (at_most (v -ℤ pos 1) xs < at_most v xs → Among xs v) → Among (x ∷ xs) v
    by true false d e l f = (0, (omega arith, omega (arith, ints)))
    by true true d e l f = later x v xs (f (omega arith))
    by false true d e l f = later x v xs (f (omega arith))
    by false false d e l f = later x v xs (f (omega arith))

pub percentile_is : (p : ℕ) (xs : List ℤ) (v : ℤ) → Reaches p xs v → ((w : ℤ) → w <ℤ v → Reaches p xs w → ⊥) → Percentile p xs v
percentile_is p xs v r f =
    let below : Reaches p xs (v -ℤ pos 1) → ⊥ = f (v -ℤ pos 1) (omega (arith, ints)) in
    let more : at_most (v -ℤ pos 1) xs < at_most v xs = ⊎_elim (λ l. l) (λ (l : at_most v xs ≤ at_most (v -ℤ pos 1) xs). absurd (below (omega arith))) (cases_lt (at_most (v -ℤ pos 1) xs) (at_most v xs)) in
    record { among = among v xs more; reaches = r; least = f }

-- a number that reaches, written in another way
pub passed_as : (p : ℕ) (xs : List ℤ) (u v : ℤ) → u ≡ v → true ≡ reached p xs u → Reaches p xs v
passed_as p xs u v e h = leb-true _ _ (ap (reached p xs) (sym e) ∙ sym h)

pub failed : (p : ℕ) (xs : List ℤ) (v : ℤ) → false ≡ reached p xs v → 100 * at_most v xs < p * length xs
failed p xs v h = leb-false _ _ (sym h)

pub reaches_as : (p : ℕ) (xs : List ℤ) (u v : ℤ) → u ≡ v → Reaches p xs u → Reaches p xs v
reaches_as p xs u v e h = let same = ap (λ (z : ℤ). at_most z xs) e in omega arith

-- the least and the greatest of two runs
pub lows : (a : ℤ) (xs ys : List ℤ) → AllByRecursion (λ x. fold int_min (fold int_min a xs) ys ≤ℤ x) (xs ++ ys)
lows a xs ys =
    let r = fold int_min (fold int_min a xs) ys in
    let b = folded_min_z_bounds (fold int_min a xs) ys r refl in
    let l = b.0 in
    All-append (λ x. r ≤ℤ x) xs ys (All-weaker (λ x. fold int_min a xs ≤ℤ x) (λ x. r ≤ℤ x) (λ x k. omega (arith, ints)) xs (folded_min_z_bounds a xs (fold int_min a xs) refl).1) b.1

pub highs : (a : ℤ) (xs ys : List ℤ) → AllByRecursion (λ x. x ≤ℤ fold int_max (fold int_max a xs) ys) (xs ++ ys)
highs a xs ys =
    let r = fold int_max (fold int_max a xs) ys in
    let b = folded_max_z_bounds (fold int_max a xs) ys r refl in
    let l = b.0 in
    All-append (λ x. x ≤ℤ r) xs ys (All-weaker (λ x. x ≤ℤ fold int_max a xs) (λ x. x ≤ℤ r) (λ x k. omega (arith, ints)) xs (folded_max_z_bounds a xs (fold int_max a xs) refl).1) b.1

-- what lies below all of some values does not lie above all of them
pub spread : (low high : ℤ) (xs : List ℤ) → 0 < length xs → AllByRecursion (λ x. low ≤ℤ x) xs → AllByRecursion (λ x. x ≤ℤ high) xs → low ≤ℤ high
spread low high [] h a b = absurd (omega arith)
spread low high (x ∷ xs) h a b = let l = a.0 in let u = b.0 in omega (arith, ints)

-- the middle of two numbers of 32 bits, computed in 64
module _ (low high : ℤ) (l : neg_ℤ (pos 2147483648) ≤ℤ low) (o : lt_z low high ≡ true) (u : high ≤ℤ pos 2147483647) where
  abbrev middle : ℤ
  middle = to_z w64 (of_z w64 (low +ℤ to_z w64 (of_z w64 (quot_z (to_z w64 (of_z w64 (high -ℤ low))) (pos 2)))))

  abbrev next : ℤ
  next = to_z w64 (of_z w64 (middle +ℤ pos 1))

  pub middle_from : low ≤ℤ middle
  middle_from = omega (arith, ints)

  middle_below : middle <ℤ high
  middle_below = omega (arith, ints)

  -- numbers of 32 bits
  narrow : (m : ℤ) → low ≤ℤ m → m <ℤ high → to_z w32 (of_z w32 m) ≡ m
  narrow m a b = omega (arith, ints)

  one_above : (m : ℤ) → low ≤ℤ m → m <ℤ high → to_z w64 (of_z w64 (m +ℤ pos 1)) ≡ m +ℤ pos 1
  one_above m a b = omega (arith, ints)

  pub middle_is : to_z w32 (of_z w32 middle) ≡ middle
  middle_is = narrow middle middle_from middle_below

  pub middle_to : middle ≤ℤ pos 2147483647
  middle_to = by middle middle_below
    where
      by : (m : ℤ) → m <ℤ high → m ≤ℤ pos 2147483647
      by m b = omega (arith, ints)

  pub next_from : neg_ℤ (pos 2147483648) ≤ℤ next
  next_from = by middle next middle_from (one_above middle middle_from middle_below)
    where
      by : (m n : ℤ) → low ≤ℤ m → n ≡ m +ℤ pos 1 → neg_ℤ (pos 2147483648) ≤ℤ n
      by m n a e = omega (arith, ints)

  pub next_to : next ≤ℤ high
  next_to = by middle next middle_below (one_above middle middle_from middle_below)
    where
      by : (m n : ℤ) → m <ℤ high → n ≡ m +ℤ pos 1 → n ≤ℤ high
      by m n b e = omega (arith, ints)

  pub below_next : (w : ℤ) → w <ℤ next → w ≤ℤ to_z w32 (of_z w32 middle)
  below_next w h = by middle next (to_z w32 (of_z w32 middle)) h (one_above middle middle_from middle_below) middle_is
    where
      by : (m n v : ℤ) → w <ℤ n → n ≡ m +ℤ pos 1 → v ≡ m → w ≤ℤ v
      by m n v k e f = omega (arith, ints)
