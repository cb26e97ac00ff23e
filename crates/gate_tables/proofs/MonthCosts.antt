-- The costs of the months in an array, and as the function that the model has.
use Rattle.std.proofs.Common.{◌≡◌, ℕ, zero, suc, ◌+◌, ◌-◌, ◌<◌, ◌≤◌, cond, ◌&&◌, eqb, ltb, leb, List, length, set, get_or, map, take, drop, fold, ℤ, pos, ◌+ℤ◌, ap, ◌∙◌, refl, sym, min, ⊎_elim, rules, arith}
use lib.ListN.{length-map}
use borrow.Rule.Slice.PartMut.{put_mid}
use Rattle.std.proofs.Math.Seq.{drop-cons}
use Rattle.std.proofs.lemmas.Int.{ints}
use Rattle.std.proofs.lemmas.Bool.{cases_lt}
use Rattle.std.proofs.lemmas.Bool.Decides.{nat_tests}
use Rattle.std.proofs.lemmas.Grind.{common_steps}
use Rattle.std.proofs.lemmas.List.{places, drop_all, get_or_default, get_or_past, get_or-take, get_or-drop, get_or-map, get_or-append_right, get_or_append_left, length-take, length-drop, length-take-le}
use Rattle.gate_model.specs.Requirement.{over}
use Rattle.gate_model.specs.Effects.{spread}
use Rattle.gate_tables.specs.Accounts.{costs_of}
use Rattle.hours.specs.declared.period.Period.{Period}

-- no cost in any month
pub no_costs : (xs : List ℤ) → ((i : ℕ) (d : ℤ) → i < length xs → get_or xs i d ≡ pos 0) → costs_of xs ≡ (λ m. pos 0)
no_costs xs h = λ i m. at m i
  where
    at : (m : ℕ) → costs_of xs m ≡ pos 0
    at m = ⊎_elim (λ l. h m (pos 0) l) (λ l. get_or_past xs m (pos 0) l) (cases_lt m (length xs))

-- a month's cost taken away
pub cleared_month : (xs : List ℤ) (o : ℕ) → o < length xs → costs_of (set xs o (pos 0)) ≡ (λ m. cond (eqb m o) (pos 0) (costs_of xs m))
cleared_month xs o l = λ i m. at m i
  where
    at : (m : ℕ) → costs_of (set xs o (pos 0)) m ≡ cond (eqb m o) (pos 0) (costs_of xs m)
    at m = grind (arith, nat_tests, common_steps)

-- the k-th of n months from a on
pub part_at : (xs : List ℤ) (a n k : ℕ) (d : ℤ) → k < length (take n (drop a xs)) → get_or (take n (drop a xs)) k d ≡ costs_of xs (a + k)
part_at xs a n k d l = grind (arith, get_or_default, get_or-take, get_or-drop, length-take, length-drop)

-- n months from a on, each with what f makes of it
abbrev part_by : (ℤ → ℤ) → List ℤ → ℕ → ℕ → List ℤ
part_by f xs a n = put_mid a n xs (map f (take n (drop a xs)))

part_inside : (f : ℤ → ℤ) (xs : List ℤ) (a n m : ℕ) → a + n ≤ length xs → a ≤ m → m < a + n → costs_of (part_by f xs a n) m ≡ f (costs_of xs m)
part_inside f xs a n m l h k =
    let p = length-take-le n (drop a xs) (omega (arith, length-drop a xs)) in
    let q = length-map (take n (drop a xs)) f in
    get_or-append_right (take a xs) _ a m (pos 0) (length-take-le a xs (omega arith)) h
    ∙ get_or_append_left (map f (take n (drop a xs))) _ (pos 0) (m - a) (omega arith)
    ∙ get_or-map f (take n (drop a xs)) (m - a) (pos 0) (pos 0) (omega arith)
    ∙ ap f (part_at xs a n (m - a) (pos 0) (omega arith) ∙ ap (costs_of xs) (omega arith))

part_after : (f : ℤ → ℤ) (xs : List ℤ) (a n m : ℕ) → a + n ≤ length xs → a + n ≤ m → costs_of (part_by f xs a n) m ≡ costs_of xs m
part_after f xs a n m l h =
    let p = length-take-le n (drop a xs) (omega (arith, length-drop a xs)) in
    let q = length-map (take n (drop a xs)) f in
    get_or-append_right (take a xs) _ a m (pos 0) (length-take-le a xs (omega arith)) (omega arith)
    ∙ get_or-append_right (map f (take n (drop a xs))) (drop n (drop a xs)) n (m - a) (pos 0) (omega arith) (omega arith)
    ∙ get_or-drop n (drop a xs) (m - a - n) (pos 0)
    ∙ get_or-drop a xs (n + (m - a - n)) (pos 0)
    ∙ ap (costs_of xs) (omega arith)

-- z more in each month of a period
pub raised_is_spread : (xs : List ℤ) (p : Period) (z : ℤ) → p.first + p.months ≤ length xs → costs_of (part_by (λ cost. cost +ℤ z) xs p.first p.months) ≡ spread p z (costs_of xs)
raised_is_spread xs p z l = λ i m. at p.first p.months m l i
  where
    at : (a n m : ℕ) → a + n ≤ length xs → costs_of (part_by (λ cost. cost +ℤ z) xs a n) m ≡ costs_of xs m +ℤ cond (leb a m && ltb m (a + n)) z (pos 0)
    at a n m l =
        let before : m < a → costs_of (part_by (λ cost. cost +ℤ z) xs a n) m ≡ costs_of xs m = λ h. search (rules, places) in
        let inside = part_inside (λ cost. cost +ℤ z) xs a n m l in
        let after = part_after (λ cost. cost +ℤ z) xs a n m l in
        grind (arith, ints, nat_tests)

-- one more month of a sum over months
pub over_more : (f : ℕ → ℤ) (m : ℕ) → m < 13 → over f m (13 - m) ≡ f m +ℤ over f (m + 1) (13 - (m + 1))
over_more f m l =
    let n : 13 - m ≡ suc (13 - (m + 1)) = omega arith in
    let k : suc m ≡ m + 1 = omega arith in
    ap (over f m) n ∙ ap (λ j. f m +ℤ over f j (13 - (m + 1))) k

pub over_none : (f : ℕ → ℤ) (m : ℕ) → 13 ≤ m → over f m (13 - m) ≡ pos 0
over_none f m l = let n : 13 - m ≡ zero = omega arith in ap (over f m) n

-- the sum over the months from o on, added to z
pub over_rest : (xs : List ℤ) (o k : ℕ) (z : ℤ) → length xs ≡ o + k → z +ℤ over (costs_of xs) o k ≡ fold ◌+ℤ◌ z (drop o xs)
over_rest xs o zero z l = grind (arith, ints, common_steps)
over_rest xs o (suc k) z l =
    let e : z +ℤ (costs_of xs o +ℤ over (costs_of xs) (suc o) k) ≡ (z +ℤ costs_of xs o) +ℤ over (costs_of xs) (suc o) k = omega (arith, ints) in
    rw (drop-cons xs o (pos 0) (omega arith)) (e ∙ over_rest xs (suc o) k (z +ℤ costs_of xs o) (omega arith))

pub unsettled_is : (xs : List ℤ) (o : ℕ) → length xs ≡ 13 → over (costs_of xs) o (13 - o) ≡ fold ◌+ℤ◌ (pos 0) (drop (min o 13) xs)
unsettled_is xs o l = ⊎_elim
    (λ h. let m : min o 13 ≡ o = omega arith in rw m (let r = over_rest xs o (13 - o) (pos 0) (omega arith) in let e : pos 0 +ℤ over (costs_of xs) o (13 - o) ≡ over (costs_of xs) o (13 - o) = omega (arith, ints) in sym e ∙ r))
    (λ h. let m : min o 13 ≡ 13 = omega arith in let n : 13 - o ≡ 0 = omega arith in rw (m, n, drop_all 13 xs (omega arith)) refl)
    (cases_lt o 13)
