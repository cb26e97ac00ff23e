-- A program keeps the accounts and the months' costs in arrays: what a write to one place is, in the words of the state.
use Rattle.std.proofs.Common.{◌≡◌, ℕ, zero, suc, ◌+◌, ◌<◌, ◌≤◌, Bool, true, false, cond, ◌&&◌, leb, ltb, List, length, get_or, set, ℤ, pos, ◌+ℤ◌, sym, refl, ap, ◌∙◌, subst, ⊎_elim, arith}
use Rattle.std.proofs.lemmas.Int.{ints}
use Rattle.std.proofs.lemmas.Bool.{cases_eq, cond-true, cond-false}
use Rattle.std.proofs.lemmas.List.{get_or-set_same, get_or-set_other, length-set}
use Rattle.std.proofs.lemmas.Grind.{common_steps}
use Rattle.std.proofs.lemmas.Bool.Decides.{nat_tests}
use Rattle.gate_model.specs.State.{Account, empty_account}
use Rattle.gate_model.specs.Effects.{changed, spread}
use Rattle.hours.specs.declared.period.Period.{Period}

-- the customers' accounts, place 0 nobody's
abbrev pub accounts_in : List Account → ℕ → Account
accounts_in xs c = get_or xs c empty_account

pub set_is_changed : (xs : List Account) (c : ℕ) (change : Account → Account) → c < length xs → accounts_in (set xs c (change (accounts_in xs c))) ≡ changed (accounts_in xs) c change
set_is_changed xs c change l = λ i k. at k i
  where
    at : (k : ℕ) → accounts_in (set xs c (change (accounts_in xs c))) k ≡ changed (accounts_in xs) c change k
    at k = grind (arith, nat_tests, common_steps)

-- the costs of months 0 to 12, place 0 unused
abbrev pub costs_in : List ℤ → ℕ → ℤ
costs_in xs m = get_or xs m (pos 0)

-- z more in the month a, and so on for n months: what a loop does
abbrev pub raised : List ℤ → ℕ → ℕ → ℤ → List ℤ
raised xs a zero z = xs
raised xs a (suc n) z = raised (set xs a (costs_in xs a +ℤ z)) (suc a) n z

raised_length : (xs : List ℤ) (a n : ℕ) (z : ℤ) → length (raised xs a n z) ≡ length xs
raised_length xs a zero z = refl
raised_length xs a (suc n) z = raised_length (set xs a (costs_in xs a +ℤ z)) (suc a) n z ∙ length-set xs a (costs_in xs a +ℤ z)

abbrev inside : ℕ → ℕ → ℕ → Bool
inside a n m = leb a m && ltb m (a + n)

inside_none : (a m : ℕ) → inside a 0 m ≡ false
inside_none a m = grind (arith, nat_tests)

inside_first : (a n : ℕ) → inside a (suc n) a ≡ true
inside_first a n = grind (arith, nat_tests)

inside_after : (a n : ℕ) → inside (suc a) n a ≡ false
inside_after a n = grind (arith, nat_tests)

inside_more : (a n m : ℕ) → (m ≡ a → ⊥) → inside a (suc n) m ≡ inside (suc a) n m
inside_more a n m d = grind (arith, nat_tests)

raised_at : (xs : List ℤ) (a n : ℕ) (z : ℤ) (m : ℕ) → a + n ≤ length xs → costs_in (raised xs a n z) m ≡ costs_in xs m +ℤ cond (inside a n m) z (pos 0)
raised_at xs a zero z m l = let e = cond-false (inside a 0 m) z (pos 0) (inside_none a m) in omega (arith, ints)
raised_at xs a (suc n) z m l =
    let ys = set xs a (costs_in xs a +ℤ z) in
    let i = raised_at ys (suc a) n z m (let k = length-set xs a (costs_in xs a +ℤ z) in omega arith) in
    ⊎_elim
    (λ e. subst (λ j. costs_in ys j +ℤ cond (inside (suc a) n j) z (pos 0) ≡ costs_in xs j +ℤ cond (inside a (suc n) j) z (pos 0)) (sym e)
    (let g = get_or-set_same xs a (costs_in xs a +ℤ z) (pos 0) (omega arith) in
    let c1 = cond-false (inside (suc a) n a) z (pos 0) (inside_after a n) in
    let c2 = cond-true (inside a (suc n) a) z (pos 0) (inside_first a n) in omega (arith, ints)) ◂ i)
    (λ d. let g = get_or-set_other xs a m (costs_in xs a +ℤ z) (pos 0) d in
    let c = ap (λ b. cond b z (pos 0)) (inside_more a n m d) in omega (arith, ints))
    (cases_eq m a)
  where
    infixl 20 ◌◂◌
    ◌◂◌ : {x y w : ℤ} → y ≡ w → x ≡ y → x ≡ w
    ◌◂◌ p q = q ∙ p

-- the loop over a period's months does what `spread` says
pub raised_is_spread : (xs : List ℤ) (p : Period) (z : ℤ) → p.first + p.months ≤ length xs → costs_in (raised xs p.first p.months z) ≡ spread p z (costs_in xs)
raised_is_spread xs p z l = λ i m. raised_at xs p.first p.months z m l i
