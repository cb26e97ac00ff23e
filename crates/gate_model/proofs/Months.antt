-- Sums over months, and the equal parts of a period.
use Rattle.std.proofs.Common.{rules}
use Rattle.std.proofs.lemmas.Grind.{common_steps}
use Rattle.std.proofs.Common.{◌≡◌, ℕ, zero, suc, ◌+◌, ◌-◌, ◌≤◌, min, max, Bool, true, false, cond, ◌&&◌, ◌||◌, eqb, ltb, leb, ℤ, pos, ◌+ℤ◌, ◌*ℤ◌, sym, ◌∙◌, subst, ⊎_elim, arith}
use Rattle.std.proofs.lemmas.Int.{ints}
use Rattle.std.proofs.lemmas.Bool.{or_cases, eqb-true}
use Rattle.std.proofs.lemmas.Bool.Decides.{nat_tests}
use Rattle.gate_model.specs.Money.{Parts, one, two, three, four, six, twelve}
use Rattle.gate_model.specs.State.{Account}
use Rattle.gate_model.specs.Requirement.{over, unsettled, monthly, value_left}
use Rattle.gate_model.specs.Effects.{bears, spread, costed}
use Rattle.hours.specs.declared.period.Period.{Period}
use Rattle.gate_model.specs.declared.right.Right.{Right}
use Rattle.hours.specs.Periods.{lawful_period}

-- how many of k months from o on lie from a up to before b
borne : ℕ → ℕ → ℕ → ℕ → ℕ
borne a b o zero = 0
borne a b o (suc k) = cond (leb a o && ltb o b) 1 0 + borne a b (suc o) k

over_spread : (p : Period) (z : ℤ) (costs : ℕ → ℤ) (o k : ℕ) → over (spread p z costs) o k ≡ over costs o k +ℤ (pos (borne p.first (p.first + p.months) o k) *ℤ z)
unfolding borne
over_spread p z costs o zero = omega (arith, ints)
over_spread p z costs o (suc k) =
    let r = over_spread p z costs (suc o) k in
    elim (bears p o) as (λ b. ((costs o +ℤ cond b z (pos 0)) +ℤ over (spread p z costs) (suc o) k) ≡ ((costs o +ℤ over costs (suc o) k) +ℤ (pos (cond b 1 0 + borne p.first (p.first + p.months) (suc o) k) *ℤ z)))
    [ true ↦ omega (arith, ints) | false ↦ omega (arith, ints) ]

borne_is : (a b o k : ℕ) → borne a b o k ≡ min b (o + k) - max a o
unfolding borne
borne_is a b o zero = omega arith
borne_is a b o (suc k) = let r = borne_is a b (suc o) k in grind (arith, nat_tests)

-- how many months a period may have
abbrev pub lawful_length : ℕ → Bool
lawful_length n = eqb n 1 || (eqb n 2 || (eqb n 3 || (eqb n 4 || (eqb n 6 || eqb n 12))))

pub parts_of : (n : ℕ) → lawful_length n ≡ true → Parts n
parts_of n h = ⊎_elim (λ e. subst Parts (sym (eqb-true n 1 e)) one) (λ h2.
    ⊎_elim (λ e. subst Parts (sym (eqb-true n 2 e)) two) (λ h3.
    ⊎_elim (λ e. subst Parts (sym (eqb-true n 3 e)) three) (λ h4.
    ⊎_elim (λ e. subst Parts (sym (eqb-true n 4 e)) four) (λ h6.
    ⊎_elim (λ e. subst Parts (sym (eqb-true n 6 e)) six) (λ e. subst Parts (sym (eqb-true n 12 e)) twelve)
    (or_cases (eqb n 6) _ h6)) (or_cases (eqb n 4) _ h4)) (or_cases (eqb n 3) _ h3)) (or_cases (eqb n 2) _ h2)) (or_cases (eqb n 1) _ h)

-- a lawful period of which no month is over
pub record Ahead (o : ℕ) (p : Period) : Type 0 where
  pub lawful : lawful_period p ≡ true
  pub begins : o ≤ p.first

-- its months bear in all what is shared out
pub whole : (o : ℕ) (p : Period) (z : ℤ) → Ahead o p → (pos p.months *ℤ monthly p z) ≡ (pos 12 *ℤ z)
whole o p z h = search rules

last_month : (o : ℕ) (p : Period) → Ahead o p → p.first + p.months ≤ 13
last_month o p h = grind (arith, ints, nat_tests, common_steps)

pub unsettled_costed : (o : ℕ) (p : Period) (z : ℤ) (a : Account) → Ahead o p → unsettled o (costed p (monthly p z) a) ≡ unsettled o a +ℤ (pos 12 *ℤ z)
unsettled_costed o p z a h =
    let s = over_spread p (monthly p z) a.costs o (13 - o) in
    let l = last_month o p h in
    let n : borne p.first (p.first + p.months) o (13 - o) ≡ p.months = borne_is p.first (p.first + p.months) o (13 - o) ∙ omega arith in
    let w = whole o p z h in
    grind (arith, ints, nat_tests)

pub value_ahead : (o : ℕ) (r : Right) → Ahead o r.key.slot.period → value_left o r ≡ pos 12 *ℤ (pos r.megawatts *ℤ r.price)
value_ahead o r h = grind (arith, ints, nat_tests)
