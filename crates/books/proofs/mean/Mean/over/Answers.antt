use Rattle.std.proofs.Common.{◌≡◌, ℤ, pos, ◌*ℤ◌, sym, ap, ◌∙◌, subst, arith, w64, to_z, of_z}
use Rattle.std.proofs.lemmas.Int.{ints}
use Rattle.std.specs.Int.{int_div_euclid}
use Rattle.hours.specs.Bounds.{Within}
use Rattle.books.specs.Fractions.{over_within}
use Rattle.books.specs.Products.{div_is}
use Rattle.books.specs.Histories.{floored}
use Rattle.books.proofs.mean.Mean.over.Goals as goal

pub returns-clause-small : goal.returns-clause-small
returns-clause-small c =
    let m = c.args.self in
    let h = c.args.ahead in
    let small = over_within m.above m.below h.number m.some h.few m.small in
    let t : to_z w64 (of_z w64 c.times.result) ≡ m.above *ℤ pos h.number = omega (arith, ints) ∙ c.times.ensures ∙ ap (λ (z : ℤ). z *ℤ pos h.number) (omega (arith, ints)) in
    let value : to_z w64 (of_z w64 c.div_euclid.result) ≡ floored (m.above *ℤ pos h.number) m.below =
    omega (arith, ints) ∙ c.div_euclid.ensures ∙ ap (λ (z : ℤ). int_div_euclid z (to_z w64 (of_z w64 c.from.result))) t
    ∙ ap (int_div_euclid (m.above *ℤ pos h.number)) {y = pos m.below} (omega (arith, ints)) ∙ div_is (m.above *ℤ pos h.number) m.below in
    subst (λ (z : ℤ). Within 3600000000 z) (sym value) small
