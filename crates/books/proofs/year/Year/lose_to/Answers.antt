use Rattle.std.proofs.Common.{◌≡◌, ◌∙◌, ℕ, neg_ℤ, take, length, ap, sym, subst, arith}
use Rattle.std.proofs.lemmas.Int.{ints}
use Rattle.std.proofs.lemmas.List.{length-map, length-take-le, take_at}
use Rattle.books.specs.Differences.{differences, losses, total, Small}
use Rattle.books.specs.Hourly.{all_small}
use Rattle.books.specs.PathYears.{differ_there}
use Rattle.books.proofs.year.Year.lose_to.Goals as goal

pub invariant_of-self : goal.invariant_of-self
invariant_of-self c =
    let ds = differences c.args.sinks.now c.args.self.now in
    let d = differ_there _ _ _ c.requires.sinks c.requires.sources in
    let h = c.self.inside.hours in
    let same : take c.from.result c.self.inside.numbers ≡ c.args.self.now = ap (λ (n : ℕ). take n c.self.inside.numbers) c.from.ensures ∙ c.self.view_is in
    let after : c.subtract-sum.new.sources ≡ losses ds = cc (same, c.subtract-sum.ensures.after, c.as_slice.ensures.numbers) in
    let long : length c.subtract-sum.new.sources ≡ h =
    omega (arith, ap length after, length-map ds neg_ℤ, d.1, ap length c.self.view_is, length-take-le h c.self.inside.numbers (omega arith)) in
    (omega arith, subst (Small 400000) (sym (take_at c.subtract-sum.new.sources _ h long ∙ after)) (all_small 400000 (losses ds) d.0.lost))

pub invariant_of-result-2 : goal.invariant_of-result-2
invariant_of-result-2 c =
    let ds = differences c.args.sinks.now c.args.self.now in
    let d = differ_there _ _ _ c.requires.sinks c.requires.sources in
    let h = c.self.inside.hours in
    let same : take c.from.result c.self.inside.numbers ≡ c.args.self.now = ap (λ (n : ℕ). take n c.self.inside.numbers) c.from.ensures ∙ c.self.view_is in
    let value : c.subtract-sum.result ≡ total ds = cc (same, c.subtract-sum.ensures.sum, c.as_slice.ensures.numbers) in
    let long : length ds ≡ h = omega (arith, d.1, ap length c.self.view_is, length-take-le h c.self.inside.numbers (omega arith)) in
    let sum = d.0.sum in
    (omega arith, omega arith, (omega (arith, ints), omega (arith, ints)))
