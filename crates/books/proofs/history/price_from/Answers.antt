use Rattle.std.proofs.Common.{◌≡◌, ℤ, pos, ◌*ℤ◌, ap, ◌∙◌, arith}
use Rattle.std.proofs.lemmas.Int.{ints}
use Rattle.books.specs.Products.{within_times}
use Rattle.books.proofs.history.price_from.Goals as goal

pub less-requires-clause-stress : goal.less-requires-clause-stress
less-requires-clause-stress c =
    let s = c.stress-hourly.result in
    let h = c.args.ahead.number in
    let few = c.args.ahead.few in
    let t : c.times.result ≡ s *ℤ pos h = c.times.ensures ∙ ap (λ (z : ℤ). z *ℤ pos h) (omega (arith, ints)) in
    let w = within_times 400000 h s c.stress-hourly.ensures.small in
    (omega (arith, ints), omega (arith, ints))
