use Rattle.std.proofs.Common.{ℕ, ℤ, cond, int_lt, rules, tests, arith}
use Rattle.std.proofs.lemmas.Int.{to_z-of_z}
use Rattle.std.proofs.lemmas.Iterator.{YieldsList-from_map, YieldsList-from_slice}
use Rattle.std.proofs.lemmas.Iterator.Consumers.{sum_by_from_yields_List}
use Rattle.books.proofs.Counts.{above_or_not}
use Rattle.books.proofs.percentile.above.Goals as goal

pub returns : goal.returns
returns c =
    let v = c.args.v in
    let xs = c.args.values.now in
    let one : ℤ → ℕ = λ x. cond (int_lt v x) 1 0 in
    let counted = sum_by_from_yields_List one xs c.map.result c.sum.result c.sum.ensures.ran (YieldsList-from_map _ one (YieldsList-from_slice xs cc) c.map.ensures.closure (λ x r q k. search (rules, tests, to_z-of_z))) in
    omega (arith, above_or_not v xs)
