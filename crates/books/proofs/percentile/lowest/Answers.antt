use Rattle.std.proofs.Common.{rules, tests, ℤ, fold, ap, ◌∙◌, arith}
use Rattle.std.proofs.lemmas.Int.{ints, to_z-of_z}
use Rattle.std.proofs.lemmas.Iterator.{YieldsList-from_slice}
use Rattle.std.proofs.lemmas.Iterator.Consumers.{fold_from_yields_List}
use Rattle.std.specs.Int.{int_min}
use Rattle.books.proofs.percentile.lowest.Goals as goal

pub returns : goal.returns
returns c =
    let folded = fold_from_yields_List _ int_min _ _ c.fold.ensures.ran (YieldsList-from_slice c.args.values.now cc) (λ a x b q k. search (rules, tests, to_z-of_z)) in
    omega (arith, ints) ∙ folded ∙ ap (λ (z : ℤ). fold int_min z c.args.values.now) (omega (arith, ints))
