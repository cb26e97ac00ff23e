use Rattle.std.proofs.Common.{◌≡◌, ◌++◌, Some, pos, sym, ap, ◌∙◌, arith, w64, to_z, of_z}
use Rattle.std.proofs.lemmas.Int.{ints}
use Rattle.std.specs.Int.{int_max}
use Rattle.books.specs.Histories.{percent, stress_of}
use Rattle.books.specs.Hourly.{small-append}
use Rattle.books.specs.Least.{percentile_value, percentile_within}
use Rattle.books.specs.Percentiles.{percentile_of}
use Rattle.books.specs.Products.{max_within}
use Rattle.books.proofs.stress.stress.Goals as goal

pub returns-in-Some-clause-value : goal.returns-in-Some-clause-value
returns-in-Some-clause-value c =
    let v = c.in-Some.v in
    let value = percentile_value _ _ v c.in-Some.ensures.least in
    let found : percentile_of (percent c.args.mean.above) (c.args.recent.now ++ c.args.distant.now) ≡ Some v = cc (value, c.percent.ensures, c.as_slice.ensures.numbers, c.as_slice-2.ensures.numbers) in
    let wide : to_z w64 (of_z w64 c.from.result) ≡ v = omega (arith, ints) in
    omega (arith, ints) ∙ c.max.ensures.value ∙ ap (λ z. int_max z (pos 0)) wide ∙ sym (ap stress_of found)

pub returns-in-Some-clause-small : goal.returns-in-Some-clause-small
returns-in-Some-clause-small c =
    let v = c.in-Some.v in
    let near = percentile_within 400000 _ _ v c.in-Some.ensures.least (small-append 400000 _ _ c.as_slice.ensures.small c.as_slice-2.ensures.small) in
    let wide : to_z w64 (of_z w64 c.from.result) ≡ v = omega (arith, ints) in
    let most = max_within 400000 v near in
    let value : c.max.result ≡ int_max v (pos 0) = c.max.ensures.value ∙ ap (λ z. int_max z (pos 0)) wide in
    (omega (arith, ints), omega (arith, ints))
