use Rattle.std.proofs.Common.{◌≡◌, ◌++◌, ℕ, ℤ, ap, ◌∙◌, subst, arith, w32, to_z, of_z}
use Rattle.std.proofs.lemmas.List.{length-append}
use Rattle.std.proofs.lemmas.Int.{ints}
use Rattle.books.specs.Percentiles.{Percentile, ranked}
use Rattle.books.specs.Least.{ranked_some, rankable_from}
use Rattle.books.proofs.percentile.percentile_of.Goals as goal

pub returns-clause-value : goal.returns-clause-value
returns-clause-value c =
    let s = c.in_ok-new.field-0 in
    let xs = s.first.now ++ s.second.now in
    let is = c.in_ok-new.ensures in
    let same : xs ≡ c.args.first.now ++ c.args.second.now = cc (is.0, is.1) in
    let wide : c.percentile.result ≡ to_z w32 (of_z w32 c.percentile.result) = omega (arith, ints) in
    let least = subst (λ (z : ℤ). Percentile s.percent xs z) wide c.percentile.ensures in
    let both = length-append s.first.now s.second.now in
    ranked_some s.percent xs (to_z w32 (of_z w32 c.percentile.result)) (rankable_from s.percent xs s.low s.high (omega arith)) least
    ∙ ap (λ (p : ℕ). ranked p xs) is.2 ∙ ap (ranked c.args.p) same
