use Rattle.std.proofs.Common.{◌≡◌, ◌<◌, ◌++◌, length, ℤ, pos, negsuc, ◌≤ℤ◌, fold, sym, ap, ◌∙◌, subst, arith, w64, to_z, of_z}
use Rattle.std.proofs.lemmas.List.{length-append}
use Rattle.std.proofs.lemmas.Int.{ints}
use Rattle.std.specs.Int.{int_min, int_max}
use Rattle.std.specs.List.{AllByRecursion}
use Rattle.books.proofs.Counts.{below_fails, failed, fails_below, top_reaches, percentile_is, below_next, middle_from, middle_is, middle_to, next_from, next_to, passed_as, reaches_as, lows, highs, spread}
use Rattle.books.proofs.percentile.Sample.percentile.Goals as goal

pub loop-low-init : goal.loop-low-init
loop-low-init c =
    let first = c.args.self.now.first.now in
    let second = c.args.self.now.second.now in
    let xs = first ++ second in
    let low = to_z w64 (of_z w64 c.from-low.result) in
    let high = to_z w64 (of_z w64 c.from-high.result) in
    let least : low ≡ fold int_min (fold int_min (pos 2147483647) first) second =
    omega (arith, ints) ∙ c.lowest-2.ensures ∙ ap (λ (z : ℤ). fold int_min z second) {y = fold int_min (pos 2147483647) first} (omega (arith, ints) ∙ c.lowest.ensures) in
    let most : high ≡ fold int_max (fold int_max (negsuc 2147483647) first) second =
    omega (arith, ints) ∙ c.highest-2.ensures ∙ ap (λ (z : ℤ). fold int_max z second) {y = fold int_max (negsuc 2147483647) first} (omega (arith, ints) ∙ c.highest.ensures) in
    let all : AllByRecursion (λ x. low ≤ℤ x) xs = subst (λ (z : ℤ). AllByRecursion (λ x. z ≤ℤ x) xs) (sym least) (lows (pos 2147483647) first second) in
    let none : AllByRecursion (λ x. x ≤ℤ high) xs = subst (λ (z : ℤ). AllByRecursion (λ x. x ≤ℤ z) xs) (sym most) (highs (negsuc 2147483647) first second) in
    let some : 0 < length xs = omega (arith, length-append first second) in
    (omega (arith, ints), spread low high xs some all none, omega (arith, ints), top_reaches c.args.self.now.percent xs high c.args.self.now.high none, λ w l. below_fails c.args.self.now.percent xs low w c.args.self.now.low some all l)

pub loop-low-preserved-then-reaches : goal.loop-low-preserved-then-reaches
loop-low-preserved-then-reaches c =
    let l = c.loop-low.invariant.0 in
    let u = c.loop-low.invariant.2 in
    let o = c.loop-low-test.true in
    (l, middle_from _ _ l o u, middle_to _ _ l o u, passed_as _ _ _ _ (middle_is _ _ l o u) c.if-reaches.ensures, c.loop-low.invariant.4)

pub loop-low-preserved : goal.loop-low-preserved
loop-low-preserved c =
    let l = c.loop-low.invariant.0 in
    let u = c.loop-low.invariant.2 in
    let o = c.loop-low-test.true in
    let fails = failed _ _ _ c.if-reaches.ensures in
    (next_from _ _ l o u, next_to _ _ l o u, u, c.loop-low.invariant.3, λ w h. fails_below _ _ _ w fails (below_next _ _ l o u w h))

pub returns : goal.returns
returns c = percentile_is _ _ _ (reaches_as _ _ _ _ (omega (arith, ints)) c.loop-low.invariant.3) (λ w l. c.loop-low.invariant.4 w (omega (arith, ints)))
