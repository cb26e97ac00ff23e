use Rattle.std.proofs.Common.{◌<◌, length, ℤ, ◌∙◌, subst, arith}
use Rattle.hours.specs.Bounds.{Within}
use Rattle.books.specs.Hourly.{difference_is, difference_kept, loss_is, loss_more, next_is, sum_more, total_more}
use Rattle.books.proofs.difference.subtract.Goals as goal

pub loop-i-preserved : goal.loop-i-preserved
loop-i-preserved c =
    let xs = c.args.sinks.now in
    let ys = c.args.sources.now in
    let i = c.loop-i.i in
    let h : i < length xs = omega arith in
    let k : i < length ys = omega arith in
    let here = next_is xs ys i h k c.loop-i.sources c.loop-i.invariant.0 in
    let a = c.requires.small_sinks i h in
    let b = c.requires.small_sources i k in
    let d = c.difference-d.result in
    let value = c.difference-d.ensures.value in
    let few : i < 9000 = omega arith in
    let small = subst (λ (z : ℤ). Within 400000 z) (difference_is _ _ _ d a b here value) c.difference-d.ensures.small in
    let wide = c.from-sum.ensures ∙ difference_kept _ _ _ d a b here value in
    let r = sum_more _ _ c.from-sum.result _ _ i few small c.loop-i.invariant.2 c.loop-i.invariant.3 wide c.loop-i.invariant.1 (total_more xs ys i h k) in
    (loss_more xs ys i h k c.loop-i.sources _ c.loop-i.invariant.0 (loss_is _ _ _ d a b here value), r.0, r.1, r.2)
