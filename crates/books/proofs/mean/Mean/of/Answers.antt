use Rattle.std.proofs.Common.{◌≡◌, ℤ, pos, ◌*ℤ◌, ap, ◌∙◌, arith}
use Rattle.std.proofs.lemmas.Int.{ints}
use Rattle.books.specs.Fractions.{crossed, divisor_above, mean_within}
use Rattle.books.proofs.mean.Mean.of.Goals as goal

pub weigh-above-requires-clause-recent : goal.weigh-above-requires-clause-recent
weigh-above-requires-clause-recent c =
    let r = c.recent.inside in
    let d = c.distant.inside in
    let w = crossed r.sum r.hours.number d.hours.number c.recent.invariant d.hours.few in
    let t : c.times.result ≡ r.sum *ℤ pos d.hours.number = c.times.ensures ∙ ap (λ (z : ℤ). z *ℤ pos d.hours.number) (omega (arith, ints)) in
    (omega (arith, ints), omega (arith, ints))

pub weigh-above-requires-clause-distant : goal.weigh-above-requires-clause-distant
weigh-above-requires-clause-distant c =
    let r = c.recent.inside in
    let d = c.distant.inside in
    let w = crossed d.sum d.hours.number r.hours.number c.distant.invariant r.hours.few in
    let t : c.times-2.result ≡ d.sum *ℤ pos r.hours.number = c.times-2.ensures ∙ ap (λ (z : ℤ). z *ℤ pos r.hours.number) (omega (arith, ints)) in
    (omega (arith, ints), omega (arith, ints))

pub invariant_of-result : goal.invariant_of-result
invariant_of-result c =
    let r = c.recent.inside in
    let d = c.distant.inside in
    let n1 = r.hours.number in
    let n2 = d.hours.number in
    let v = crossed r.sum n1 n2 c.recent.invariant d.hours.few in
    let w = crossed d.sum n2 n1 c.distant.invariant r.hours.few in
    let t : c.times.result ≡ r.sum *ℤ pos n2 = c.times.ensures ∙ ap (λ (z : ℤ). z *ℤ pos n2) (omega (arith, ints)) in
    let u : c.times-2.result ≡ d.sum *ℤ pos n1 = c.times-2.ensures ∙ ap (λ (z : ℤ). z *ℤ pos n1) (omega (arith, ints)) in
    let above = divisor_above r.sum d.sum n1 n2 c.recent.invariant c.distant.invariant in
    let m = mean_within r.sum d.sum n1 n2 c.recent.invariant c.distant.invariant in
    record { some = omega arith; few = omega arith; small = (omega (arith, ints), omega (arith, ints)) }
