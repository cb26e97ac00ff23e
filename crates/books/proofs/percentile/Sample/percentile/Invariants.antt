use Rattle.std.proofs.Common.{◌++◌, ℤ, pos, ◌-ℤ◌, neg_ℤ, nat_abs, ◌≤ℤ◌, ◌<ℤ◌}
use Rattle.books.specs.Percentiles.{Reaches}
use Rattle.books.proofs.percentile.Sample.percentile.Given as goal

-- the percentile lies between the two, which are numbers of 32 bits
abbrev pub invariant-loop-low : goal.invariant-loop-low
invariant-loop-low l =
    (neg_ℤ (pos 2147483648) ≤ℤ l.low)
    × (l.low ≤ℤ l.high)
    × (l.high ≤ℤ pos 2147483647)
    × Reaches l.self.percent (l.self.first.now ++ l.self.second.now) l.high
    × ((w : ℤ) → w <ℤ l.low → Reaches l.self.percent (l.self.first.now ++ l.self.second.now) w → ⊥)

abbrev pub decreases-loop-low : goal.decreases-loop-low
decreases-loop-low l = nat_abs (l.high -ℤ l.low)
