use Rattle.std.proofs.Common.{◌≡◌, ◌*◌, ◌++◌, take, drop, pos, neg_ℤ, ◌≤ℤ◌}
use Rattle.books.specs.Differences.{differences, total, losses}
use Rattle.books.proofs.difference.subtract.Given as goal

-- the sum so far, and the losses so far in front of what stood there
abbrev pub invariant-loop-i : goal.invariant-loop-i
invariant-loop-i l =
    (l.sources ≡ losses (differences (take l.i l.sinks) (take l.i l.initial.sources)) ++ drop l.i l.initial.sources)
    × (l.sum ≡ total (differences (take l.i l.sinks) (take l.i l.initial.sources)))
    × (neg_ℤ (pos (400000 * l.i)) ≤ℤ l.sum)
    × (l.sum ≤ℤ pos (400000 * l.i))
