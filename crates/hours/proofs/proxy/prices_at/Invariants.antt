use Rattle.std.proofs.Common.{◌≡◌, ◌*◌, ◌≤◌}
use Rattle.hours.specs.Bounds.{Within}
use Rattle.hours.specs.Questions.{priced}
use Rattle.hours.specs.StandIns.{sum_of, number_of}
use Rattle.hours.proofs.proxy.prices_at.Given as goal

-- the locations so far
abbrev pub invariant-loop-location : goal.invariant-loop-location
invariant-loop-location g l =
    (l.sum ≡ sum_of (λ k. priced g.S.HourSource.LOCATIONS (g.S.HourSource.prices l.below) k l.slot l.year l.hour) l.location)
    × (l.number ≡ number_of (λ k. priced g.S.HourSource.LOCATIONS (g.S.HourSource.prices l.below) k l.slot l.year l.hour) l.location)
    × Within (200000 * l.number) l.sum
    × (l.number ≤ l.location)
