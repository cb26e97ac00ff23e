use Rattle.std.proofs.Common.{◌≡◌, List, ◌++◌, take, drop, ℤ, Ok}
use Rattle.hours.specs.Questions.{year_of}
use Rattle.hours.proofs.source.HourSource.fill.Given as goal

-- the hours so far stand in front of what was in the buffer
abbrev pub invariant-loop-hour : goal.invariant-loop-hour
invariant-loop-hour g l =
    (zs : List ℤ) → year_of g.Self.HourSource.LOCATIONS (g.Self.HourSource.prices l.self) l.series.location l.series.slot l.series.year ≡ Ok zs →
    l.buffer ≡ take l.hour zs ++ drop l.hour l.initial.buffer
