-- The hours of a slot, year by year.
use Rattle.std.specs.Prelude.{ℕ, cond, Some, None, Option, ◌==◌}
use Rattle.hours.specs.declared.counts.Counts.{Counts}

-- the count of a year, if there is such a year
abbrev pub counted_in : {N : Type 0} → Counts N → ℕ → Option N
counted_in c y = cond (y == 0) (Some c.recent) (cond (y == 1) (Some c.distant) (cond (y == 2) (Some c.ahead) None))

-- the hours of a year: none where there is no such year
abbrev pub hours_of : Counts ℕ → ℕ → ℕ
hours_of c y = cond (y == 0) c.recent (cond (y == 1) c.distant (cond (y == 2) c.ahead 0))
