-- A price held between two limits.
use Rattle.std.specs.Prelude.{Bool, cond, ◌&&◌, ℤ, Ok, Result, int_le, int_lt}
use Rattle.hours.specs.Bounds.{within}
use Rattle.hours.specs.declared.fault.Fault.{Fault}
use Rattle.books.specs.Results.{bind}

-- limits that a price may have, the low one not above the high one
abbrev pub lawful_limits : ℤ → ℤ → Bool
lawful_limits low high = within 8000000000 low && (within 8000000000 high && int_le low high)

-- a price below the low limit is raised to it, one above the high limit is lowered to that
abbrev pub held : ℤ → ℤ → ℤ → ℤ
held low high z = cond (int_lt z low) low (cond (int_lt high z) high z)

-- the price below, held; a fault from below as it is
abbrev pub banded : ℤ → ℤ → Result ℤ Fault → Result ℤ Fault
banded low high r = bind r (λ z. Ok (held low high z))
