-- The grounds of refusal by their numbers.
use Rattle.std.specs.Prelude.{ℕ}
use Rattle.gate_model.specs.declared.refusal.Ground.{Ground}
use Rattle.gate_model.specs.declared.refusal.Ground.TheVariants.{UnknownCustomer, AmountOutOfBounds, WrongPhase, UnlawfulPeriod, LineCount, UnlawfulLine, NotTheirRight, NotFree, NoRoom, NoPrice, CostTooLarge, AboveSecurity, UnlawfulAward}

abbrev pub ground_number : Ground → ℕ
ground_number UnknownCustomer = 1
ground_number AmountOutOfBounds = 2
ground_number WrongPhase = 3
ground_number UnlawfulPeriod = 4
ground_number LineCount = 5
ground_number UnlawfulLine = 6
ground_number NotTheirRight = 7
ground_number NotFree = 8
ground_number NoRoom = 9
ground_number NoPrice = 10
ground_number CostTooLarge = 11
ground_number AboveSecurity = 12
ground_number UnlawfulAward = 13
