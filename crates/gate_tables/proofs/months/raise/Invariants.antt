use Rattle.std.proofs.Common.{◌≡◌, ◌++◌, map, take, drop, ◌+ℤ◌}
use Rattle.gate_tables.proofs.months.raise.Given as goal

abbrev pub invariant-loop-cost : goal.invariant-loop-cost
invariant-loop-cost l = l.cost-items ≡ map (λ cost. cost +ℤ l.fn.amount) (take l.cost-index l.fn.costs) ++ drop l.cost-index l.fn.costs
