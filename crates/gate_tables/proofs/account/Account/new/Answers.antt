use Rattle.std.proofs.Common.{arith}
use Rattle.gate_tables.proofs.MonthCosts.{no_costs}
use Rattle.gate_tables.proofs.account.Account.new.Goals as goal

pub returns : goal.returns
returns c =
    let d = c.default.ensures in
    let e = no_costs c.default.result.costs (λ i z l. d.1.0.at i z (omega arith)) in
    cc
