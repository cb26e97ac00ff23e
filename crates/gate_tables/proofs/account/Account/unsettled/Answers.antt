use Rattle.std.proofs.Common.{◌≡◌, length, arith, rules}
use Rattle.std.proofs.lemmas.Int.{ints, to_z-of_z}
use Rattle.std.proofs.lemmas.List.Sums.{fold_more}
use Rattle.std.proofs.lemmas.Grind.{common_steps}
use Rattle.gate_tables.proofs.MonthCosts.{unsettled_is}
use Rattle.gate_tables.proofs.account.Account.unsettled.Goals as goal

pub loop-cost-preserved : goal.loop-cost-preserved
loop-cost-preserved c = (grind (arith, ints, to_z-of_z, fold_more), omega (arith, ints), omega (arith, ints))

pub returns-clause-value : goal.returns-clause-value
returns-clause-value c =
    let l : length c.args.self.now.costs ≡ 13 = search rules in
    let u = unsettled_is c.args.self.now.costs c.args.month l in
    grind (arith, common_steps)
