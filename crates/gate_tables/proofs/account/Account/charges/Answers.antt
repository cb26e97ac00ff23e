use Rattle.std.proofs.Common.{◌+ℤ◌, arith, w64, SFits, rules}
use Rattle.std.proofs.lemmas.Int.{ints, int_max_is}
use Rattle.gate_model.proofs.Money.{max0_max}
use Rattle.gate_tables.proofs.account.Account.charges.Goals as goal

pub returns-clause-value : goal.returns-clause-value
returns-clause-value c =
    let f1 : SFits w64 c.args.self.now.invoiced = search rules in
    let f2 : SFits w64 c.args.self.now.calculated = search rules in
    let m = max0_max (c.args.self.now.invoiced +ℤ c.args.self.now.calculated) in
    omega (arith, ints, int_max_is)

pub returns-clause-small : goal.returns-clause-small
returns-clause-small c =
    let f1 : SFits w64 c.args.self.now.invoiced = search rules in
    let f2 : SFits w64 c.args.self.now.calculated = search rules in
    omega (arith, ints, int_max_is)
