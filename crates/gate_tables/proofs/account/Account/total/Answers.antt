use Rattle.std.proofs.Common.{◌+ℤ◌, ◌-ℤ◌, arith, rules, w64, SFits}
use Rattle.std.proofs.lemmas.Int.{ints, int_max_is}
use Rattle.gate_model.specs.Requirement.{unsettled}
use Rattle.gate_tables.specs.Accounts.{account_of}
use Rattle.gate_model.proofs.Money.{max0_max}
use Rattle.gate_tables.proofs.account.Account.total.Goals as goal

pub overflow_add-result : goal.overflow_add-result
overflow_add-result c =
    let f : SFits w64 c.args.self.now.standing = search rules in
    omega (arith, ints, int_max_is)

pub returns-clause-value : goal.returns-clause-value
returns-clause-value c =
    let f : SFits w64 c.args.self.now.standing = search rules in
    let m = max0_max ((unsettled c.args.month (account_of c.args.self.now) -ℤ c.args.values) +ℤ c.args.self.now.standing) in
    omega (arith, ints, int_max_is)

pub returns-clause-rule : goal.returns-clause-rule
returns-clause-rule c s k e = let v = returns-clause-value c in cc
