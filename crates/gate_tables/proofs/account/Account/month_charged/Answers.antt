use Rattle.std.proofs.Common.{◌<◌, length, ◌+ℤ◌, arith, w64, SFits, rules}
use Rattle.std.proofs.lemmas.Int.{ints, to_z-of_z}
use Rattle.gate_tables.specs.Accounts.{costs_of}
use Rattle.gate_tables.proofs.MonthCosts.{cleared_month}
use Rattle.gate_tables.proofs.account.Account.month_charged.Goals as goal

pub returns : goal.returns
returns c =
    let a = c.args.self in
    let l : c.args.month < length a.costs = search rules in
    let e = cleared_month a.costs c.args.month l in
    let f1 : SFits w64 a.invoiced = search rules in
    let f2 : SFits w64 a.calculated = search rules in
    let f3 : SFits w64 a.standing = search rules in
    let f4 : SFits w64 (costs_of a.costs c.args.month) = search rules in
    let s = c.requires.small in
    let f5 : SFits w64 (a.calculated +ℤ costs_of a.costs c.args.month) = omega (arith, ints) in
    simp (c.take-cost.ensures.after, c.take-cost.ensures.value, c.from.ensures, to_z-of_z) (cc)
