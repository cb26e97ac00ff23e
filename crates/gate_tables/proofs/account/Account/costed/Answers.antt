use Rattle.std.proofs.Common.{◌≡◌, ◌+◌, ◌-◌, ◌≤◌, length, arith, rules, w64, SFits}
use Rattle.std.proofs.lemmas.Int.{ints, to_z-of_z}
use Rattle.gate_tables.proofs.MonthCosts.{part_at, raised_is_spread}
use Rattle.gate_tables.proofs.account.Account.costed.Goals as goal

pub raise-requires : goal.raise-requires
raise-requires c k d l =
    let a = c.ranges.amount in
    let e = part_at c.args.self.costs c.from-first.result (c.from-first.result + c.from.result - c.from-first.result) k d l in
    let s = c.requires.small (c.from-first.result + k) (omega arith) in
    simp to_z-of_z (omega (arith, ints), omega (arith, ints))

pub returns : goal.returns
returns c =
    let a = c.args.self in
    let f1 : SFits w64 a.invoiced = search rules in
    let f2 : SFits w64 a.calculated = search rules in
    let f3 : SFits w64 a.standing = search rules in
    let f4 = c.ranges.amount in
    let l : c.args.period.first + c.args.period.months ≤ length a.costs = search rules in
    let r = simp to_z-of_z at c.raise.ensures in
    let n : c.args.period.first + c.from.result - c.args.period.first ≡ c.args.period.months = omega arith in
    let e = raised_is_spread a.costs c.args.period c.args.amount l in
    simp (r, c.from-first.ensures, n, to_z-of_z) (cc)
