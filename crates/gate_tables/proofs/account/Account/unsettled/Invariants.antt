use Rattle.std.proofs.Common.{◌≡◌, ◌*◌, ◌^◌, fold, take, pos, ◌+ℤ◌, neg_ℤ, ◌≤ℤ◌}
use Rattle.gate_tables.proofs.account.Account.unsettled.Given as goal

abbrev pub invariant-loop-cost : goal.invariant-loop-cost
invariant-loop-cost l =
    (l.sum ≡ fold ◌+ℤ◌ (pos 0) (take l.cost-index l.cost-items))
    × (neg_ℤ (pos (2 ^ 63 * l.cost-index)) ≤ℤ l.sum)
    × (l.sum ≤ℤ pos (2 ^ 63 * l.cost-index))
