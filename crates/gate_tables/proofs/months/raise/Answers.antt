use Rattle.std.proofs.Common.{◌≡◌, ◌++◌, ◌<◌, ◌+ℤ◌, ◌+◌, set, ℕ, ℤ, List, length, get_or, map, take, drop, pos, rules, arith, w64, SFits}
use Rattle.std.proofs.lemmas.Int.{ints, to_z-of_z}
use Rattle.std.proofs.lemmas.Grind.{common_steps}
use Rattle.std.proofs.lemmas.List.{get_or_default}
use Rattle.std.proofs.lemmas.List.Edits.{map_over_more}
use Rattle.gate_tables.proofs.months.raise.Goals as goal

-- an element that the loop has not come to is as it was
here : (f : ℤ → ℤ) (xs ys : List ℤ) (i : ℕ) → i < length xs → ys ≡ map f (take i xs) ++ drop i xs → get_or ys i (pos 0) ≡ get_or xs i (pos 0)
here f xs ys i l e = grind (arith, common_steps)

further : (f : ℤ → ℤ) (xs ys : List ℤ) (i : ℕ) → i < length xs → i < length ys → ys ≡ map f (take i xs) ++ drop i xs → set ys i (f (get_or ys i (pos 0))) ≡ map f (take (i + 1) xs) ++ drop (i + 1) xs
further f xs ys i l k e = map_over_more f xs ys i (get_or ys i (pos 0)) l e (get_or_default ys i (pos 0) _ k)

pub loop-cost-preserved : goal.loop-cost-preserved
loop-cost-preserved c =
    let a = c.ranges.amount in
    let f : SFits w64 (get_or c.loop-cost.cost-items c.loop-cost.cost-index (pos 0)) = search rules in
    let i = simp to_z-of_z at c.loop-cost.invariant in
    let e = here (λ cost. cost +ℤ c.args.amount) c.args.costs.now _ _ c.loop-cost-test.true i in
    let b = c.requires c.loop-cost.cost-index (pos 0) c.loop-cost-test.true in
    let s : SFits w64 (get_or c.loop-cost.cost-items c.loop-cost.cost-index (pos 0) +ℤ c.args.amount) = omega (arith, ints) in
    simp to_z-of_z (further (λ cost. cost +ℤ c.args.amount) c.args.costs.now _ _ c.loop-cost-test.true (omega arith) i)
