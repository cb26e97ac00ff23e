use Rattle.std.proofs.Common.{◌≡◌, ℕ, ◌+◌, ◌-◌, ◌*◌, leb, ◌++◌, length, ℤ, sym, ap, ◌∙◌, arith, w32}
use Rattle.std.proofs.lemmas.List.{length-append}
use Rattle.std.proofs.lemmas.Int.{to_z-of_z}
use Rattle.books.specs.Percentiles.{at_most}
use Rattle.books.proofs.Counts.{at_most_append}
use Rattle.books.proofs.percentile.Sample.reaches.Goals as goal

pub returns : goal.returns
returns c =
    let xs = c.args.self.now.first.now in
    let ys = c.args.self.now.second.now in
    let v = c.args.v in
    let n = length xs + length ys in
    let above = c.above.result + c.above-2.result in
    let same = to_z-of_z w32 v c.ranges.v in
    let a = ap (λ (z : ℤ). at_most z xs) same in
    let b = ap (λ (z : ℤ). at_most z ys) same in
    let both = at_most_append v xs ys in
    let rest : n - above ≡ at_most v (xs ++ ys) = omega arith in
    ap (λ (p : ℕ). leb (p * n) (100 * (n - above))) c.from.ensures
    ∙ ap (λ (m : ℕ). leb (c.args.self.now.percent * m) (100 * (n - above))) (sym (length-append xs ys)) ∙ ap (λ (m : ℕ). leb (c.args.self.now.percent * length (xs ++ ys)) (100 * m)) rest
