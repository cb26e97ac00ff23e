use Rattle.std.proofs.Common.{◌≡◌, ℕ, List, vec_items, ap, ◌∙◌, arith}
use Rattle.hours.specs.declared.rows.CountRow.{CountRow}
use Rattle.hours.specs.Means.{rows_count}
use Rattle.hours.specs.LawfulRows.{few_hours_lem}
use Rattle.hours.proofs.average_hours.AverageHourSource.count.Goals as goal

pub overflow_cast-result : goal.overflow_cast-result
overflow_cast-result c =
    let self = c.args.self.now in
    let n : c.count_in.result ≡ rows_count (vec_items self.counts) c.args.slot c.args.year =
    c.count_in.ensures ∙ ap (λ (rows : List (CountRow ℕ)). rows_count rows c.args.slot c.args.year) c.as_slice.ensures.value in
    let few = few_hours_lem (vec_items self.counts) (vec_items self.means) self.lawful c.args.slot c.args.year in
    omega arith
