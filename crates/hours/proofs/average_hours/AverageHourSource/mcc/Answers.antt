use Rattle.std.proofs.Common.{◌≡◌, ℕ, List, Ok, vec_items, sym, ap, ◌∙◌, arith}
use Rattle.std.proofs.lemmas.Int.{ints}
use Rattle.hours.specs.declared.rows.CountRow.{CountRow}
use Rattle.hours.specs.declared.rows.MeanRow.{MeanRow}
use Rattle.hours.specs.Means.{mean_of, rows_count}
use Rattle.hours.specs.LawfulRows.{mean_facts, mean_below}
use Rattle.hours.proofs.average_hours.AverageHourSource.mcc.Goals as goal

pub overflow_cast-result : goal.overflow_cast-result
overflow_cast-result c =
    let self = c.args.self.now in
    let m = ap (λ (rows : List MeanRow). mean_of rows c.args.series.location c.args.series.slot c.args.series.year) (sym c.as_slice.ensures.value) ∙ sym c.in-Some.ensures in
    let f = (mean_facts (vec_items self.counts) (vec_items self.means) self.lawful c.args.series.location c.args.series.slot c.args.series.year c.in-Some.row m).0 in
    let low = f.0 in
    let high = f.1 in
    omega (arith, ints)

pub returns : goal.returns
returns c =
    let self = c.args.self.now in
    let ask = c.in_ok-check.ensures.known in
    let m = ap (λ (rows : List MeanRow). mean_of rows c.args.series.location c.args.series.slot c.args.series.year) (sym c.as_slice.ensures.value) ∙ sym c.in-Some.ensures in
    let f = (mean_facts (vec_items self.counts) (vec_items self.means) self.lawful c.args.series.location c.args.series.slot c.args.series.year c.in-Some.row m).0 in
    let low = f.0 in
    let high = f.1 in
    let n : c.count_in.result ≡ rows_count (vec_items self.counts) c.args.series.slot c.args.series.year =
    c.count_in.ensures ∙ ap (λ (rows : List (CountRow ℕ)). rows_count rows c.args.series.slot c.args.series.year) c.as_slice-2.ensures.value in
    ap Ok (omega (arith, ints))
    ∙ sym (mean_below (vec_items self.counts) (vec_items self.means) c.args.series.location c.args.series.slot c.args.series.year c.args.hour c.in-Some.row
    (sym ask.0) (sym ask.1) ask.2 m (omega arith))
