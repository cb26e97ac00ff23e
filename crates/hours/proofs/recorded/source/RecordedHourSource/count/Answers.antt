use Rattle.std.proofs.Common.{ℕ, Option, ap, ◌∙◌}
use Rattle.hours.specs.declared.counts.Counts.{Counts}
use Rattle.hours.specs.RecordedEntries.{hours_by}
use Rattle.hours.specs.RecordedFormat.{recorded_hours, recorded_prices}
use Rattle.hours.specs.RecordedAnswers.{count_answered}
use Rattle.hours.specs.RecordedTables.{tables_of}
use Rattle.hours.proofs.recorded.source.RecordedHourSource.count.Goals as goal

pub returns : goal.returns
unfolding recorded_hours recorded_prices
returns c =
    let ask = c.in_ok-check.ensures.lawful in
    count_answered c.args.self.now c.self.inside.tables c.args.slot c.args.year c.hours_by.result (c.self.invariant ∙ ap tables_of c.self.view_is)
    ask.0 ask.1 (c.hours_by.ensures ∙ ap (λ (o : Option (Counts ℕ)). hours_by o c.args.year) c.counts_of.ensures)
