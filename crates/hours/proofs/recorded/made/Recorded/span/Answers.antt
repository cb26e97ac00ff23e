use Rattle.std.proofs.Common.{ℕ, Err, Option, sym, ap, ◌∙◌}
use Rattle.hours.specs.declared.counts.Counts.{Counts}
use Rattle.hours.specs.RecordedEntries.{hours_by}
use Rattle.hours.specs.RecordedAnswers.{lacking_answered, span_answered}
use Rattle.hours.specs.RecordedTables.{tables_of}
use Rattle.hours.proofs.recorded.made.Recorded.span.Goals as goal

pub returns-in_default-clause-prices : goal.returns-in_default-clause-prices
returns-in_default-clause-prices c =
    let ask = c.in_ok-check.ensures.known in
    ap Err c.lacking_year.ensures
    ∙ lacking_answered c.args.self.now c.self.inside.tables c.args.series.location c.args.series.slot c.args.series.year (c.self.invariant ∙ ap tables_of c.self.view_is)
    ask.0 ask.1 ask.2 (sym c.in_default.ensures)

pub returns : goal.returns
returns c =
    let ask = c.in_ok-check.ensures.known in
    let e = span_answered c.args.self.now c.self.inside.tables c.args.series.location c.args.series.slot c.args.series.year c.in-Some.start c.hours_by-hours.result (c.self.invariant ∙ ap tables_of c.self.view_is)
    ask.0 ask.1 ask.2
    (sym c.in-Some.ensures) (c.hours_by-hours.ensures ∙ ap (λ (o : Option (Counts ℕ)). hours_by o c.args.series.year) c.counts_of.ensures) in
    record { within = (e.0, e.1); prices = e.2 }
