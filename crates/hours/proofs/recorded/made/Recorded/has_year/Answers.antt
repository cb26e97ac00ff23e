use Rattle.std.proofs.Common.{ℕ, List, ℤ, is_some, Option, sym, ap, ◌∙◌}
use Rattle.hours.specs.RecordedLawful.{series_lawful, series_unlawful}
use Rattle.hours.specs.RecordedAnswers.{series_of, year_told, year_unlawful}
use Rattle.hours.specs.RecordedTables.{tables_of}
use Rattle.hours.proofs.recorded.made.Recorded.has_year.Goals as goal

pub returns-then-is_lawful : goal.returns-then-is_lawful
returns-then-is_lawful c =
    c.is_some.ensures ∙ ap (λ (o : Option ℕ). is_some o) c.start_of.ensures
    ∙ year_told c.args.self.now c.self.inside.tables c.args.series.location c.args.series.slot c.args.series.year (c.self.invariant ∙ ap tables_of c.self.view_is) (series_lawful (series_of c.args.series.location c.args.series.slot c.args.series.year) (sym c.if-is_lawful.ensures))

pub returns-else-is_lawful : goal.returns-else-is_lawful
returns-else-is_lawful c =
    c.if-is_lawful.false
    ∙ sym (ap (λ (o : Option (List ℤ)). is_some o) (year_unlawful c.args.self.now c.args.series.location c.args.series.slot c.args.series.year (series_unlawful (series_of c.args.series.location c.args.series.slot c.args.series.year) (sym c.if-is_lawful.ensures))))
