use Rattle.std.proofs.Common.{◌+◌, ◌<◌, ◌≤◌, length, pos, Ok, Err, List, ℤ, ap, ◌∙◌, arith, w32, SFits, rules}
use Rattle.std.proofs.lemmas.List.{get_or_read}
use Rattle.std.proofs.lemmas.Int.{to_z-of_z}
use Rattle.hours.specs.Questions.{year_of}
use Rattle.hours.specs.RecordedFormat.{records_of, prices_in}
use Rattle.hours.specs.RecordedFormat.{recorded_hours, recorded_prices}
use Rattle.hours.specs.RecordedAnswers.{hour_answered, past_answered}
use Rattle.hours.proofs.recorded.source.RecordedHourSource.mcc.Goals as goal

pub returns-then-span-hour : goal.returns-then-span-hour
unfolding recorded_hours recorded_prices
returns-then-span-hour c =
    let xs : List ℤ = c.args.self.now in
    let year = year_of 64 (prices_in (records_of xs)) c.args.series.location c.args.series.slot c.args.series.year in
    let e = c.in_ok-span.ensures in
    let span = c.in_ok-span.span in
    let within : span.start + span.hours ≤ length xs = e.within.0 in
    ap Err c.past_count.ensures
    ∙ past_answered xs span.start span.hours c.args.hour c.args.series.location c.args.series.year year within e.prices (omega arith)

pub returns : goal.returns
unfolding recorded_hours recorded_prices
returns c =
    let xs : List ℤ = c.args.self.now in
    let year = year_of 64 (prices_in (records_of xs)) c.args.series.location c.args.series.slot c.args.series.year in
    let e = c.in_ok-span.ensures in
    let span = c.in_ok-span.span in
    let hour = c.args.hour in
    let within : span.start + span.hours ≤ length xs = e.within.0 in
    let below : hour < span.hours = omega arith in
    let inside : span.start + hour < length xs = omega arith in
    let f : SFits w32 c.index.result.now = search rules in
    ap Ok (to_z-of_z w32 c.index.result.now f ∙ get_or_read xs (span.start + hour) c.index.result.now inside (rw c.from.ensures at (rw c.self.view_is at c.index.ensures)) (pos 0))
    ∙ hour_answered xs span.start span.hours hour c.args.series.location c.args.series.year year within e.prices below
