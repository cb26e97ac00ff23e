use Rattle.std.proofs.Common.{◌≡◌, ℕ, ◌+◌, ◌-◌, ◌≤◌, List, length, take, drop, ℤ, ap, ◌∙◌, arith}
use Rattle.hours.specs.Questions.{year_of}
use Rattle.hours.specs.RecordedFormat.{records_of, prices_in}
use Rattle.hours.specs.RecordedFormat.{recorded_hours, recorded_prices}
use Rattle.hours.specs.RecordedAnswers.{fill_answered}
use Rattle.hours.proofs.recorded.source.RecordedHourSource.fill.Goals as goal

pub returns : goal.returns
unfolding recorded_hours recorded_prices
returns c =
    let xs : List ℤ = c.args.self.now in
    let year = year_of 64 (prices_in (records_of xs)) c.args.series.location c.args.series.slot c.args.series.year in
    let e = c.in_ok-span.ensures in
    let span = c.in_ok-span.span in
    let within : span.start + span.hours ≤ length xs = e.within.0 in
    let many : span.start + span.hours - span.start ≡ span.hours = omega arith in
    let these : take (span.start + span.hours - span.start) (drop span.start c.as_slice.result.now) ≡ take span.hours (drop span.start xs) =
    ap (λ (n : ℕ). take n (drop span.start c.as_slice.result.now)) many ∙ ap (λ (ys : List ℤ). take span.hours (drop span.start ys)) (c.as_slice.ensures.value ∙ c.self.view_is) in
    let a = fill_answered xs _ span.start span.hours c.args.buffer.now c.copy_prices.new.buffer year within e.prices these (rw c.from.ensures at c.copy_prices.ensures) in
    record { answer = a.0; after = a.1 }
