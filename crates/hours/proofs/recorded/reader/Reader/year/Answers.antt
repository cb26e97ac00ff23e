use Rattle.std.proofs.Common.{◌<◌, length, sym, ap, ◌∙◌, arith}
use Rattle.std.specs.Option.{option_map}
use Rattle.hours.specs.RecordedFormat.{Taken}
use Rattle.hours.proofs.RecordedReading.{year_cut, year_told}
use Rattle.hours.proofs.recorded.reader.Reader.year.Goals as goal

pub returns-in_err-prices-clause-answer : goal.returns-in_err-prices-clause-answer
returns-in_err-prices-clause-answer c =
    let d = c.in_ok-numbers.ensures.cases in
    let short : length c.in_ok-numbers.rest.now < c.in_ok-head.head.hours = omega (arith, c.in_err-prices.ensures.lookup.0) in
    c.from_residual-in_err-prices.ensures
    ∙ sym (ap (option_map (λ (y : Taken). y.head)) (year_cut c.args.self.now.tables.now c.args.self.now.rest.now c.in_ok-head.head c.in_ok-numbers.numbers.now c.in_ok-numbers.rest.now d.0 d.1 d.2 c.in_ok-head.ensures c.if-not-fits.ensures short))

pub returns-clause-answer : goal.returns-clause-answer
returns-clause-answer c =
    let d = c.in_ok-numbers.ensures.cases in
    let a = rw c.from.ensures at c.in_ok-prices.ensures.lookup.0 in
    c.then_some.ensures
    ∙ sym (year_told c.args.self.now.tables.now c.args.self.now.rest.now c.in_ok-head.head c.in_ok-numbers.numbers.now c.in_ok-numbers.rest.now d.0 d.1 d.2 c.in_ok-head.ensures c.if-not-fits.ensures
    c.in_ok-prices.prices.now c.are_lawful_prices.result a.1 a.2 c.are_lawful_prices.ensures)
