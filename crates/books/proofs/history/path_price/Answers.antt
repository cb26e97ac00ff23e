use Rattle.std.proofs.Common.{◌∙◌, arith, w64, to_z, of_z}
use Rattle.std.proofs.lemmas.Int.{ints}
use Rattle.hours.specs.Questions.{year_of}
use Rattle.books.specs.Histories.{path_years}
use Rattle.books.specs.PathYears.{years_read, years_price}
use Rattle.books.proofs.history.path_price.Goals as goal

pub returns : goal.returns
returns g c =
    let r = path_years (year_of g.S.HourSource.LOCATIONS (g.S.HourSource.prices c.args.source.now)) c.args.key.path c.args.key.slot in
    let first = c.in_ok-first.first in
    let second = c.in_ok-first.second in
    let recent = c.read_path.new.recent in
    let distant = c.read_path.new.distant in
    let read = years_read r first second recent distant c.in_ok-first.ensures.answer c.in_ok-first.ensures.after in
    let mean = c.of.result in
    years_price c.args.ahead.number r first second recent distant mean.above mean.below (to_z w64 (of_z w64 c.price_from.result)) read c.of.ensures.above c.of.ensures.below (omega (arith, ints) ∙ c.price_from.ensures)
