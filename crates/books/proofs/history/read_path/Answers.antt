use Rattle.std.proofs.Common.{Err, sym, ap, ◌∙◌}
use Rattle.std.proofs.lemmas.Result.{err_from_is_err_and}
use Rattle.hours.specs.Questions.{year_of}
use Rattle.books.specs.Differences.{summed_years}
use Rattle.books.specs.PathYears.{done_ok, gained_err, gained_ok, fourth_missing}
use Rattle.books.proofs.history.read_path.Goals as goal

pub returns-in_err-second-clause-answer : goal.returns-in_err-second-clause-answer
returns-in_err-second-clause-answer g c =
    let year = year_of g.S.HourSource.LOCATIONS (g.S.HourSource.prices c.args.source.now) in
    let p = c.args.key.path in
    let s = c.args.key.slot in
    let x = c.in_err-second.field-0.0 in
    let q = err_from_is_err_and c.from_residual-in_err-second.result c.from_residual-in_err-second.ensures.1 in
    let a = done_ok (year p.source s 0) _ c.in_ok-read.ensures.answer in
    let b = done_ok (year p.source s 1) _ c.in_ok-read-2.ensures.answer in
    let d = gained_ok (year p.sink s 0) _ _ c.in_ok-first.ensures.answer in
    let e = fourth_missing year p s a.0 b.0 d.0 x a.1 b.1 d.1 (gained_err (year p.sink s 1) _ x c.in_err-second.ensures.answer) in
    q.1 ∙ ap Err q.2 ∙ sym (ap summed_years e)
