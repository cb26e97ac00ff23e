use Rattle.std.proofs.Common.{sym, ◌∙◌, arith}
use Rattle.hours.proofs.RecordedReading.{year_refused, year_read}
use Rattle.hours.proofs.recorded.reader.Reader.years.Goals as goal

pub returns-in_default-clause-read : goal.returns-in_default-clause-read
returns-in_default-clause-read c =
    let k = c.in-Some.ensures.steps in
    year_refused c.loop-line.line-iterator.start c.loop-line.line-iterator.end c.in-Some.line c.loop-line.self.tables.now c.loop-line.self.rest.now _
    k.1.0 k.1.1 (sym c.in_default.ensures.answer) c.loop-line.invariant.4

pub loop-line-preserved : goal.loop-line-preserved
loop-line-preserved c =
    let k = c.in-Some.ensures.steps in (
      tt,
      tt,
      omega arith,
      k.0 ∙ c.loop-line.invariant.3,
      rw c.from.ensures (year_read c.loop-line.line-iterator.start c.loop-line.line-iterator.end c.loop-line.self.tables.now c.loop-line.self.rest.now c.in-Some-year.head c.next.new.self.start c.next.new.self.end c.put.new.self _
          k.1.0 k.0 k.1.2 (sym c.in-Some-year.ensures.answer) c.put.ensures c.loop-line.invariant.4),
      c.loop-line.invariant.5,
    )
