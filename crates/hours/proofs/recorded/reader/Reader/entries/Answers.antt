use Rattle.std.proofs.Common.{sym, ◌∙◌, arith}
use Rattle.hours.proofs.RecordedReading.{entry_refused, entry_read}
use Rattle.hours.proofs.recorded.reader.Reader.entries.Goals as goal

pub returns-in_default-clause-read : goal.returns-in_default-clause-read
returns-in_default-clause-read c =
    let k = c.in-Some.ensures.steps in
    entry_refused c.loop-line.line-iterator.start c.loop-line.line-iterator.end c.in-Some.line c.loop-line.self.tables.now c.loop-line.self.rest.now _
    k.1.0 k.1.1 (sym c.in_default.ensures.answer) c.loop-line.invariant.4

pub loop-line-preserved : goal.loop-line-preserved
loop-line-preserved c =
    let k = c.in-Some.ensures.steps in (
      tt,
      tt,
      omega arith,
      k.0 ∙ c.loop-line.invariant.3,
      entry_read c.loop-line.line-iterator.start c.loop-line.line-iterator.end c.loop-line.self.tables.now c.loop-line.self.rest.now c.in-Some-entry.entry c.next.new.self.start c.next.new.self.end c.list.new.self _
          k.1.0 k.0 k.1.2 (sym c.in-Some-entry.ensures.answer) c.list.ensures c.loop-line.invariant.4,
      c.loop-line.invariant.5,
    )
