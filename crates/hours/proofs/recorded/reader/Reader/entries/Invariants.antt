use Rattle.std.proofs.Common.{◌≡◌, ◌-◌, ◌≤◌}
use Rattle.hours.specs.RecordedFormat.{read_entries}
use Rattle.hours.specs.RecordedTables.{in_tables}
use Rattle.hours.proofs.recorded.reader.Reader.entries.Given as goal

abbrev pub invariant-loop-line : goal.invariant-loop-line
invariant-loop-line l =
    (goal.iterator-loop-line).can_next l.line-iterator
    × (goal.iterator-loop-line).is_finite l.line-iterator
    × (l.line-iterator.start ≤ l.line-iterator.end)
    × (l.line-iterator.end ≡ l.fn.lines.end)
    × (read_entries in_tables (l.line-iterator.end - l.line-iterator.start) l.self.tables.now l.line-iterator.start l.self.rest.now
    ≡ read_entries in_tables (l.fn.lines.end - l.fn.lines.start) l.initial.self.tables.now l.fn.lines.start l.initial.self.rest.now)
    × (l.self.tables.ghost_name ≡ l.initial.self.tables.ghost_name)
