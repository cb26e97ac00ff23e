use Rattle.std.proofs.Common.{◌≡◌, ◌+◌, ◌++◌, map, length, drop, vec_items}
use Rattle.std.specs.List.{slice_split}
use Rattle.text.specs.Pieces.{ends_line}
use Rattle.journal.specs.Entries.{entries_from, entries_of, entry_of}
use Rattle.journal.proofs.entry.read.Given as goal

-- the entries so far, and those of the lines that are left, are those of the text
abbrev pub invariant-loop-place : goal.invariant-loop-place
invariant-loop-place l =
    map entry_of (vec_items l.entries) ++ entries_from (length l.yielded + 1) (drop (length l.yielded) (slice_split ends_line l.text)) ≡ entries_of l.text
