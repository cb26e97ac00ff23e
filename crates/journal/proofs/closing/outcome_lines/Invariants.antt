use Rattle.std.proofs.Common.{◌≡◌, ◌++◌, drop, string_bytes}
use Rattle.journal.specs.Report.{lines_of}
use Rattle.journal.proofs.closing.outcome_lines.Given as goal

abbrev pub invariant-loop-outcome : goal.invariant-loop-outcome
invariant-loop-outcome l = string_bytes l.text ++ lines_of (drop l.outcome-index l.outcomes) ≡ lines_of l.outcomes
