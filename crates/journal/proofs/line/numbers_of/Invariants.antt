use Rattle.std.proofs.Common.{◌≡◌, drop, vec_items}
use Rattle.journal.proofs.Lists.{on_to}
use Rattle.journal.specs.Lines.{numbers_of}
use Rattle.journal.proofs.line.numbers_of.Given as goal

abbrev pub invariant-loop-word : goal.invariant-loop-word
invariant-loop-word l = on_to (vec_items l.numbers) (numbers_of (drop l.word-index l.words)) ≡ numbers_of l.words
