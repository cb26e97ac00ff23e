use Rattle.std.proofs.Common.{◌≡◌, ◌+◌, length, drop, vec_items}
use Rattle.std.specs.List.{slice_split}
use Rattle.text.specs.Pieces.{is_blank}
use Rattle.text.specs.Words.{line_words, words_from, numbers_of, on_to}
use Rattle.text.proofs.Parts.{spans}
use Rattle.text.proofs.words.push_line.Given as goal

-- the words that are left, behind the numbers so far, give what the line gives
abbrev pub invariant-loop-word : goal.invariant-loop-word
invariant-loop-word l =
    (on_to (vec_items l.numbers) (numbers_of (words_from l.line l.column (drop (length l.yielded) (slice_split is_blank l.bytes)))) ≡ on_to (vec_items l.initial.numbers) (numbers_of (line_words l.line l.bytes)))
    × (l.column + spans (drop (length l.yielded) (slice_split is_blank l.bytes)) ≡ length l.bytes + 2)
