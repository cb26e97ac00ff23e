use Rattle.std.proofs.Common.{◌≡◌, ◌+◌, length, drop, vec_items}
use Rattle.std.specs.List.{slice_split}
use Rattle.text.specs.Pieces.{ends_line}
use Rattle.text.specs.Words.{lines_words, words_of, numbers_of, on_to}
use Rattle.text.proofs.words.numbers.Given as goal

-- the lines that are left, behind the numbers so far, give what the text gives
abbrev pub invariant-loop-place : goal.invariant-loop-place
invariant-loop-place l =
    on_to (vec_items l.numbers) (numbers_of (lines_words (length l.yielded + 1) (drop (length l.yielded) (slice_split ends_line l.text)))) ≡ numbers_of (words_of l.text)
