-- What holds of the words of every text, and of every number of 32 bits. Assumes nothing.
use Rattle.std.specs.Prelude.{◌≡◌, ℕ, ◌-◌, Bool, true, not, ◌||◌, List, [], length, take, drop, ℤ, Ok, filter, slice_index_or}
use Rattle.std.specs.Fmt.{signed_decimal}
use Rattle.std.specs.List.{flat_map, slice_split, AllByRecursion}
use Rattle.text.specs.Digits.{number_of, ranged, signed32}
use Rattle.text.specs.Pieces.{ends_line, is_blank}
use Rattle.text.specs.Words.{Word, words_of}

-- a word's bytes are those that stand in a line from the word's column on
abbrev pub StandsIn : List ℕ → Word → Type 0
StandsIn line w = take (length w.bytes) (drop (w.column - 1) line) ≡ w.bytes

-- every word stands in the line that it tells, at the column that it tells
abbrev pub WordsStand : Type 0
WordsStand = (text : List ℕ) → AllByRecursion (λ w. StandsIn (slice_index_or (slice_split ends_line text) (w.line - 1) []) w) (words_of text)

-- neither a blank nor the end of a line
abbrev pub of_word : ℕ → Bool
of_word b = not (ends_line b || is_blank b)

-- no byte of a word is lost, and none is told twice: in their order, the words have them all
abbrev pub WordsAreAll : Type 0
WordsAreAll = (text : List ℕ) → flat_map (λ w. w.bytes) (words_of text) ≡ filter of_word text

-- what is printed of a number of 32 bits is read as that number
abbrev pub NumbersReadBack : Type 0
NumbersReadBack = (z : ℤ) → signed32 z ≡ true → ranged signed32 (number_of (signed_decimal z)) ≡ Ok z
