-- The words of a text with the places where they stand, and the numbers that they are. Assumes nothing.
use Rattle.std.specs.Prelude.{ℕ, ◌+◌, List, [], ◌∷◌, ◌++◌, length, ℤ, ◌≡◌, Ok, Err, Result}
use Rattle.std.specs.List.{slice_split}
use Rattle.text.specs.declared.digits.Misread.{Misread}
use Rattle.text.specs.declared.words.BadWord.{BadWord}
use Rattle.text.specs.declared.words.Unread.{Unread}
use Rattle.text.specs.declared.words.Unread.TheVariants as unread
use Rattle.text.specs.Digits.{number_of, ranged, signed32}
use Rattle.text.specs.Pieces.{ends_line, is_blank}

-- a word, the line that it stands in, and the column of its first byte: both are counted from 1
pub record Word : Type 0 where
  pub line : ℕ
  pub column : ℕ
  pub bytes : List ℕ

-- a piece between blanks is a word, unless it is empty
abbrev pub word_at : ℕ → ℕ → List ℕ → List Word
word_at line column [] = []
word_at line column (b ∷ bs) = record { line = line; column = column; bytes = b ∷ bs } ∷ []

-- the words of pieces that have one blank between them, the first of which starts at a column
abbrev pub words_from : ℕ → ℕ → List (List ℕ) → List Word
words_from line column [] = []
words_from line column (w ∷ ws) = word_at line column w ++ words_from line (column + (length w + 1)) ws

-- the words of a line
abbrev pub line_words : ℕ → List ℕ → List Word
line_words line bytes = words_from line 1 (slice_split is_blank bytes)

-- the words of lines, the first of which has a number
abbrev pub lines_words : ℕ → List (List ℕ) → List Word
lines_words line [] = []
lines_words line (l ∷ ls) = line_words line l ++ lines_words (line + 1) ls

-- the words of a text, as they are read
abbrev pub words_of : List ℕ → List Word
words_of text = lines_words 1 (slice_split ends_line text)

-- one number in front of others, where these could be read
abbrev pub consed : ℤ → Result (List ℤ) BadWord → Result (List ℤ) BadWord
consed z (Ok zs) = Ok (z ∷ zs)
consed z (Err bad) = Err bad

-- a word that is a number goes in front of those behind it, and any other is told with its place
abbrev pub told_first : Word → Result ℤ Misread → Result (List ℤ) BadWord → Result (List ℤ) BadWord
told_first w (Ok z) rest = consed z rest
told_first w (Err fault) rest = Err (record { line = w.line; column = w.column; fault = fault })

-- the numbers of 32 bits that words are, or the first word that is none
abbrev pub numbers_of : List Word → Result (List ℤ) BadWord
numbers_of [] = Ok []
numbers_of (w ∷ ws) = told_first w (ranged signed32 (number_of w.bytes)) (numbers_of ws)

-- numbers behind others, where they could be read
abbrev pub on_to : List ℤ → Result (List ℤ) BadWord → Result (List ℤ) BadWord
on_to zs (Ok more) = Ok (zs ++ more)
on_to zs (Err bad) = Err bad

-- what is said of words where they are not taken for numbers: which is the first that is none, and nothing where memory ran out
abbrev pub TellsBad : Unread → Result (List ℤ) BadWord → Type 0
TellsBad (unread.Word bad) r = r ≡ Err bad
TellsBad (unread.Memory e) r = Unit {0}

-- what came of reading says what the words are: all their numbers, or why they are not taken for any
abbrev pub Tells : {A : Type 0} → (A → List ℤ) → Result A Unread → Result (List ℤ) BadWord → Type 0
Tells items (Ok v) r = r ≡ Ok (items v)
Tells items (Err e) r = TellsBad e r
