-- The entries of a journal. Assumes nothing.
use Rattle.std.specs.Prelude.{ℕ, ◌+◌, cond, List, [], ◌∷◌, ◌++◌, length, ◌==◌}
use Rattle.std.specs.List.{slice_split}
use Rattle.text.specs.Pieces.{ends_line}
use Rattle.journal.specs.declared.entry.Entry.{Entry}
use Rattle.journal.specs.declared.word.Word.{Word}
use Rattle.journal.specs.Words.{words_of}
use Rattle.journal.specs.Lines.{Meant, said_of, line_of}

-- what a line says, with the line's place in the text
pub record Noted : Type 0 where
  pub line : ℕ
  pub said : Meant

abbrev pub entry_of : Entry → Noted
entry_of e = record { line = e.line; said = said_of e.said }

-- a line says something if it has a word
abbrev pub noted : ℕ → List Word → List Noted
noted n ws = cond (length ws == 0) [] (record { line = n; said = line_of ws } ∷ [])

abbrev pub one_entry : ℕ → List ℕ → List Noted
one_entry n line = noted n (words_of line)

-- the entries of lines, the first of which has the place n
abbrev pub entries_from : ℕ → List (List ℕ) → List Noted
entries_from n [] = []
entries_from n (l ∷ ls) = one_entry n l ++ entries_from (n + 1) ls

-- the entries of a text: its lines stand between line breaks, and are counted from 1
abbrev pub entries_of : List ℕ → List Noted
entries_of text = entries_from 1 (slice_split ends_line text)
