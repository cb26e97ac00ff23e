-- All that is written for the calls of a journal. Assumes nothing.
use Rattle.std.specs.Prelude.{ℕ, ◌+◌, Bool, true, false, count_by, List, [], ◌∷◌, ◌++◌, codes, decimal}
use Rattle.journal.specs.declared.outcome.Kind.{Kind}
use Rattle.journal.specs.declared.outcome.Kind.TheVariants.{Taken, Refused, Unreadable}
use Rattle.journal.specs.declared.outcome.Outcome.{Outcome}
use Rattle.journal.specs.declared.outcome.Outcome.TheVariants as is
use Rattle.journal.specs.Outcomes.{outcome_words}

-- a question that was answered is taken
abbrev pub kind_of : Outcome → Kind
kind_of is.Book = Taken
kind_of (is.Price z) = Taken
kind_of (is.Fault x) = Taken
kind_of (is.Refused x) = Refused
kind_of (is.Unreadable n) = Unreadable

abbrev pub same_kind : Kind → Kind → Bool
same_kind Taken Taken = true
same_kind Taken Refused = false
same_kind Taken Unreadable = false
same_kind Refused Taken = false
same_kind Refused Refused = true
same_kind Refused Unreadable = false
same_kind Unreadable Taken = false
same_kind Unreadable Refused = false
same_kind Unreadable Unreadable = true

abbrev pub counts_as : Kind → Outcome → Bool
counts_as k o = same_kind k (kind_of o)

-- how many of the outcomes are of a kind
abbrev pub how_often : Kind → List Outcome → ℕ
how_often k os = count_by (counts_as k) os

abbrev pub tally_words : ℕ → ℕ → ℕ → ℕ → List ℕ
tally_words calls taken refused unreadable =
    codes "played "
    ++ (decimal calls ++ (codes " calls, " ++ (decimal taken ++ (codes " taken, " ++ (decimal refused ++ (codes " refused, " ++ (decimal unreadable ++ codes " unreadable")))))))

-- the last line: a call is taken or refused, and a line that cannot be read is none
abbrev pub closing_words : List Outcome → List ℕ
closing_words os = tally_words (how_often Taken os + how_often Refused os) (how_often Taken os) (how_often Refused os) (how_often Unreadable os) ++ codes "\n"

-- a line for each outcome
abbrev pub lines_of : List Outcome → List ℕ
lines_of [] = []
lines_of (o ∷ os) = (outcome_words o ++ codes "\n") ++ lines_of os

-- all lines, the last of which counts the others
abbrev pub report_of : List Outcome → List ℕ
report_of os = lines_of os ++ closing_words os
