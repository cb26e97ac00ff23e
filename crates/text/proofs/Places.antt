-- Every word stands at the place that is told of it. Assumes nothing.
use Rattle.std.proofs.Common.{◌≡◌, ℕ, suc, ◌+◌, ◌-◌, Bool, true, false, cond, List, [], ◌∷◌, ◌++◌, length, get_or, take, drop, sym, refl, ap, ◌∙◌, subst, append_assoc, arith}
use Rattle.std.proofs.ByRecursion.{All-append, All-weaker}
use Rattle.std.proofs.lemmas.List.{drop_at, get_or_at, length_push}
use Rattle.std.specs.List.{slice_split, onto_first, AllByRecursion}
use Rattle.text.specs.Laws.{StandsIn, WordsStand}
use Rattle.text.specs.Pieces.{ends_line, is_blank}
use Rattle.text.specs.Words.{Word, word_at, words_from, line_words, lines_words}

-- a word of the line with this number, which stands there
abbrev Placed : ℕ → List ℕ → Word → Type 0
Placed line bytes w = (w.line ≡ line) × StandsIn bytes w

-- what a list of pieces begins with
abbrev FirstIs : List ℕ → List (List ℕ) → Type 0
FirstIs xs [] = Unit {0}
FirstIs xs (l ∷ ls) = take (length l) xs ≡ l

first_onto : (x : ℕ) (xs : List ℕ) (ls : List (List ℕ)) → FirstIs xs ls → FirstIs (x ∷ xs) (onto_first x ls)
first_onto x xs [] h = refl
first_onto x xs (l ∷ ls) h = ap (λ (ys : List ℕ). x ∷ ys) h

first_split : (p : ℕ → Bool) (xs : List ℕ) → FirstIs xs (slice_split p xs)
first_split p [] = refl
first_split p (x ∷ xs) = go (p x) (first_split p xs)
  where
    go : (t : Bool) → FirstIs xs (slice_split p xs) → FirstIs (x ∷ xs) (cond t ([] ∷ slice_split p xs) (onto_first x (slice_split p xs)))
    go true h = refl
    go false h = first_onto x xs (slice_split p xs) h

behind_first : (P : Word → Type 0) (vs ws : List Word) → AllByRecursion P (vs ++ ws) → AllByRecursion P ws
behind_first P [] ws a = a
behind_first P (v ∷ vs) ws a = behind_first P vs ws a.1

-- what stands behind the bytes before
stands_at : (before : List ℕ) (x : ℕ) (xs l : List ℕ) → take (length l) xs ≡ l → take (suc (length l)) (drop (length before + 1 - 1) (before ++ x ∷ xs)) ≡ x ∷ l
stands_at before x xs l h = ap (λ (ys : List ℕ). take (suc (length l)) ys) (drop_at before (x ∷ xs) (length before + 1 - 1) (omega arith)) ∙ ap (λ (ys : List ℕ). x ∷ ys) h

-- the first piece, one byte longer, and the words behind it
placed_onto : (line : ℕ) (before : List ℕ) (x : ℕ) (xs : List ℕ) (ls : List (List ℕ)) → FirstIs xs ls → AllByRecursion (Placed line (before ++ x ∷ xs)) (words_from line (length before + 1 + 1) ls) → AllByRecursion (Placed line (before ++ x ∷ xs)) (words_from line (length before + 1) (onto_first x ls))
placed_onto line before x xs [] h a = ((refl, stands_at before x xs [] refl), tt)
placed_onto line before x xs (l ∷ ls) h a =
    ((refl, stands_at before x xs l h), subst (λ (k : ℕ). AllByRecursion (Placed line (before ++ x ∷ xs)) (words_from line k ls)) (omega arith) (behind_first (Placed line (before ++ x ∷ xs)) (word_at line (length before + 1 + 1) l) (words_from line (length before + 1 + 1 + (length l + 1)) ls) a))

placed_split : (line : ℕ) (before xs : List ℕ) → AllByRecursion (Placed line (before ++ xs)) (words_from line (length before + 1) (slice_split is_blank xs))
placed_split line before [] = tt
placed_split line before (x ∷ xs) =
    go (is_blank x) (subst (λ (bs : List ℕ). AllByRecursion (Placed line bs) (words_from line (length before + 1 + 1) (slice_split is_blank xs))) (append_assoc before (x ∷ []) xs) (subst (λ (k : ℕ). AllByRecursion (Placed line ((before ++ x ∷ []) ++ xs)) (words_from line (k + 1) (slice_split is_blank xs))) (length_push before x) (placed_split line (before ++ x ∷ []) xs)))
  where
    go : (t : Bool) → AllByRecursion (Placed line (before ++ x ∷ xs)) (words_from line (length before + 1 + 1) (slice_split is_blank xs)) → AllByRecursion (Placed line (before ++ x ∷ xs)) (words_from line (length before + 1) (cond t ([] ∷ slice_split is_blank xs) (onto_first x (slice_split is_blank xs))))
    go true a = a
    go false a = placed_onto line before x xs (slice_split is_blank xs) (first_split is_blank xs) a

-- a word in the lines of a text
abbrev InLines : List (List ℕ) → Word → Type 0
InLines ls w = StandsIn (get_or ls (w.line - 1) []) w

placed_lines : (before ls : List (List ℕ)) → AllByRecursion (InLines (before ++ ls)) (lines_words (length before + 1) ls)
placed_lines before [] = tt
placed_lines before (l ∷ ls) =
    All-append (InLines (before ++ l ∷ ls)) (line_words (length before + 1) l) (lines_words (length before + 1 + 1) ls)
    (All-weaker (Placed (length before + 1) l) (InLines (before ++ l ∷ ls)) here (line_words (length before + 1) l) (placed_split (length before + 1) [] l))
    (subst (λ (ms : List (List ℕ)). AllByRecursion (InLines ms) (lines_words (length before + 1 + 1) ls)) (append_assoc before (l ∷ []) ls) (subst (λ (k : ℕ). AllByRecursion (InLines ((before ++ l ∷ []) ++ ls)) (lines_words (k + 1) ls)) (length_push before l) (placed_lines (before ++ l ∷ []) ls)))
  where
    here : (w : Word) → Placed (length before + 1) l w → InLines (before ++ l ∷ ls) w
    here w (e, s) = subst (λ (bs : List ℕ). StandsIn bs w) (sym (get_or_at before l ls [] (w.line - 1) (omega arith))) s

pub words_stand_lem : WordsStand
words_stand_lem text = placed_lines [] (slice_split ends_line text)
