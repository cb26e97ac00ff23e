-- The words of a text have all bytes that stop none. Assumes nothing.
use Rattle.std.proofs.Common.{◌≡◌, ℕ, ◌+◌, Bool, true, false, cond, not, ◌||◌, List, [], ◌∷◌, ◌++◌, length, filter, sym, refl, ap, ◌∙◌, append_assoc}
use Rattle.std.proofs.lemmas.List.Elements.{filter-append}
use Rattle.std.specs.List.{flat_map, slice_split, onto_first}
use Rattle.text.specs.Laws.{of_word, WordsAreAll}
use Rattle.text.specs.Pieces.{ends_line, is_blank}
use Rattle.text.specs.Words.{Word, words_from, line_words, lines_words}

abbrev whole : List (List ℕ) → List ℕ
whole ls = flat_map (λ l. l) ls

abbrev spelled : List Word → List ℕ
spelled ws = flat_map (λ w. w.bytes) ws

whole_onto : (x : ℕ) (ls : List (List ℕ)) → whole (onto_first x ls) ≡ x ∷ whole ls
whole_onto x [] = refl
whole_onto x (l ∷ ls) = refl

-- the pieces have all that does not stop
whole_split : (p : ℕ → Bool) (xs : List ℕ) → whole (slice_split p xs) ≡ filter (λ x. not (p x)) xs
whole_split p [] = refl
whole_split p (x ∷ xs) = go (p x) (whole_split p xs)
  where
    go : (t : Bool) → whole (slice_split p xs) ≡ filter (λ x. not (p x)) xs → whole (cond t ([] ∷ slice_split p xs) (onto_first x (slice_split p xs))) ≡ cond (not t) (x ∷ filter (λ x. not (p x)) xs) (filter (λ x. not (p x)) xs)
    go true same = same
    go false same = whole_onto x (slice_split p xs) ∙ ap (λ (ys : List ℕ). x ∷ ys) same

spelled-append : (vs ws : List Word) → spelled (vs ++ ws) ≡ spelled vs ++ spelled ws
spelled-append [] ws = refl
spelled-append (v ∷ vs) ws = ap (λ (ys : List ℕ). v.bytes ++ ys) (spelled-append vs ws) ∙ sym (append_assoc v.bytes (spelled vs) (spelled ws))

spelled_from : (line column : ℕ) (ps : List (List ℕ)) → spelled (words_from line column ps) ≡ whole ps
spelled_from line column [] = refl
spelled_from line column ([] ∷ ps) = spelled_from line (column + (0 + 1)) ps
spelled_from line column ((b ∷ bs) ∷ ps) = ap (λ (ys : List ℕ). (b ∷ bs) ++ ys) (spelled_from line (column + (length (b ∷ bs) + 1)) ps)

-- what stands between blanks
abbrev unblank : List ℕ → List ℕ
unblank bs = filter (λ b. not (is_blank b)) bs

spelled_lines : (line : ℕ) (ls : List (List ℕ)) → spelled (lines_words line ls) ≡ unblank (whole ls)
spelled_lines line [] = refl
spelled_lines line (l ∷ ls) =
    spelled-append (line_words line l) (lines_words (line + 1) ls)
    ∙ ap (λ (ys : List ℕ). ys ++ spelled (lines_words (line + 1) ls)) (spelled_from line 1 (slice_split is_blank l) ∙ whole_split is_blank l)
    ∙ ap (λ (ys : List ℕ). unblank l ++ ys) (spelled_lines (line + 1) ls)
    ∙ sym (filter-append (λ b. not (is_blank b)) l (whole ls))

kept_twice : (xs : List ℕ) → unblank (filter (λ b. not (ends_line b)) xs) ≡ filter of_word xs
kept_twice [] = refl
kept_twice (x ∷ xs) = go (ends_line x) (kept_twice xs)
  where
    ends : List ℕ
    ends = filter (λ b. not (ends_line b)) xs

    unless : (u : Bool) → unblank ends ≡ filter of_word xs → cond (not u) (x ∷ unblank ends) (unblank ends) ≡ cond (not u) (x ∷ filter of_word xs) (filter of_word xs)
    unless true same = same
    unless false same = ap (λ (ys : List ℕ). x ∷ ys) same

    go : (t : Bool) → unblank ends ≡ filter of_word xs → unblank (cond (not t) (x ∷ ends) ends) ≡ cond (not (t || is_blank x)) (x ∷ filter of_word xs) (filter of_word xs)
    go true same = same
    go false same = unless (is_blank x) same

pub words_are_all_lem : WordsAreAll
words_are_all_lem text = spelled_lines 1 (slice_split ends_line text) ∙ ap unblank (whole_split ends_line text) ∙ kept_twice text
