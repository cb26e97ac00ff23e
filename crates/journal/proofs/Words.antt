-- The words of a line, by the pieces that are not empty. Assumes nothing.
use Rattle.std.proofs.Common.{◌≡◌, ℕ, Bool, true, false, cond, not, eqb, List, [], ◌∷◌, ◌++◌, map, filter, length, Some, Option, Result, refl, ap}
use Rattle.std.specs.Result.{result_ok}
use Rattle.journal.specs.declared.word.Word.{Word}
use Rattle.journal.specs.Words.{word_of, words, Converted}

pub words_by_filter : (ls : List (List ℕ)) → map word_of (filter (λ l. not (eqb (length l) 0)) ls) ≡ words ls
words_by_filter [] = refl
words_by_filter (l ∷ ls) = go (eqb (length l) 0) (words_by_filter ls)
  where
    others : List (List ℕ)
    others = filter (λ k. not (eqb (length k) 0)) ls

    go : (t : Bool) → map word_of others ≡ words ls → map word_of (cond (not t) (l ∷ others) others) ≡ cond t [] (word_of l ∷ []) ++ words ls
    go true e = e
    go false e = ap (λ (ws : List Word). word_of l ∷ ws) e

pub converted : {N A E : Type 0} (gives : N → Result A E → Type 0) (o : Option N) (n : N) (t : Result A E) (r : Option A) → o ≡ Some n → gives n t → r ≡ result_ok t → Converted gives o r
converted gives o n t r e g i = rw e (t, g, i)
