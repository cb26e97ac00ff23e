-- The numbers of words that are read part by part. Assumes nothing.
use Rattle.std.proofs.Common.{◌≡◌, List, [], ◌∷◌, ◌++◌, ℤ, Ok, Err, Result, sym, refl, ap, ◌∙◌, append_assoc, append-nil}
use Rattle.std.specs.Result.{result_map_both}
use Rattle.text.specs.declared.digits.Misread.{Misread}
use Rattle.text.specs.declared.words.BadWord.{BadWord}
use Rattle.text.specs.declared.words.Unread.{Unread}
use Rattle.text.specs.declared.words.Unread.TheVariants as unread
use Rattle.text.specs.Digits.{number_of, ranged, signed32}
use Rattle.text.specs.Words.{Word, consed, told_first, numbers_of, on_to, TellsBad, Tells}

on_to-push : (acc : List ℤ) (z : ℤ) (r : Result (List ℤ) BadWord) → on_to (acc ++ z ∷ []) r ≡ on_to acc (consed z r)
on_to-push acc z (Ok zs) = ap (λ (ys : List ℤ). Ok ys) (append_assoc acc (z ∷ []) zs)
on_to-push acc z (Err bad) = refl

-- what comes of a second part, behind what came of the first
abbrev then_on : Result (List ℤ) BadWord → Result (List ℤ) BadWord → Result (List ℤ) BadWord
then_on (Ok zs) r = on_to zs r
then_on (Err bad) r = Err bad

in_parts : (acc : List ℤ) (ws vs : List Word) → on_to acc (numbers_of (ws ++ vs)) ≡ then_on (on_to acc (numbers_of ws)) (numbers_of vs)
in_parts acc [] vs = ap (λ (ys : List ℤ). on_to ys (numbers_of vs)) (sym (append-nil acc))
in_parts acc (w ∷ ws) vs = go (ranged signed32 (number_of w.bytes)) (λ z. in_parts (acc ++ z ∷ []) ws vs)
  where
    go : (r : Result ℤ Misread) → ((z : ℤ) → on_to (acc ++ z ∷ []) (numbers_of (ws ++ vs)) ≡ then_on (on_to (acc ++ z ∷ []) (numbers_of ws)) (numbers_of vs)) → on_to acc (told_first w r (numbers_of (ws ++ vs))) ≡ then_on (on_to acc (told_first w r (numbers_of ws))) (numbers_of vs)
    go (Ok z) same = sym (on_to-push acc z (numbers_of (ws ++ vs))) ∙ same z ∙ ap (λ (r : Result (List ℤ) BadWord). then_on r (numbers_of vs)) (on_to-push acc z (numbers_of ws))
    go (Err fault) same = refl

-- the first part could be read, and gave zs with what stood before it
pub part_read : (acc zs : List ℤ) (ws vs : List Word) → on_to acc (numbers_of ws) ≡ Ok zs → on_to acc (numbers_of (ws ++ vs)) ≡ on_to zs (numbers_of vs)
part_read acc zs ws vs e = in_parts acc ws vs ∙ ap (λ (r : Result (List ℤ) BadWord). then_on r (numbers_of vs)) e

-- a word of the first part is bad
pub part_bad : {U : Type 0} (acc zs : List ℤ) (ws vs : List Word) (x : Result U BadWord) (bad : BadWord) → x ≡ Err bad → result_map_both (λ _. zs) (λ bad. bad) x ≡ on_to acc (numbers_of ws) → on_to acc (numbers_of (ws ++ vs)) ≡ Err bad
part_bad acc zs ws vs x bad i e = in_parts acc ws vs ∙ ap (λ (r : Result (List ℤ) BadWord). then_on r (numbers_of vs)) (sym e ∙ ap (result_map_both (λ _. zs) (λ bad. bad)) i)

-- the first part could not be read
pub part_unread : {B : Type 0} (both : B → List ℤ) (acc : List ℤ) (ws vs : List Word) (r : Result (List ℤ) BadWord) (x : Result B Unread) (e : Unread) → x ≡ Err e → on_to acc (numbers_of (ws ++ vs)) ≡ r → TellsBad e (on_to acc (numbers_of ws)) → Tells both x r
part_unread both acc ws vs r x (unread.Word bad) is i h = rw is (sym i ∙ in_parts acc ws vs ∙ ap (λ (q : Result (List ℤ) BadWord). then_on q (numbers_of vs)) h)
part_unread both acc ws vs r x (unread.Memory e) is i h = rw is tt
