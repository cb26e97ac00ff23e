-- Digits read one by one, with no more than 64 bits at hand, give the number that they are. Assumes nothing.
use Rattle.std.proofs.Common.{◌≡◌, ℕ, ◌+◌, ◌-◌, ◌*◌, ◌<◌, Bool, true, false, cond, List, [], ◌∷◌, length, get_or, drop, pos, neg_ℤ, Some, None, Ok, Err, Option, Result, refl, ap, ◌∙◌, arith}
use Rattle.std.specs.Option.{option_map}
use Rattle.std.specs.Char.{is_ascii_digit}
use Rattle.std.proofs.lemmas.Bool.Decides.{nat_tests}
use Rattle.text.specs.declared.digits.Misread.{Misread}
use Rattle.text.specs.declared.digits.Misread.TheVariants.{NoNumber, BeyondRange}
use Rattle.text.specs.Digits.{digits, size_of, number_of, ranged, unsigned64, with_digit}

-- what comes of the bytes that are left, behind a size that may be too large already
abbrev pub scan : Option ℕ → List ℕ → Result ℕ Misread
scan None [] = Err BeyondRange
scan (Some n) [] = Ok n
scan size (b ∷ bs) = cond (is_ascii_digit b) (scan (with_digit size (b - 48)) bs) (Err NoNumber)

-- a size as 64 bits hold it
abbrev kept : ℕ → Option ℕ
kept n = cond (unsigned64 n) (Some n) None

-- a size that is too large stays so
kept_more : (n d : ℕ) → with_digit (kept n) d ≡ kept (n * 10 + d)
kept_more n d = grind (arith, nat_tests)

scan_kept : (n : ℕ) (bs : List ℕ) → scan (kept n) bs ≡ ranged unsigned64 (digits n bs)
scan_kept n [] = grind (arith, nat_tests)
scan_kept n (b ∷ bs) =
    go (is_ascii_digit b) (ap (λ (size : Option ℕ). scan size bs) (kept_more n (b - 48)) ∙ scan_kept (n * 10 + (b - 48)) bs)
  where
    go : (t : Bool) → scan (with_digit (kept n) (b - 48)) bs ≡ ranged unsigned64 (digits (n * 10 + (b - 48)) bs) → cond t (scan (with_digit (kept n) (b - 48)) bs) (Err NoNumber) ≡ ranged unsigned64 (cond t (digits (n * 10 + (b - 48)) bs) None)
    go true same = same
    go false same = refl

-- a word that is not empty, read from its start
pub scan_word : (w : List ℕ) → 0 < length w → scan (Some 0) w ≡ ranged unsigned64 (size_of w)
scan_word [] h = let no : ⊥ = omega arith in absurd no
scan_word (b ∷ bs) h = scan_kept 0 (b ∷ bs)

-- a word that starts with a minus
pub number_of_minus : (w : List ℕ) → get_or w 0 0 ≡ 45 → number_of w ≡ option_map (λ n. neg_ℤ (pos n)) (size_of (drop 1 w))
number_of_minus [] e = let no : ⊥ = omega arith in absurd no
number_of_minus (b ∷ bs) e = grind (arith, nat_tests)
