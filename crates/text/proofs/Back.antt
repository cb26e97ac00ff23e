-- What is printed of a number is read as it. Assumes nothing.
use Rattle.std.proofs.Common.{◌≡◌, ℕ, suc, ◌+◌, ◌-◌, ◌*◌, ◌^◌, ◌<◌, Bool, true, false, cond, ◌&&◌, List, [], ◌∷◌, length, get_or, pos, negsuc, neg_ℤ, Some, None, decimal, refl, ap, ◌∙◌, arith, rules}
use Rattle.std.specs.Option.{option_map}
use Rattle.std.specs.Str.{all_ascii_digits}
use Rattle.std.specs.Char.{is_ascii_digit}
use Rattle.std.proofs.lemmas.Str.Parse.{IsNumeralModel, numerals_by_fold, not_in_digits}
use Rattle.std.proofs.lemmas.Fmt.{digits_decimal, digits_value-decimal, decimal_nonempty}
use Rattle.std.proofs.lemmas.Bool.Decides.{nat_tests}
use Rattle.text.specs.Digits.{digits, size_of, number_of, ranged, signed32}
use Rattle.text.specs.Laws.{NumbersReadBack}

abbrev read_on : ℕ → List ℕ → ℕ
read_on n [] = n
read_on n (c ∷ cs) = read_on (n * 10 + (c - 48)) cs

own : IsNumeralModel (λ ds. all_ascii_digits ds ≡ true) (read_on 0)
own = numerals_by_fold _ (search rules) read_on (search rules)

reads : (n : ℕ) (ds : List ℕ) → all_ascii_digits ds ≡ true → digits n ds ≡ Some (read_on n ds)
reads n [] h = refl
reads n (c ∷ cs) h = go (is_ascii_digit c) h (reads (n * 10 + (c - 48)) cs)
  where
    go : (t : Bool) → (t && all_ascii_digits cs) ≡ true → (all_ascii_digits cs ≡ true → digits (n * 10 + (c - 48)) cs ≡ Some (read_on (n * 10 + (c - 48)) cs)) → cond t (digits (n * 10 + (c - 48)) cs) None ≡ Some (read_on (n * 10 + (c - 48)) cs)
    go true e k = k e
    go false e k = let z : ◌≡◌ {A = Bool} false true = e in cc

-- digits alone
size_of_some : (w : List ℕ) → 0 < length w → size_of w ≡ digits 0 w
size_of_some [] h = let no : ⊥ = omega arith in absurd no
size_of_some (b ∷ bs) h = refl

number_of_plain : (w : List ℕ) → 0 < length w → (get_or w 0 0 ≡ 45 → ⊥) → number_of w ≡ option_map pos (size_of w)
number_of_plain [] h m = let no : ⊥ = omega arith in absurd no
number_of_plain (b ∷ bs) h m = grind (arith, nat_tests)

size_back : (n : ℕ) → n < 2 ^ 64 → size_of (decimal n) ≡ Some n
size_back n h =
    size_of_some (decimal n) (decimal_nonempty n (omega arith))
    ∙ reads 0 (decimal n) (digits_decimal own n (omega arith))
    ∙ ap (λ (m : ℕ). Some m) (digits_value-decimal own n (omega arith))

no_minus : (n : ℕ) → n < 2 ^ 64 → get_or (decimal n) 0 0 ≡ 45 → ⊥
no_minus n h e = not_in_digits own (decimal n) 45 (digits_decimal own n (omega arith)) (λ i. omega arith) 0 (decimal_nonempty n (omega arith)) e

plain_back : (n : ℕ) → n < 2 ^ 64 → number_of (decimal n) ≡ Some (pos n)
plain_back n h = number_of_plain (decimal n) (decimal_nonempty n (omega arith)) (no_minus n h) ∙ ap (option_map pos) (size_back n h)

minus_back : (n : ℕ) → suc n < 2 ^ 64 → number_of (45 ∷ decimal (suc n)) ≡ Some (negsuc n)
minus_back n h = ap (option_map (λ m. neg_ℤ (pos m))) (size_back (suc n) h)

pub numbers_read_back_lem : NumbersReadBack
numbers_read_back_lem (pos n) h =
    let small : n < 2 ^ 31 = grind (arith, nat_tests) in
    ap (ranged signed32) (plain_back n (omega arith)) ∙ rw h
numbers_read_back_lem (negsuc n) h =
    let small : n < 2 ^ 31 = grind (arith, nat_tests) in
    ap (ranged signed32) (minus_back n (omega arith)) ∙ rw h
