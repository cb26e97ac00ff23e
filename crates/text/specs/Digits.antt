-- What number a word is. Assumes nothing.
use Rattle.std.specs.Prelude.{ℕ, ◌+◌, ◌-◌, ◌*◌, ◌^◌, Bool, cond, ◌&&◌, List, [], ◌∷◌, ℤ, pos, neg_ℤ, Some, None, Ok, Err, Option, Result, ◌==◌, int_le, int_lt, nat_lt}
use Rattle.std.specs.Option.{option_map}
use Rattle.std.specs.Char.{is_ascii_digit}
use Rattle.text.specs.declared.digits.Misread.{Misread}
use Rattle.text.specs.declared.digits.Misread.TheVariants.{NoNumber, BeyondRange}

-- the number that digits are behind those of n, and nothing where one of them is no digit
abbrev pub digits : ℕ → List ℕ → Option ℕ
digits n [] = Some n
digits n (b ∷ bs) = cond (is_ascii_digit b) (digits (n * 10 + (b - 48)) bs) None

-- the number that a word of digits is, however many: at least one, and nothing else
abbrev pub size_of : List ℕ → Option ℕ
size_of [] = None
size_of (b ∷ bs) = digits 0 (b ∷ bs)

-- the number that a word is: digits, or a minus and digits
abbrev pub number_of : List ℕ → Option ℤ
number_of [] = None
number_of (b ∷ bs) = cond (b == 45) (option_map (λ n. neg_ℤ (pos n)) (size_of bs)) (option_map pos (size_of (b ∷ bs)))

-- a number that lies in a range, or why there is none
abbrev pub ranged : {A : Type 0} → (A → Bool) → Option A → Result A Misread
ranged within None = Err NoNumber
ranged within (Some x) = cond (within x) (Ok x) (Err BeyondRange)

-- what 64 bits hold without a sign
abbrev pub unsigned64 : ℕ → Bool
unsigned64 n = nat_lt n (2 ^ 64)

-- what 32 bits hold with a sign
abbrev pub signed32 : ℤ → Bool
signed32 z = int_le (neg_ℤ (pos (2 ^ 31))) z && int_lt z (pos (2 ^ 31))

-- one more digit behind a number, as long as 64 bits hold it
abbrev pub with_digit : Option ℕ → ℕ → Option ℕ
with_digit None d = None
with_digit (Some n) d = cond (unsigned64 (n * 10 + d)) (Some (n * 10 + d)) None
