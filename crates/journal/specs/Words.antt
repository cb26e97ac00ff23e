-- The words of a line, and the numbers that they are. Assumes nothing.
use Rattle.std.specs.Prelude.{ℕ, Bool, true, false, cond, List, [], ◌∷◌, ◌++◌, length, drop, ℤ, pos, neg_ℤ, Some, None, Ok, Err, codes, Option, Result, ◌≡◌, ◌==◌, nat_le, nat_lt, slice_index, slice_index_or}
use Rattle.std.specs.List.{slice_split, before_first}
use Rattle.std.specs.Result.{result_ok}
use Rattle.std.specs.Str.{bytes_eq}
use Rattle.text.specs.declared.digits.Misread.{Misread}
use Rattle.text.specs.Digits.{size_of, ranged, unsigned64}
use Rattle.text.specs.Pieces.{is_blank}
use Rattle.journal.specs.declared.word.Verb.{Verb}
use Rattle.journal.specs.declared.word.Verb.TheVariants.{Posted, Row, Average, Count, Mean, Recorded, Numbers, Proxy, History, Band, Seat, Price}
use Rattle.journal.specs.declared.word.Word.{Word}
use Rattle.journal.specs.declared.word.Word.TheVariants.{Verb as a_verb, Semicolon, Number, Other}

-- a size with its sign, if it is one
abbrev pub sized : Bool → Result ℕ Misread → Option Word
sized minus (Ok n) = Some (Number minus n)
sized minus (Err e) = None

-- digits, with a minus in front or none
abbrev pub number_of : List ℕ → Option Word
number_of w = cond (slice_index w 0 == 45) (sized true (ranged unsigned64 (size_of (drop 1 w)))) (sized false (ranged unsigned64 (size_of w)))

abbrev pub verb_of : List ℕ → Option Verb
verb_of w =
    cond (bytes_eq w (codes "posted")) (Some Posted)
    (cond (bytes_eq w (codes "row")) (Some Row)
    (cond (bytes_eq w (codes "average")) (Some Average)
    (cond (bytes_eq w (codes "count")) (Some Count)
    (cond (bytes_eq w (codes "mean")) (Some Mean)
    (cond (bytes_eq w (codes "recorded")) (Some Recorded)
    (cond (bytes_eq w (codes "numbers")) (Some Numbers)
    (cond (bytes_eq w (codes "proxy")) (Some Proxy)
    (cond (bytes_eq w (codes "history")) (Some History)
    (cond (bytes_eq w (codes "band")) (Some Band)
    (cond (bytes_eq w (codes "seat")) (Some Seat)
    (cond (bytes_eq w (codes "price")) (Some Price) None)))))))))))

abbrev pub or_else : {A : Type 0} → Option A → A → A
or_else None d = d
or_else (Some x) d = x

abbrev pub otherwise : {A : Type 0} → Option A → Option A → Option A
otherwise None d = d
otherwise (Some x) d = Some x

abbrev pub omap : {A B : Type 0} → (A → B) → Option A → Option B
omap f None = None
omap f (Some x) = Some (f x)

-- a word is a number, a verb, a semicolon, or nothing that is known
abbrev pub word_of : List ℕ → Word
word_of w = or_else (otherwise (number_of w) (omap (λ v. a_verb v) (verb_of w))) (cond (bytes_eq w (codes ";")) Semicolon Other)

-- what stands between two blanks is a word unless it is empty
abbrev pub one_word : List ℕ → List Word
one_word w = cond (length w == 0) [] (word_of w ∷ [])

abbrev pub words : List (List ℕ) → List Word
words [] = []
words (w ∷ ws) = one_word w ++ words ws

-- the byte that starts a comment
abbrev pub starts_comment : ℕ → Bool
starts_comment b = b == 35

-- the words of a line, before any comment
abbrev pub words_of : List ℕ → List Word
words_of line = words (slice_split is_blank (before_first starts_comment line))

-- the word at a place, and past the end one that nothing takes
abbrev pub at : List Word → ℕ → Word
at ws i = slice_index_or ws i Other

-- the number that a word is, where it has no minus and is at most m
abbrev pub up_to : ℕ → Word → Option ℕ
up_to m (a_verb v) = None
up_to m Semicolon = None
up_to m (Number true n) = None
up_to m (Number false n) = cond (nat_le n m) (Some n) None
up_to m Other = None

-- customers, locations, months, classes and years
abbrev pub byte_of : Word → Option ℕ
byte_of w = up_to 255 w

-- megawatts and hour counts
abbrev pub count_of : Word → Option ℕ
count_of w = up_to 4294967295 w

-- the signed number that a word is, from -m to m - 1
abbrev pub around : ℕ → Word → Option ℤ
around m (a_verb v) = None
around m Semicolon = None
around m (Number true n) = cond (nat_le n m) (Some (neg_ℤ (pos n))) None
around m (Number false n) = cond (nat_lt n m) (Some (pos n)) None
around m Other = None

-- prices and means
abbrev pub cents_of : Word → Option ℤ
cents_of w = around 9223372036854775808 w

-- the numbers of recorded hours
abbrev pub hour_of : Word → Option ℤ
hour_of w = around 2147483648 w

-- the number that a word is, where it has no minus
abbrev pub unsigned_of : Word → Option ℕ
unsigned_of (a_verb v) = None
unsigned_of Semicolon = None
unsigned_of (Number true n) = None
unsigned_of (Number false n) = Some n
unsigned_of Other = None

-- the number that a word is, with its sign
abbrev pub signed_of : Word → Option ℤ
signed_of (a_verb v) = None
signed_of Semicolon = None
signed_of (Number true n) = Some (neg_ℤ (pos n))
signed_of (Number false n) = Some (pos n)
signed_of Other = None

-- what a conversion makes of a number, where there is one
abbrev pub Converted : {N A E : Type 0} → (N → Result A E → Type 0) → Option N → Option A → Type 0
Converted gives None r = r ≡ None
Converted {N} {A} {E} gives (Some n) r = (t : Result A E) × gives n t × (r ≡ result_ok t)
