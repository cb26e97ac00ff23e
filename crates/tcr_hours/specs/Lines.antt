-- The lines that the program writes, without their ends. Assumes nothing.
use Rattle.std.specs.Prelude.{ℕ, Bool, cond, List, ◌++◌, codes, decimal, ◌==◌}
use Rattle.hours.specs.declared.period.Slot.{Slot}
use Rattle.hours.specs.declared.counts.Counts.{Counts}
use Rattle.hours.specs.Refusals.{unlawful_number}
use Rattle.text.specs.declared.digits.Misread.{Misread}
use Rattle.text.specs.declared.digits.Misread.TheVariants.{NoNumber, BeyondRange}
use Rattle.text.specs.declared.words.BadWord.{BadWord}

-- what is wrong with a word
abbrev pub fault_words : Misread → List ℕ
fault_words NoNumber = codes "not a number"
fault_words BeyondRange = codes "a number beyond 32 bits"

-- a word that cannot be read, with its place
abbrev pub unreadable_line : BadWord → List ℕ
unreadable_line bad = codes "unreadable: line " ++ (decimal bad.line ++ (codes ", column " ++ (decimal bad.column ++ (codes ": " ++ fault_words bad.fault))))

-- why numbers are refused: as a whole, or for one entry
abbrev pub ground_words : ℕ → List ℕ
ground_words line =
    cond (line == 0)
    (codes "the file as a whole has more than 1,000,000 numbers, a section without a count or with a negative one, or numbers left over")
    (codes "entry " ++ (decimal line ++ codes ", counted through both sections, is cut short, out of range, listed twice, or has another hour count than its period"))

-- numbers that are no lawful recorded hours
abbrev pub refused_line : ℕ → List ℕ
refused_line line = codes "refused " ++ (decimal unlawful_number ++ (codes " line " ++ (decimal line ++ (codes ": " ++ ground_words line))))

-- the hours of a class, 0 or 1
abbrev pub class_word : ℕ → List ℕ
class_word class = cond (class == 0) (codes "on-peak") (codes "off-peak")

-- a listed period and class with its hour counts
abbrev pub slot_line : Slot → Counts ℕ → List ℕ
slot_line s c =
    codes "first month "
    ++ (decimal s.period.first
    ++ (codes ", months "
    ++ (decimal s.period.months
    ++ (codes ", "
    ++ (class_word s.class
    ++ (codes ": recent " ++ (decimal c.recent ++ (codes ", distant " ++ (decimal c.distant ++ (codes ", ahead " ++ decimal c.ahead))))))))))

-- whether a location has a year
abbrev pub there_word : Bool → List ℕ
there_word there = cond there (codes "there") (codes "lacking")

-- a location with its recent and its distant year
abbrev pub location_line : ℕ → Bool → Bool → List ℕ
location_line location recent distant = codes "  location " ++ (decimal location ++ (codes ": recent " ++ (there_word recent ++ (codes ", distant " ++ there_word distant))))
