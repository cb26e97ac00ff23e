-- The line that is written for an outcome, without its end. Assumes nothing.
use Rattle.std.specs.Prelude.{ℕ, List, ◌++◌, codes, decimal}
use Rattle.std.specs.Fmt.{signed_decimal}
use Rattle.hours.specs.declared.fault.Fault.{Fault}
use Rattle.hours.specs.Faults.{layer_number, cause_number, cause_location, cause_year}
use Rattle.hours.specs.Refusals.{unlawful_number}
use Rattle.journal.specs.declared.outcome.Ground.{Ground}
use Rattle.journal.specs.declared.outcome.Ground.TheVariants.{UnlawfulPosting, UnlawfulAverage, UnlawfulRecords, UnlawfulBand}
use Rattle.journal.specs.declared.outcome.Refusal.{Refusal}
use Rattle.journal.specs.declared.outcome.FaultNumbers.{FaultNumbers}
use Rattle.journal.specs.declared.outcome.Outcome.{Outcome}
use Rattle.journal.specs.declared.outcome.Outcome.TheVariants as is

-- the number of a refusal
abbrev pub ground_number : Ground → ℕ
ground_number UnlawfulPosting = unlawful_number
ground_number UnlawfulAverage = unlawful_number
ground_number UnlawfulRecords = unlawful_number
ground_number UnlawfulBand = unlawful_number

-- its reason
abbrev pub ground_words : Ground → List ℕ
ground_words UnlawfulPosting = codes "a posted row is unlawful or listed twice, or there are too many rows"
ground_words UnlawfulAverage = codes "a count or a mean of the average hours is unlawful or listed twice, or there are too many"
ground_words UnlawfulRecords = codes "an entry of the recorded hours is cut short, unlawful or listed twice, or the numbers as a whole are"
ground_words UnlawfulBand = codes "a limit of a band is unlawful, or the low one is above the high one"

abbrev pub refusal_words : Refusal → List ℕ
refusal_words x = codes "refused " ++ (decimal (ground_number x.ground) ++ (codes " line " ++ (decimal x.line ++ (codes ": " ++ ground_words x.ground))))

-- the numbers of a fault, and how they are written
abbrev pub fault_numbers : Fault → FaultNumbers
fault_numbers x = record { layer = layer_number x.layer; cause = cause_number x.cause; location = cause_location x.cause; year = cause_year x.cause }

abbrev pub fault_words : FaultNumbers → List ℕ
fault_words x =
    codes "fault "
    ++ (decimal x.layer ++ (codes " " ++ (decimal x.cause ++ (codes " " ++ (decimal x.location ++ (codes " " ++ decimal x.year))))))

abbrev pub outcome_words : Outcome → List ℕ
outcome_words is.Book = codes "ok book"
outcome_words (is.Price z) = codes "price " ++ signed_decimal z
outcome_words (is.Fault x) = fault_words x
outcome_words (is.Refused x) = refusal_words x
outcome_words (is.Unreadable n) = codes "unreadable " ++ decimal n
