-- Faults by their numbers, and those that an hour source gives.
use Rattle.std.specs.Prelude.{ℕ}
use Rattle.hours.specs.declared.fault.Fault.{Fault}
use Rattle.hours.specs.declared.fault.Layer.{Layer}
use Rattle.hours.specs.declared.fault.Layer.TheVariants.{Hours, Book}
use Rattle.hours.specs.declared.fault.Cause.{Cause}
use Rattle.hours.specs.declared.fault.Cause.TheVariants.{Unlawful, NotPosted, UnknownLocation, LackingYear, NoHours, PastCount}

abbrev pub layer_number : Layer → ℕ
layer_number Hours = 1
layer_number Book = 2

abbrev pub cause_number : Cause → ℕ
cause_number Unlawful = 1
cause_number NotPosted = 2
cause_number (UnknownLocation l) = 3
cause_number (LackingYear l y) = 4
cause_number (NoHours y) = 5
cause_number (PastCount l y) = 6

-- the location and the year of a cause, 0 where it has none
abbrev pub cause_location : Cause → ℕ
cause_location Unlawful = 0
cause_location NotPosted = 0
cause_location (UnknownLocation l) = l
cause_location (LackingYear l y) = l
cause_location (NoHours y) = 0
cause_location (PastCount l y) = l

abbrev pub cause_year : Cause → ℕ
cause_year Unlawful = 0
cause_year NotPosted = 0
cause_year (UnknownLocation l) = 0
cause_year (LackingYear l y) = y
cause_year (NoHours y) = y
cause_year (PastCount l y) = y

-- the period, the class or the year is none that there is
abbrev pub unlawful_question : Fault
unlawful_question = record { layer = Hours; cause = Unlawful }

-- the source does not know the location
abbrev pub unknown_location : ℕ → Fault
unknown_location l = record { layer = Hours; cause = UnknownLocation l }

-- the location has no prices in the year
abbrev pub lacking_year : ℕ → ℕ → Fault
lacking_year l y = record { layer = Hours; cause = LackingYear l y }

-- the hour is not below the year's count
abbrev pub past_count : ℕ → ℕ → Fault
past_count l y = record { layer = Hours; cause = PastCount l y }
