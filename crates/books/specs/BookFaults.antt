-- The faults that a book gives of its own.
use Rattle.std.specs.Prelude.{ℕ, cond, Ok, Err, Result}
use Rattle.hours.specs.declared.fault.Fault.{Fault}
use Rattle.hours.specs.declared.fault.Layer.TheVariants.{Book}
use Rattle.hours.specs.declared.fault.Cause.TheVariants.{Unlawful, NotPosted, NoHours}
use Rattle.books.specs.Keys.{lawful_key}
use Rattle.books.specs.declared.key.Key.{Key}

-- the path, the period or the class of the key is none that there is
abbrev pub unlawful_key : Fault
unlawful_key = record { layer = Book; cause = Unlawful }

-- no row lists the key
abbrev pub not_posted : Fault
not_posted = record { layer = Book; cause = NotPosted }

-- the year has no hours: 0 for the recent, 1 for the distant one, 2 for what lies ahead
abbrev pub no_hours : ℕ → Fault
no_hours y = record { layer = Book; cause = NoHours y }

-- that a book can be asked for the key, or why it cannot
abbrev pub askable : Key → Result Unit Fault
askable k = cond (lawful_key k) (Ok tt) (Err unlawful_key)
