-- What posted rows say of a key, and when rows are refused.
use Rattle.std.specs.Prelude.{ℕ, Bool, cond, not, ◌&&◌, ◌||◌, List, [], length, ℤ, is_some, Some, None, Ok, Err, Option, Result, nat_le}
use Rattle.std.specs.List.{find}
use Rattle.hours.specs.Bounds.{within}
use Rattle.hours.specs.Listings.{first_at_fault}
use Rattle.hours.specs.declared.fault.Fault.{Fault}
use Rattle.books.specs.BookFaults.{unlawful_key, not_posted}
use Rattle.books.specs.Keys.{lawful_key, same_key}
use Rattle.books.specs.declared.key.Key.{Key}
use Rattle.books.specs.declared.row.Row.{Row}

-- the row of a key, if one lists it
abbrev pub listed : List Row → Key → Option Row
listed rows k = find (λ r. same_key r.key k) rows

-- the price of the row, if there is one
abbrev pub price_in : Option Row → Result ℤ Fault
price_in None = Err not_posted
price_in (Some r) = Ok r.price

-- what the rows say of a key: a price for a lawful key that is listed
abbrev pub posted : List Row → Key → Result ℤ Fault
posted rows k = cond (lawful_key k) (price_in (listed rows k)) (Err unlawful_key)

-- a row of a lawful key and a price within bounds
abbrev pub lawful_row : Row → Bool
lawful_row r = lawful_key r.key && within 8000000000 r.price

-- a row is at fault if it is unlawful, or if a row before it lists the same key
abbrev pub row_at_fault : List Row → Row → Bool
row_at_fault before r = not (lawful_row r) || is_some (listed before r.key)

-- the line at which the rows are refused, if they are: 0 for more than 128 rows; else the place of the first row at fault
abbrev pub posting_refusal : List Row → Option ℕ
posting_refusal rows = cond (nat_le (length rows) 128) (first_at_fault row_at_fault [] rows) (Some 0)
