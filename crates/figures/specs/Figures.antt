-- The worked figures that are proved, over the definitions that the contracts of the books and the hours cite.
use Rattle.std.specs.Prelude.{◌≡◌, List, [], ◌∷◌, ℤ, pos, negsuc, Some}
use Rattle.hours.specs.StandIns.{proxied, two_prices}
use Rattle.books.specs.Histories.{path_price}
use Rattle.books.specs.Percentiles.{percentile_of}
use Rattle.figures.specs.declared.table.Table.{Table}

-- the values 1 to 10
abbrev pub one_to_ten : List ℤ
one_to_ten = pos 1 ∷ pos 2 ∷ pos 3 ∷ pos 4 ∷ pos 5 ∷ pos 6 ∷ pos 7 ∷ pos 8 ∷ pos 9 ∷ pos 10 ∷ []

-- each figure of the table is the number that is known, and what the definition gives
pub record Worked (t : Table) : Type 0 where
  -- one hour a year, with differences of -3633 in the recent year and -3658 in the distant one, and two hours ahead
  pub history : (t.history ≡ negsuc 14594) × (path_price 2 (negsuc 3632 ∷ []) (negsuc 3657 ∷ []) ≡ t.history)
  -- the smallest of the values 1 to 10 that 90, and 75, in a hundred of them do not exceed
  pub ninety : (t.ninety ≡ Some (pos 9)) × (percentile_of 90 one_to_ten ≡ t.ninety)
  pub seventy_five : (t.seventy_five ≡ Some (pos 8)) × (percentile_of 75 one_to_ten ≡ t.seventy_five)
  -- a location that lacks the year, where two others have 5 and -6
  pub proxy : (t.proxy ≡ negsuc 0) × (proxied (two_prices (pos 5) (negsuc 5)) 3 1 2 ≡ Some (t.proxy ∷ []))
