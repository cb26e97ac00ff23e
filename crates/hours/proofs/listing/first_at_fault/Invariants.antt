use Rattle.std.proofs.Common.{◌≡◌, List, Bool, Bor, [], take, drop}
use Rattle.hours.specs.Listings.{first_at_fault}
use Rattle.hours.proofs.listing.first_at_fault.Given as goal

-- by whatever rule the answers keep to, no row that was passed is at fault
abbrev pub invariant-loop-i : goal.invariant-loop-i
invariant-loop-i g l =
    (fault : List g.row.R.Denot → g.row.R.Denot → Bool) → ((before : Bor (List g.row.R.Denot)) (row : g.row.R.Denot) (b : Bool) → goal.F-post g l.is_at_fault before row b → b ≡ fault before.now row) →
    first_at_fault fault (take l.i l.rows) (drop l.i l.rows) ≡ first_at_fault fault [] l.rows
