use Rattle.tcr_hours.specs.Report.{location_shown, locations_shown}
use Rattle.tcr_hours.proofs.Orders.{Adding}
use Rattle.tcr_hours.proofs.listing.Written.push_locations.Given as goal

abbrev pub invariant-loop-location : goal.invariant-loop-location
invariant-loop-location l = Adding l.initial.self l.self (λ r k. location_shown r l.slot k) 64 l.location (λ r. locations_shown r l.slot)
