use Rattle.std.proofs.Common.{arith}
use Rattle.tcr_hours.specs.Report.{location_shown, locations_shown}
use Rattle.tcr_hours.proofs.Orders.{adding_more, adding_all}
use Rattle.tcr_hours.proofs.listing.Written.push_locations.Goals as goal

pub loop-location-preserved : goal.loop-location-preserved
loop-location-preserved c = adding_more c.args.self.now c.loop-location.self c.push_location.new.self (λ r k. location_shown r c.args.slot k) 64 c.loop-location.location (λ r. locations_shown r c.args.slot) c.loop-location.invariant (omega arith) c.in_ok-push_location.ensures

pub returns : goal.returns
returns c = adding_all c.args.self.now c.loop-location.self (λ r k. location_shown r c.args.slot k) 64 c.loop-location.location (λ r. locations_shown r c.args.slot) c.loop-location.invariant (omega arith)
