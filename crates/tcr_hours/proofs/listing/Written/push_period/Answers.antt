use Rattle.std.proofs.lemmas.Result.{on_ok_weaker}
use Rattle.tcr_hours.specs.Report.{slot_shown, slot_of}
use Rattle.tcr_hours.proofs.Orders.{adds_then}
use Rattle.tcr_hours.proofs.listing.Written.push_period.Goals as goal

pub returns : goal.returns
returns c = on_ok_weaker c.push_slot-2.result (adds_then c.args.self.now c.push_slot.new.self c.push_slot-2.new.self (λ r. slot_shown r (slot_of c.args.period.first c.args.period.months 0)) (λ r. slot_shown r (slot_of c.args.period.first c.args.period.months 1)) c.in_ok-push_slot.ensures) c.push_slot-2.ensures
