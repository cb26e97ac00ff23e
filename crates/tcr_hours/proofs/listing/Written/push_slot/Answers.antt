use Rattle.std.proofs.Common.{◌≡◌, ◌++◌, codes, rules}
use Rattle.std.proofs.lemmas.Result.{on_ok_weaker}
use Rattle.tcr_hours.specs.Lines.{slot_line}
use Rattle.tcr_hours.proofs.Slots.{slot_written}
use Rattle.tcr_hours.proofs.listing.Written.push_slot.Goals as goal

pub returns : goal.returns
returns c =
    let l : c.as_str.result.now ≡ slot_line c.args.slot c.in-Some.counts ++ codes "\n" = search rules in
    on_ok_weaker c.push_locations.result (slot_written c.args.self.now c.push_line.new.self c.push_locations.new.self c.args.slot c.in-Some.counts c.as_str.result.now c.in-Some.ensures l c.in_ok-push_line.ensures) c.push_locations.ensures
