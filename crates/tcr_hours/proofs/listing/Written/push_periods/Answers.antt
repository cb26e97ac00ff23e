use Rattle.std.proofs.Common.{arith}
use Rattle.tcr_hours.specs.Report.{in_order, first_month_shown}
use Rattle.tcr_hours.proofs.Orders.{adding_more, adding_all}
use Rattle.tcr_hours.proofs.listing.Written.push_periods.Goals as goal

pub loop-first-preserved : goal.loop-first-preserved
loop-first-preserved c = adding_more c.args.self.now c.loop-first.self c.push_first_month.new.self (λ r k. first_month_shown r k) 13 c.loop-first.first (λ r. in_order (first_month_shown r) 12 1) c.loop-first.invariant (omega arith) c.in_ok-push_first_month.ensures

pub returns : goal.returns
returns c = adding_all c.args.self.now c.loop-first.self (λ r k. first_month_shown r k) 13 c.loop-first.first (λ r. in_order (first_month_shown r) 12 1) c.loop-first.invariant (omega arith)
