use Rattle.std.proofs.Common.{arith}
use Rattle.tcr_hours.specs.Report.{period_shown, first_month_shown}
use Rattle.tcr_hours.proofs.Orders.{adding_more, adding_all}
use Rattle.tcr_hours.proofs.listing.Written.push_first_month.Goals as goal

pub loop-months-preserved : goal.loop-months-preserved
loop-months-preserved c = adding_more c.args.self.now c.loop-months.self c.push_period.new.self (λ r k. period_shown r c.args.first k) 13 c.loop-months.months (λ r. first_month_shown r c.args.first) c.loop-months.invariant (omega arith) c.in_ok-push_period.ensures

pub returns : goal.returns
returns c = adding_all c.args.self.now c.loop-months.self (λ r k. period_shown r c.args.first k) 13 c.loop-months.months (λ r. first_month_shown r c.args.first) c.loop-months.invariant (omega arith)
