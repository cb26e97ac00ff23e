use Rattle.tcr_hours.specs.Report.{period_shown, first_month_shown}
use Rattle.tcr_hours.proofs.Orders.{Adding}
use Rattle.tcr_hours.proofs.listing.Written.push_first_month.Given as goal

abbrev pub invariant-loop-months : goal.invariant-loop-months
invariant-loop-months l = Adding l.initial.self l.self (λ r k. period_shown r l.first k) 13 l.months (λ r. first_month_shown r l.first)
