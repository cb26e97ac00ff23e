use Rattle.tcr_hours.specs.Report.{in_order, first_month_shown}
use Rattle.tcr_hours.proofs.Orders.{Adding}
use Rattle.tcr_hours.proofs.listing.Written.push_periods.Given as goal

abbrev pub invariant-loop-first : goal.invariant-loop-first
invariant-loop-first l = Adding l.initial.self l.self (λ r k. first_month_shown r k) 13 l.first (λ r. in_order (first_month_shown r) 12 1)
