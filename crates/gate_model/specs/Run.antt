-- What a call answers and leaves, and where a list of calls leads from a new gate.
use Rattle.std.specs.Prelude.{ℕ, ◌+◌, cond, List, [], ◌∷◌, ◌++◌, length, pos, ◌+ℤ◌, neg_ℤ, Option, Some, None, fold, ◌==◌}
use Rattle.gate_model.specs.Measures.{Prices}
use Rattle.gate_model.specs.State.{State, Body, bid, offer, conversion, new, item_at}
use Rattle.gate_model.specs.Effects.{with_account, with_phase, secured, charged, submitted, converting, awarded, transferred, turned, rebooked, ended}
use Rattle.gate_model.specs.Calls.{Call, posting, returning, charge, invoice, payment, opening, submission, conversion_of, closing, award, ending, transfer, month_turn, new_book}
use Rattle.gate_model.specs.Grounds.{grounds, after_cents, cents}
use Rattle.gate_model.specs.declared.phase.Phase.TheVariants.{Open, Closed}
use Rattle.gate_model.specs.declared.refusal.Met.{Met}
use Rattle.gate_model.specs.declared.refusal.Ground.{Ground}
use Rattle.gate_model.specs.declared.outcome.Numbers.{Numbers}
use Rattle.gate_model.specs.declared.outcome.Outcome.{Outcome}
use Rattle.gate_model.specs.declared.outcome.Outcome.TheVariants.{SecurityNow, CalculatedNow, InvoicedNow, Opened, Standing, ShutOf, RightsMade, SoldOf, NothingCleared, EndedOf, MonthNow, BookNow, Refused}

-- the next k numbers, where n are given so far
abbrev pub next_numbers : ℕ → ℕ → Numbers
next_numbers n k = record { first = n + 1; last = n + k }

-- what an award that cleared something answers
abbrev pub cleared_answer : State → Body → ℕ → Outcome
cleared_answer s (bid key points price) w = RightsMade (next_numbers s.given 1)
cleared_answer s (offer k points) w = SoldOf w
cleared_answer s (conversion parts) w = RightsMade (next_numbers s.given (length parts))

-- an approved call
abbrev pub effect : State → Call → Outcome × State
effect s (posting c n) = (SecurityNow (cents (after_cents s c n)), with_account s c (secured (cents (after_cents s c n))))
effect s (returning c n) = (SecurityNow (cents (after_cents s c (neg_ℤ n))), with_account s c (secured (cents (after_cents s c (neg_ℤ n)))))
effect s (charge c n) = (CalculatedNow ((s.accounts c).calculated +ℤ n), with_account s c (λ a. charged a.invoiced (a.calculated +ℤ n) a))
effect s (invoice c) = (InvoicedNow ((s.accounts c).invoiced +ℤ (s.accounts c).calculated), with_account s c (λ a. charged (a.invoiced +ℤ a.calculated) (pos 0) a))
effect s (payment c) = (InvoicedNow (pos 0), with_account s c (λ a. charged (pos 0) a.calculated a))
effect s (opening p) = (Opened (s.auctions + 1), with_phase s (Open (record { auction = s.auctions + 1; period = p })) (s.auctions + 1))
effect s (submission w c lines) = (Standing (next_numbers (length s.items) (length lines)), submitted s c w.period lines)
effect s (conversion_of w c lines) = (Standing (next_numbers (length s.items) 1), converting s c w.period lines)
effect s (closing w) = (ShutOf w.auction, with_phase s (Closed w) s.auctions)
effect s (award w k q x) = (cond (q == 0) NothingCleared (cleared_answer s (item_at k s.items).body q), awarded s k q x)
effect s (ending w) = (EndedOf w.auction, ended s)
effect s (transfer seller buyer k q) = (RightsMade (next_numbers s.given 1), transferred s buyer k q)
effect s month_turn = (MonthNow (s.month + 1), turned s)
effect s (new_book p) = (BookNow, rebooked s p)

-- the first ground that is met turns the call down, and the gate stays as it was; where none is met, the call is approved
abbrev pub decided_by : (ground : Ground) → Option Met → State → Outcome × State → Outcome × State
decided_by g None s otherwise = otherwise
decided_by g (Some met) s otherwise = (Refused (record { ground = g; met = met }), s)

abbrev pub decided : List (Ground × Option Met) → State → Outcome × State → Outcome × State
decided [] s result = result
decided (g ∷ gs) s result = decided_by g.0 g.1 s (decided gs s result)

abbrev pub step : State → Call → Outcome × State
step s call = decided (grounds s call) s (effect s call)

-- one more call, after the outcomes and the state so far
abbrev pub next : List Outcome × State → Call → List Outcome × State
next r call = (r.0 ++ (step r.1 call).0 ∷ [], (step r.1 call).1)

-- the outcomes of the calls, in order, and the state that they lead to from the new gate
abbrev pub run : Prices → List Call → List Outcome × State
run p calls = fold next ([], new p) calls

abbrev pub reached : Prices → List Call → State
reached p calls = (run p calls).1
