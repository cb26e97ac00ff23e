-- The megawatts of a key that are held, and those that the approved awards of a list of calls bought, converted and sold.
use Rattle.std.specs.Prelude.{ℕ, cond, List, [], ◌∷◌, ℤ, pos, ◌+ℤ◌, ◌==◌}
use Rattle.gate_model.specs.Sums.{sum_z}
use Rattle.gate_model.specs.Measures.{Prices}
use Rattle.gate_model.specs.State.{Body, bid, offer, conversion, State, new, right_at, item_at}
use Rattle.gate_model.specs.Calls.{Call, posting, returning, charge, invoice, payment, opening, submission, conversion_of, closing, award, ending, transfer, month_turn, new_book}
use Rattle.gate_model.specs.Grounds.{grounds, approved}
use Rattle.gate_model.specs.Run.{step}
use Rattle.books.specs.declared.key.Key.{Key}
use Rattle.books.specs.Keys.{same_key}

-- q where the key is k
abbrev pub of_key : Key → Key → ℕ → ℤ
of_key k key q = cond (same_key key k) (pos q) (pos 0)

abbrev pub held : Key → State → ℤ
held k s = sum_z (λ r. of_key k r.key r.megawatts) s.rights

-- what an award of w on a standing item clears of the key
abbrev pub buys : Key → State → Body → ℕ → ℤ
buys k s (bid key points price) w = of_key k key w
buys k s (offer n points) w = pos 0
buys k s (conversion parts) w = pos 0

abbrev pub converts : Key → State → Body → ℕ → ℤ
converts k s (bid key points price) w = pos 0
converts k s (offer n points) w = pos 0
converts k s (conversion parts) w = cond (w == 0) (pos 0) (sum_z (λ l. of_key k l.key l.megawatts) parts)

abbrev pub sells : Key → State → Body → ℕ → ℤ
sells k s (bid key points price) w = pos 0
sells k s (offer n points) w = of_key k (right_at n s.rights).key w
sells k s (conversion parts) w = pos 0

-- what a call clears, by one of the three measures: only an approved award clears anything
abbrev pub clears : (State → Body → ℕ → ℤ) → State → Call → ℤ
clears f s (posting c n) = pos 0
clears f s (returning c n) = pos 0
clears f s (charge c n) = pos 0
clears f s (invoice c) = pos 0
clears f s (payment c) = pos 0
clears f s (opening p) = pos 0
clears f s (submission w c lines) = pos 0
clears f s (conversion_of w c lines) = pos 0
clears f s (closing w) = pos 0
clears f s (award w i q x) = cond (approved (grounds s (award w i q x))) (f s (item_at i s.items).body q) (pos 0)
clears f s (ending w) = pos 0
clears f s (transfer seller buyer i q) = pos 0
clears f s month_turn = pos 0
clears f s (new_book p) = pos 0

-- summed over the calls, each with the state before it
abbrev pub along : (State → Call → ℤ) → State → List Call → ℤ
along f s [] = pos 0
along f s (call ∷ calls) = f s call +ℤ along f (step s call).1 calls

abbrev pub bought_of : Key → Prices → List Call → ℤ
bought_of k p calls = along (clears (buys k)) (new p) calls

abbrev pub converted_of : Key → Prices → List Call → ℤ
converted_of k p calls = along (clears (converts k)) (new p) calls

abbrev pub sold_of : Key → Prices → List Call → ℤ
sold_of k p calls = along (clears (sells k)) (new p) calls
