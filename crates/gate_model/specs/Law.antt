-- What holds after any calls whatever.
use Rattle.std.specs.Prelude.{◌≡◌, ℕ, ◌+◌, ◌^◌, ◌<◌, ◌≤◌, Bool, true, false, List, [], ◌∷◌, ◌++◌, length, ℤ, pos, ◌+ℤ◌, ◌-ℤ◌, ◌≤ℤ◌, Ok}
use Rattle.gate_model.specs.Sums.{sum_z}
use Rattle.std.specs.List.{AllByRecursion}
use Rattle.gate_model.specs.Measures.{Prices, lawful_megawatts, unfinished}
use Rattle.gate_model.specs.Curves.{bid_requirement, offer_requirement, conversion_requirement}
use Rattle.gate_model.specs.State.{Account, Body, bid, offer, conversion, State, right_at}
use Rattle.gate_model.specs.Requirement.{Within, required, mine, unsettled}
use Rattle.gate_model.specs.Calls.{Call, posting, returning, charge, invoice, payment, opening, submission, conversion_of, closing, award, ending, transfer, month_turn, new_book}
use Rattle.gate_model.specs.Grounds.{standing_lines, standing_new, customers}
use Rattle.gate_model.specs.Run.{reached}
use Rattle.gate_model.specs.Clearing.{Clears}
use Rattle.gate_model.specs.Conservation.{held, bought_of, converted_of, sold_of}
use Rattle.books.specs.declared.key.Key.{Key}
use Rattle.gate_model.specs.declared.conversion.Part.{Part}
use Rattle.gate_model.specs.declared.right.Right.{Right}
use Rattle.hours.specs.Bounds.{within}

-- the kept price is what the book answers
abbrev pub RightPriced : Prices → Right → Type 0
RightPriced p r = p r.key ≡ Ok r.price

abbrev pub PartPriced : Prices → Part → Type 0
PartPriced p l = p l.key ≡ Ok l.price

abbrev pub BodyPriced : Prices → Body → Type 0
BodyPriced p (bid key points price) = p key ≡ Ok price
BodyPriced p (offer k points) = Unit {0}
BodyPriced p (conversion parts) = AllByRecursion (PartPriced p) parts

-- each right and each standing line keeps the price that the book in force answers; an offer has its right's
pub record PricesAgree (s : State) : Type 0 where
  pub rights : AllByRecursion (RightPriced s.prices) s.rights
  pub lines : AllByRecursion (λ i. BodyPriced s.prices i.body) s.items

-- what the rules require of a standing item, at the kept prices
abbrev pub requirement_of : List Right → Body → ℤ
requirement_of rights (bid key points price) = bid_requirement price points
requirement_of rights (offer k points) = offer_requirement (right_at k rights).price (right_at k rights).original points
requirement_of rights (conversion parts) = conversion_requirement parts

-- each standing item keeps what the rules require of it, and each account the sum of what its customer's items keep
pub record SumsAgree (s : State) : Type 0 where
  pub items : AllByRecursion (λ i. i.requirement ≡ requirement_of s.rights i.body) s.items
  pub accounts : (c : ℕ) → (s.accounts c).standing ≡ required c s.items

-- an account within its limits
pub record Sane (a : Account) : Type 0 where
  pub security : a.security ≤ 10 ^ 13
  pub invoiced : within (10 ^ 17) a.invoiced ≡ true
  pub calculated : within (10 ^ 17) a.calculated ≡ true

-- the tables have room, also for what stands
pub record Roomy (s : State) : Type 0 where
  pub lines : standing_lines s ≤ 128
  pub rights : length s.rights + standing_new s ≤ 256
  pub numbers : s.given + standing_new s ≤ 1_000_000

-- no number twice
abbrev pub Rising : List Right → Type 0
Rising [] = Unit {0}
Rising (r ∷ rs) = AllByRecursion (λ t. r.number < t.number) rs × Rising rs

pub record Numbered (s : State) : Type 0 where
  pub rising : Rising s.rights
  pub given : AllByRecursion (λ r. r.number ≤ s.given) s.rights

-- charges, payments, month turns and new books may take a customer above the security
abbrev pub may_raise : Call → Bool
may_raise (posting c n) = false
may_raise (returning c n) = false
may_raise (charge c n) = true
may_raise (invoice c) = false
may_raise (payment c) = true
may_raise (opening p) = false
may_raise (submission w c lines) = false
may_raise (conversion_of w c lines) = false
may_raise (closing w) = false
may_raise (award w i q x) = false
may_raise (ending w) = false
may_raise (transfer seller buyer i q) = false
may_raise month_turn = true
may_raise (new_book p) = true

-- the limits of the rules
pub record WithinLimits (s : State) : Type 0 where
  pub months : s.month ≤ 12
  pub costs : (c m : ℕ) → s.month ≤ m → pos 0 ≤ℤ (s.accounts c).costs m
  pub cost_limit : (c : ℕ) → (unsettled s.month (s.accounts c) +ℤ sum_z (λ i. mine i.owner c i.greatest) s.items) ≤ℤ pos (10 ^ 16)
  pub accounts : AllByRecursion (λ c. Sane (s.accounts c)) customers
  pub room : Roomy s
  pub megawatts : AllByRecursion (λ r. lawful_megawatts r.megawatts ≡ true) s.rights
  pub numbers : Numbered s

pub record Law (p : Prices) (calls : List Call) : Type 0 where
  pub prices_agree : PricesAgree (reached p calls)
  pub sums_agree : SumsAgree (reached p calls)
  pub within_limits : WithinLimits (reached p calls)
  pub stays_within_at_every_clearing : (c : ℕ) → Within (reached p calls) c → (n : State) → Clears c (reached p calls) n → Within n c
  pub stays_within_at_the_next_call : (c : ℕ) → Within (reached p calls) c → (call : Call) → may_raise call ≡ false → Within (reached p (calls ++ call ∷ [])) c
  pub conserved : (k : Key) → unfinished (reached p calls).month k.slot.period ≡ true
      → held k (reached p calls) ≡ (bought_of k p calls +ℤ converted_of k p calls) -ℤ sold_of k p calls
