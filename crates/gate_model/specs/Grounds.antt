-- When a call is turned down: for each call the grounds in the order of their numbers, each with the line at which it is first met.
use Rattle.std.specs.Prelude.{ℕ, suc, ◌+◌, ◌^◌, Bool, true, false, cond, not, ◌&&◌, ◌||◌, List, [], ◌∷◌, length, take, ℤ, pos, ◌+ℤ◌, neg_ℤ, Option, Some, None, Ok, Err, sum_by, Result, ◌==◌, int_le, int_lt, nat_le, nat_lt, unsigned_abs}
use Rattle.gate_model.specs.Sums.{sum_z}
use Rattle.gate_model.specs.Measures.{Prices, lawful_megawatts, lawful_price, customer, same_period}
use Rattle.gate_model.specs.Curves.{lawful_bid, lawful_offer, top, in_block}
use Rattle.gate_model.specs.State.{Body, bid, offer, conversion, Item, State, any, right_at, right_numbered, item_at, item_numbered}
use Rattle.gate_model.specs.Requirement.{mine, unsettled, above, committed}
use Rattle.gate_model.specs.Effects.{Line, bid_line, offer_line, line_key, stand, converting, transferred, secured, with_account}
use Rattle.gate_model.specs.Calls.{Call, posting, returning, charge, invoice, payment, opening, submission, conversion_of, closing, award, ending, transfer, month_turn, new_book}
use Rattle.hours.specs.declared.period.Period.{Period}
use Rattle.hours.specs.declared.fault.Fault.{Fault}
use Rattle.gate_model.specs.declared.conversion.Request.{Request}
use Rattle.gate_model.specs.declared.right.Right.{Right}
use Rattle.gate_model.specs.declared.phase.Phase.{Phase}
use Rattle.gate_model.specs.declared.phase.Window.{Window}
use Rattle.gate_model.specs.declared.phase.Phase.TheVariants.{Idle, Open, Closed}
use Rattle.books.specs.Keys.{lawful_path}
use Rattle.hours.specs.Periods.{lawful_class, lawful_period}
use Rattle.hours.specs.Bounds.{within}
use Rattle.gate_model.specs.declared.refusal.Met.{Met}
use Rattle.gate_model.specs.declared.refusal.Ground.{Ground}
use Rattle.gate_model.specs.declared.refusal.Ground.TheVariants.{UnknownCustomer, AmountOutOfBounds, WrongPhase, UnlawfulPeriod, LineCount, UnlawfulLine, NotTheirRight, NotFree, NoRoom, NoPrice, CostTooLarge, AboveSecurity, UnlawfulAward}

abbrev pub met_at : ℕ → Met
met_at i = record { line = i; fault = None }

-- met by the call as a whole
abbrev pub at_call : Bool → Option Met
at_call t = cond t (Some (met_at 0)) None

-- the first line that meets the test; i is the number of the line
abbrev pub at_line : {X : Type 0} → (ℕ → X → Bool) → ℕ → List X → Option Met
at_line test i [] = None
at_line test i (l ∷ ls) = cond (test i l) (Some (met_at i)) (at_line test (suc i) ls)

-- the first line that meets the test, where the lines before it stand already in s
abbrev pub at_standing : (State → Line → State) → (State → Line → Bool) → ℕ → State → List Line → Option Met
at_standing stands test i s [] = None
at_standing stands test i s (l ∷ ls) = cond (test s l) (Some (met_at i)) (at_standing stands test (suc i) (stands s l) ls)

abbrev pub unless_priced : Result ℤ Fault → ℕ → Option Met → Option Met
unless_priced (Ok r) line m = m
unless_priced (Err f) line m = Some (record { line = line; fault = Some f })

-- the first line whose key has no price
abbrev pub at_price : {X : Type 0} → (X → Result ℤ Fault) → (ℕ → X → ℕ) → ℕ → List X → Option Met
at_price asked line_of i [] = None
at_price asked line_of i (l ∷ ls) = unless_priced (asked l) (line_of i l) (at_price asked line_of (suc i) ls)

-- 3
abbrev pub same_window : Window → Window → Bool
same_window v w = v.auction == w.auction && same_period v.period w.period

abbrev pub shows_open : Phase → Window → Bool
shows_open Idle w = false
shows_open (Open v) w = same_window v w
shows_open (Closed v) w = false

abbrev pub shows_closed : Phase → Window → Bool
shows_closed Idle w = false
shows_closed (Open v) w = false
shows_closed (Closed v) w = same_window v w

abbrev pub is_idle : Phase → Bool
is_idle Idle = true
is_idle (Open v) = false
is_idle (Closed v) = false

-- 5
abbrev pub lawful_count : ℕ → Bool
lawful_count n = nat_le 1 n && nat_le n 16

-- 6
abbrev pub lawful_line : Line → Bool
lawful_line (bid_line path class points) = lawful_path path && (lawful_class class && lawful_bid points)
lawful_line (offer_line k points) = lawful_offer points

abbrev pub lawful_request : Request → Bool
lawful_request l = lawful_path l.path && (lawful_class l.class && lawful_megawatts l.megawatts)

-- 7
abbrev pub has_right : List Right → ℕ → ℕ → Bool
has_right rights c k = any (right_numbered k) rights && (right_at k rights).owner == c

abbrev pub owns : ℕ → List Right → Line → Bool
owns c rights (bid_line path class points) = true
owns c rights (offer_line k points) = has_right rights c k

-- 8: q more than what is committed already fit into the right
abbrev pub uncommitted : State → ℕ → ℕ → Bool
uncommitted s k q = int_le (committed k s.items +ℤ pos q) (pos (right_at k s.rights).megawatts)

abbrev pub free : Period → State → Line → Bool
free p s (bid_line path class points) = true
free p s (offer_line k points) = same_period (right_at k s.rights).key.slot.period p && uncommitted s k (top 0 points)

-- 9
abbrev pub lines_of : Body → ℕ
lines_of (bid key points price) = 1
lines_of (offer k points) = 1
lines_of (conversion parts) = length parts

abbrev pub new_of : Body → ℕ
new_of (bid key points price) = 1
new_of (offer k points) = 0
new_of (conversion parts) = length parts

abbrev pub standing_lines : State → ℕ
standing_lines s = sum_by (λ i. lines_of i.body) s.items

abbrev pub standing_new : State → ℕ
standing_new s = sum_by (λ i. new_of i.body) s.items

abbrev pub crowded : State → Bool
crowded s = nat_lt 128 (standing_lines s) || (nat_lt 256 (length s.rights + standing_new s) || nat_lt 1_000_000 (s.given + standing_new s))

-- 10: what a line asks the book; the right of an offer has its price already
abbrev pub asked : Prices → List Right → Period → Line → Result ℤ Fault
asked prices rights p (bid_line path class points) = prices (line_key p path class)
asked prices rights p (offer_line k points) = Ok (right_at k rights).price

-- 11
abbrev pub costly : State → ℕ → Bool
costly s c = int_lt (pos (10 ^ 16)) (unsettled s.month (s.accounts c) +ℤ sum_z (λ i. mine i.owner c i.greatest) s.items)

-- 13
abbrev pub lawful_on : Body → ℕ → ℤ → Bool
lawful_on (bid key points price) w x = in_block (λ c. int_le x c) w 0 points
lawful_on (offer k points) w x = in_block (λ c. int_le c x) w 0 points
lawful_on (conversion parts) w x = w == sum_by (λ l. l.megawatts) parts

-- a price in bounds, and zero megawatts or some that the item allows at that price
abbrev pub lawful_award : Item → ℕ → ℤ → Bool
lawful_award i w x = lawful_price x && (w == 0 || lawful_on i.body w x)

abbrev pub stands : State → ℕ → Bool
stands s k = any (item_numbered k) s.items

abbrev pub customers : List ℕ
customers = 1 ∷ 2 ∷ 3 ∷ 4 ∷ 5 ∷ 6 ∷ 7 ∷ 8 ∷ 9 ∷ 10 ∷ 11 ∷ 12 ∷ 13 ∷ 14 ∷ 15 ∷ 16 ∷ []

-- the security after an amount of cents came or went
abbrev pub after_cents : State → ℕ → ℤ → ℤ
after_cents s c n = pos (s.accounts c).security +ℤ n

abbrev pub outside : ℤ → Bool
outside h = int_lt h (pos 0) || int_lt (pos (10 ^ 13)) h

abbrev pub cents : ℤ → ℕ
cents z = unsigned_abs z

-- no ground is met
abbrev pub is_unmet : Option Met → Bool
is_unmet None = true
is_unmet (Some met) = false

abbrev pub approved : List (Ground × Option Met) → Bool
approved [] = true
approved (g ∷ gs) = is_unmet g.1 && approved gs

abbrev pub grounds : State → Call → List (Ground × Option Met)
grounds s (posting c n) =
    (UnknownCustomer, at_call (not (customer c)))
    ∷ (AmountOutOfBounds, at_call (int_lt n (pos 1) || outside (after_cents s c n)))
    ∷ []
grounds s (returning c n) =
    (UnknownCustomer, at_call (not (customer c)))
    ∷ (AmountOutOfBounds, at_call (int_lt n (pos 1) || outside (after_cents s c (neg_ℤ n))))
    ∷ (AboveSecurity, at_call (above (with_account s c (secured (cents (after_cents s c (neg_ℤ n))))) c))
    ∷ []
grounds s (charge c n) =
    (UnknownCustomer, at_call (not (customer c)))
    ∷ (AmountOutOfBounds, at_call (not (within (10 ^ 15) n) || not (within (10 ^ 17) ((s.accounts c).calculated +ℤ n))))
    ∷ []
grounds s (invoice c) =
    (UnknownCustomer, at_call (not (customer c)))
    ∷ (AmountOutOfBounds, at_call (not (within (10 ^ 17) ((s.accounts c).invoiced +ℤ (s.accounts c).calculated))))
    ∷ []
grounds s (payment c) =
    (UnknownCustomer, at_call (not (customer c)))
    ∷ []
grounds s (opening p) =
    (WrongPhase, at_call (not (is_idle s.phase)))
    ∷ (UnlawfulPeriod, at_call (not (lawful_period p && nat_le s.month p.first)))
    ∷ (NoRoom, at_call (nat_lt 1_000_000 (s.auctions + 1)))
    ∷ []
grounds s (submission w c lines) =
    (UnknownCustomer, at_call (not (customer c)))
    ∷ (WrongPhase, at_call (not (shows_open s.phase w)))
    ∷ (LineCount, at_call (not (lawful_count (length lines))))
    ∷ (UnlawfulLine, at_line (λ _ l. not (lawful_line l)) 1 lines)
    ∷ (NotTheirRight, at_line (λ _ l. not (owns c s.rights l)) 1 lines)
    ∷ (NotFree, at_standing (stand c w.period) (λ t l. not (free w.period t l)) 1 s lines)
    ∷ (NoRoom, at_standing (stand c w.period) (λ t l. crowded (stand c w.period t l)) 1 s lines)
    ∷ (NoPrice, at_price (asked s.prices s.rights w.period) (λ i _. i) 1 lines)
    ∷ (CostTooLarge, at_standing (stand c w.period) (λ t l. costly (stand c w.period t l) c) 1 s lines)
    ∷ (AboveSecurity, at_standing (stand c w.period) (λ t l. above (stand c w.period t l) c) 1 s lines)
    ∷ []
grounds s (conversion_of w c lines) =
    (UnknownCustomer, at_call (not (customer c)))
    ∷ (WrongPhase, at_call (not (shows_open s.phase w)))
    ∷ (LineCount, at_call (not (lawful_count (length lines))))
    ∷ (UnlawfulLine, at_line (λ _ l. not (lawful_request l)) 1 lines)
    ∷ (NoRoom, at_line (λ i _. crowded (converting s c w.period (take i lines))) 1 lines)
    ∷ (NoPrice, at_price (λ l. s.prices (line_key w.period l.path l.class)) (λ i _. i) 1 lines)
    ∷ (AboveSecurity, at_call (above (converting s c w.period lines) c))
    ∷ []
grounds s (closing w) =
    (WrongPhase, at_call (not (shows_open s.phase w)))
    ∷ []
grounds s (award w k q x) =
    (WrongPhase, at_call (not (shows_closed s.phase w)))
    ∷ (UnlawfulAward, at_call (not (stands s k && lawful_award (item_at k s.items) q x)))
    ∷ []
grounds s (ending w) =
    (WrongPhase, at_call (not (shows_closed s.phase w)))
    ∷ []
grounds s (transfer seller buyer k q) =
    (UnknownCustomer, at_call (not (customer seller) || (not (customer buyer) || seller == buyer)))
    ∷ (UnlawfulLine, at_call (not (lawful_megawatts q)))
    ∷ (NotTheirRight, at_call (not (has_right s.rights seller k)))
    ∷ (NotFree, at_call (not (nat_le s.month (right_at k s.rights).key.slot.period.first && uncommitted s k q)))
    ∷ (NoRoom, at_call (crowded (transferred s buyer k q)))
    ∷ (AboveSecurity, at_line (λ _ c. above (transferred s buyer k q) c) 1 (seller ∷ buyer ∷ []))
    ∷ []
grounds s month_turn =
    (AmountOutOfBounds, at_line (λ _ c. not (within (10 ^ 17) ((s.accounts c).calculated +ℤ (s.accounts c).costs s.month))) 1 customers)
    ∷ (WrongPhase, at_call (not (is_idle s.phase) || s.month == 12))
    ∷ []
grounds s (new_book p) =
    (WrongPhase, at_call (not (is_idle s.phase)))
    ∷ (NoPrice, at_price (λ r. p r.key) (λ _ r. r.number) 1 s.rights)
    ∷ []
