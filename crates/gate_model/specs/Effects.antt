-- What each call does to the gate, once approved.
use Rattle.std.specs.Prelude.{ℕ, ◌+◌, ◌-◌, Bool, cond, ◌&&◌, List, [], ◌∷◌, ◌++◌, map, length, ℤ, pos, ◌+ℤ◌, ◌-ℤ◌, ◌*ℤ◌, neg_ℤ, Ok, Err, fold, filter, Result, ◌==◌, nat_le, nat_lt}
use Rattle.gate_model.specs.Money.{max0}
use Rattle.gate_model.specs.Measures.{Prices, unfinished}
use Rattle.gate_model.specs.Curves.{bid_requirement, offer_requirement, conversion_requirement, greatest_cost, greatest_loss}
use Rattle.gate_model.specs.State.{Account, Body, bid, offer, conversion, Item, State, replaced, right_at, right_numbered, item_at, item_numbered}
use Rattle.gate_model.specs.Requirement.{monthly}
use Rattle.hours.specs.declared.period.Period.{Period}
use Rattle.hours.specs.declared.fault.Fault.{Fault}
use Rattle.books.specs.declared.key.Key.{Key}
use Rattle.gate_model.specs.declared.point.Point.{Point}
use Rattle.gate_model.specs.declared.conversion.Part.{Part}
use Rattle.gate_model.specs.declared.right.Right.{Right}
use Rattle.gate_model.specs.declared.phase.Phase.{Phase}
use Rattle.gate_model.specs.declared.phase.Phase.TheVariants.{Idle}
use Rattle.gate_model.specs.declared.conversion.Request.{Request}
use Rattle.books.specs.declared.key.Path.{Path}

-- one account changed, the others as they were
abbrev pub changed : (ℕ → Account) → ℕ → (Account → Account) → ℕ → Account
changed accounts c change k = cond (c == k) (change (accounts k)) (accounts k)

abbrev pub with_account : State → ℕ → (Account → Account) → State
with_account s c change = record { prices = s.prices; month = s.month; phase = s.phase; auctions = s.auctions; given = s.given; accounts = changed s.accounts c change; rights = s.rights; items = s.items }

abbrev pub with_rights : State → ℕ → List Right → State
with_rights s given rights = record { prices = s.prices; month = s.month; phase = s.phase; auctions = s.auctions; given = given; accounts = s.accounts; rights = rights; items = s.items }

abbrev pub with_items : State → List Item → State
with_items s items = record { prices = s.prices; month = s.month; phase = s.phase; auctions = s.auctions; given = s.given; accounts = s.accounts; rights = s.rights; items = items }

abbrev pub with_phase : State → Phase → ℕ → State
with_phase s phase auctions = record { prices = s.prices; month = s.month; phase = phase; auctions = auctions; given = s.given; accounts = s.accounts; rights = s.rights; items = s.items }

abbrev pub secured : ℕ → Account → Account
secured h a = record { security = h; costs = a.costs; invoiced = a.invoiced; calculated = a.calculated; standing = a.standing }

abbrev pub charged : ℤ → ℤ → Account → Account
charged invoiced calculated a = record { security = a.security; costs = a.costs; invoiced = invoiced; calculated = calculated; standing = a.standing }

-- the standing sum more by z
abbrev pub drawn : ℤ → Account → Account
drawn z a = record { security = a.security; costs = a.costs; invoiced = a.invoiced; calculated = a.calculated; standing = a.standing +ℤ z }

-- each month of a period more by z
abbrev pub bears : Period → ℕ → Bool
bears p m = nat_le p.first m && nat_lt m (p.first + p.months)

abbrev pub spread : Period → ℤ → (ℕ → ℤ) → ℕ → ℤ
spread p z costs m = costs m +ℤ cond (bears p m) z (pos 0)

abbrev pub costed : Period → ℤ → Account → Account
costed p z a = record { security = a.security; costs = spread p z a.costs; invoiced = a.invoiced; calculated = a.calculated; standing = a.standing }

-- one more standing item
abbrev pub stands_too : State → Item → State
stands_too s i = with_items (with_account s i.owner (drawn i.requirement)) (s.items ++ i ∷ [])

-- a line of a submission
pub data Line : Type 0 where
  bid_line : Path → ℕ → List Point → Line
  offer_line : ℕ → List Point → Line

abbrev pub price_or_zero : Result ℤ Fault → ℤ
price_or_zero (Ok r) = r
price_or_zero (Err f) = pos 0

abbrev pub bid_item : ℕ → ℕ → Key → List Point → ℤ → Item
bid_item number c key points r = record { number = number; owner = c; requirement = bid_requirement r points; greatest = greatest_cost points; body = bid key points r }

abbrev pub offer_item : ℕ → ℕ → ℕ → Right → List Point → Item
offer_item number c k r points = record { number = number; owner = c; requirement = offer_requirement r.price r.original points; greatest = greatest_loss r.original points; body = offer k points }

abbrev pub line_key : Period → Path → ℕ → Key
line_key p path class = record { path = path; slot = record { period = p; class = class } }

-- items number from 1: none leaves before the window closes
abbrev pub item_of : State → ℕ → Period → Line → Item
item_of s c p (bid_line path class points) = bid_item (length s.items + 1) c (line_key p path class) points (price_or_zero (s.prices (line_key p path class)))
item_of s c p (offer_line k points) = offer_item (length s.items + 1) c k (right_at k s.rights) points

abbrev pub stand : ℕ → Period → State → Line → State
stand c p s l = stands_too s (item_of s c p l)

-- the lines of a submission stand one after the other
abbrev pub submitted : State → ℕ → Period → List Line → State
submitted s c p lines = fold (stand c p) s lines

abbrev pub part_of : State → Period → Request → Part
part_of s p l = record { key = line_key p l.path l.class; megawatts = l.megawatts; price = price_or_zero (s.prices (line_key p l.path l.class)) }

abbrev pub conversion_item : ℕ → ℕ → List Part → Item
conversion_item number c parts = record { number = number; owner = c; requirement = conversion_requirement parts; greatest = pos 0; body = conversion parts }

abbrev pub converting : State → ℕ → Period → List Request → State
converting s c p lines = stands_too s (conversion_item (length s.items + 1) c (map (part_of s p) lines))

-- w megawatts less of a right; none left, and it is gone
abbrev pub less : ℕ → Right → Right
less w r = record { number = r.number; owner = r.owner; key = r.key; megawatts = r.megawatts - w; price = r.price; original = r.original }

abbrev pub rest : ℕ → Right → List Right
rest w r = cond (nat_lt w r.megawatts) (less w r ∷ []) []

abbrev pub lessened : ℕ → ℕ → List Right → List Right
lessened k w rights = replaced (right_numbered k) (rest w) rights

abbrev pub right_for : ℕ → ℕ → Key → ℕ → ℤ → ℤ → Right
right_for number c key q price original = record { number = number; owner = c; key = key; megawatts = q; price = price; original = original }

-- the item k is done: it stands no more, and the standing sum is less by what it required
abbrev pub settled : State → ℕ → State
settled s k = with_items (with_account s (item_at k s.items).owner (drawn (neg_ℤ (item_at k s.items).requirement))) (replaced (item_numbered k) (λ _. []) s.items)

-- w at the price x on a bid: a new right, and its months bear what it cost
abbrev pub bought : State → ℕ → Key → ℤ → ℕ → ℤ → State
bought s c key price w x = with_rights (with_account s c (costed key.slot.period (monthly key.slot.period (pos w *ℤ max0 x)))) (s.given + 1) (s.rights ++ right_for (s.given + 1) c key w price x ∷ [])

-- w at the price x on an offer: the right loses w, and its months lose what that part cost, and bear the loss
abbrev pub sale_cost : ℤ → ℕ → ℤ → ℤ
sale_cost a w x = pos w *ℤ (max0 (a -ℤ x) -ℤ max0 a)

abbrev pub sold : State → ℕ → ℕ → ℕ → ℤ → State
sold s c k w x = with_rights (with_account s c (costed (right_at k s.rights).key.slot.period (monthly (right_at k s.rights).key.slot.period (sale_cost (right_at k s.rights).original w x)))) s.given (lessened k w s.rights)

-- rights in line order, with the original price 0
abbrev pub rights_of : ℕ → ℕ → List Part → List Right
rights_of given c [] = []
rights_of given c (l ∷ ls) = right_for (given + 1) c l.key l.megawatts l.price (pos 0) ∷ rights_of (given + 1) c ls

abbrev pub converted : State → ℕ → List Part → State
converted s c parts = with_rights s (s.given + length parts) (s.rights ++ rights_of s.given c parts)

abbrev pub cleared : State → ℕ → Body → ℕ → ℤ → State
cleared s c (bid key points price) w x = bought s c key price w x
cleared s c (offer k points) w x = sold s c k w x
cleared s c (conversion parts) w x = converted s c parts

-- an award of w at x on the item k: zero makes no right and changes no cost
abbrev pub awarded : State → ℕ → ℕ → ℤ → State
awarded s k w x = cond (w == 0) (settled s k) (cleared (settled s k) (item_at k s.items).owner (item_at k s.items).body w x)

-- q of the right k go to the buyer; the cost stays with the seller
abbrev pub transferred : State → ℕ → ℕ → ℕ → State
transferred s buyer k q = with_rights s (s.given + 1) (lessened k q s.rights ++ right_for (s.given + 1) buyer (right_at k s.rights).key q (right_at k s.rights).price (pos 0) ∷ [])

-- the month's cost becomes a calculated charge
abbrev pub month_charged : ℕ → Account → Account
month_charged o a = record { security = a.security; costs = λ m. cond (m == o) (pos 0) (a.costs m); invoiced = a.invoiced; calculated = a.calculated +ℤ a.costs o; standing = a.standing }

abbrev pub turned : State → State
turned s = record { prices = s.prices; month = s.month + 1; phase = s.phase; auctions = s.auctions; given = s.given; accounts = λ c. month_charged s.month (s.accounts c); rights = filter (λ r. unfinished (s.month + 1) r.key.slot.period) s.rights; items = s.items }

-- each right gets the new book's price
abbrev pub repriced : Prices → Right → Right
repriced p r = record { number = r.number; owner = r.owner; key = r.key; megawatts = r.megawatts; price = price_or_zero (p r.key); original = r.original }

abbrev pub rebooked : State → Prices → State
rebooked s p = record { prices = p; month = s.month; phase = s.phase; auctions = s.auctions; given = s.given; accounts = s.accounts; rights = map (repriced p) s.rights; items = s.items }

-- what stands is dropped
abbrev pub unstood : Account → Account
unstood a = record { security = a.security; costs = a.costs; invoiced = a.invoiced; calculated = a.calculated; standing = pos 0 }

abbrev pub ended : State → State
ended s = record { prices = s.prices; month = s.month; phase = Idle; auctions = s.auctions; given = s.given; accounts = λ c. unstood (s.accounts c); rights = s.rights; items = [] }
