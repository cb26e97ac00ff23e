-- What a customer's position requires, and the security that it has to be within.
use Rattle.std.specs.Prelude.{ℕ, zero, suc, ◌+◌, ◌-◌, ◌*◌, Bool, cond, List, ℤ, pos, ◌+ℤ◌, ◌-ℤ◌, ◌*ℤ◌, ◌≤ℤ◌, ◌==◌, int_lt, nat_le}
use Rattle.gate_model.specs.Money.{max0, floor_z}
use Rattle.gate_model.specs.Sums.{sum_z}
use Rattle.gate_model.specs.Curves.{top}
use Rattle.gate_model.specs.State.{Account, Item, Body, bid, offer, conversion, State}
use Rattle.hours.specs.declared.period.Period.{Period}
use Rattle.gate_model.specs.declared.right.Right.{Right}

-- z where the owner is c, and else nothing
abbrev pub mine : ℕ → ℕ → ℤ → ℤ
mine owner c z = cond (owner == c) z (pos 0)

-- the sum over n months from the month m on
abbrev pub over : (ℕ → ℤ) → ℕ → ℕ → ℤ
over f m zero = pos 0
over f m (suc n) = f m +ℤ over f (suc m) n

-- the unsettled cost of the months o to 12
abbrev pub unsettled : ℕ → Account → ℤ
unsettled o a = over a.costs o (13 - o)

-- the month's equal part of twelve times z
abbrev pub monthly : Period → ℤ → ℤ
monthly p z = floor_z (pos 12 *ℤ z) p.months

-- how many months of a period are left from the month o on
abbrev pub left : ℕ → Period → ℕ
left o p = cond (nat_le o p.first) p.months (p.first + p.months - o)

-- the month values of a right over the months o to 12
abbrev pub value_left : ℕ → Right → ℤ
value_left o r = pos (left o r.key.slot.period) *ℤ monthly r.key.slot.period (pos r.megawatts *ℤ r.price)

abbrev pub values : ℕ → ℕ → List Right → ℤ
values o c rights = sum_z (λ r. mine r.owner c (value_left o r)) rights

-- R
abbrev pub holding : State → ℕ → ℤ
holding s c = unsettled s.month (s.accounts c) -ℤ values s.month c s.rights

-- what the customer's standing items require, summed; an account keeps this sum
abbrev pub required : ℕ → List Item → ℤ
required c items = sum_z (λ i. mine i.owner c i.requirement) items

-- G
abbrev pub charges : Account → ℤ
charges a = max0 (a.invoiced +ℤ a.calculated)

-- T: a negative holding pays for what stands, and not for charges
abbrev pub total : State → ℕ → ℤ
total s c = max0 (holding s c +ℤ (s.accounts c).standing) +ℤ charges (s.accounts c)

-- the customer is within the security
abbrev pub Within : State → ℕ → Type 0
Within s c = total s c ≤ℤ pos (120 * (s.accounts c).security)

abbrev pub above : State → ℕ → Bool
above s c = int_lt (pos (120 * (s.accounts c).security)) (total s c)

-- the megawatts of the right k that an item commits: the top point of an offer on it
abbrev pub commits_body : ℕ → Body → ℤ
commits_body k (bid key points price) = pos 0
commits_body k (offer right points) = cond (right == k) (pos (top 0 points)) (pos 0)
commits_body k (conversion parts) = pos 0

abbrev pub committed : ℕ → List Item → ℤ
committed k items = sum_z (λ i. commits_body k i.body) items
