-- The accounts that a gate keeps, as the accounts of the model.
use Rattle.std.specs.Prelude.{◌≡◌, ℕ, ◌*◌, Bool, List, [], ℤ, pos, ◌+ℤ◌, ◌-ℤ◌, int_lt, slice_index_or}
use Rattle.gate_model.specs.Money.{max0}
use Rattle.gate_model.specs.State.{Account, State}
use Rattle.gate_model.specs.Requirement.{unsettled, values, charges}
use Rattle.gate_tables.specs.declared.account.Account.{Account as Kept}

-- the costs by month
abbrev pub costs_of : List ℤ → ℕ → ℤ
costs_of xs m = slice_index_or xs m (pos 0)

abbrev pub account_of : Kept → Account
account_of a = record { security = a.security; costs = costs_of a.costs; invoiced = a.invoiced; calculated = a.calculated; standing = a.standing }

abbrev pub no_account : Kept
no_account = record { security = 0; costs = []; invoiced = pos 0; calculated = pos 0; standing = pos 0 }

-- the accounts by customer
abbrev pub accounts_of : List Kept → ℕ → Account
accounts_of xs c = account_of (slice_index_or xs c no_account)

-- what an account requires whose customer's rights are worth v
abbrev pub total_of : ℕ → ℤ → Account → ℤ
total_of o v a = max0 ((unsettled o a -ℤ v) +ℤ a.standing) +ℤ charges a

abbrev pub above_of : ℕ → ℤ → Account → Bool
above_of o v a = int_lt (pos (120 * a.security)) (total_of o v a)

-- an account, a month, and what a customer's rights are worth, as they are of the customer c in a state of the model
pub record IsOf (s : State) (c m : ℕ) (v : ℤ) (a : Account) : Type 0 where
  pub month : s.month ≡ m
  pub worth : values s.month c s.rights ≡ v
  pub account : s.accounts c ≡ a
