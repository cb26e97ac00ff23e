-- What the gate holds: accounts, rights, standing items, the phase.
use Rattle.std.specs.Prelude.{ℕ, Bool, false, cond, ◌||◌, List, [], ◌∷◌, ◌++◌, ℤ, pos, ◌==◌}
use Rattle.gate_model.specs.Measures.{Prices}
use Rattle.hours.specs.declared.period.Period.{Period}
use Rattle.books.specs.declared.key.Key.{Key}
use Rattle.gate_model.specs.declared.point.Point.{Point}
use Rattle.gate_model.specs.declared.conversion.Part.{Part}
use Rattle.gate_model.specs.declared.phase.Phase.TheVariants.{Idle}
use Rattle.gate_model.specs.declared.right.Right.{Right}
use Rattle.gate_model.specs.declared.phase.Phase.{Phase}

-- security in cents; all else in twelfths. standing is the kept sum of what the customer's standing items require
pub record Account : Type 0 where
  pub security : ℕ
  pub costs : ℕ → ℤ
  pub invoiced : ℤ
  pub calculated : ℤ
  pub standing : ℤ

pub data Body : Type 0 where
  bid : Key → List Point → ℤ → Body
  offer : ℕ → List Point → Body
  conversion : List Part → Body

pub record Item : Type 0 where
  pub number : ℕ
  pub owner : ℕ
  pub requirement : ℤ
  pub greatest : ℤ
  pub body : Body

-- month is the open month; auctions and given are the numbers given so far to auctions and to rights
pub record State : Type 0 where
  pub prices : Prices
  pub month : ℕ
  pub phase : Phase
  pub auctions : ℕ
  pub given : ℕ
  pub accounts : ℕ → Account
  pub rights : List Right
  pub items : List Item

-- the first of a list that passes a test, or d where none does
abbrev pub the_first : {X : Type 0} → (X → Bool) → X → List X → X
the_first p d [] = d
the_first p d (x ∷ xs) = cond (p x) x (the_first p d xs)

abbrev pub any : {X : Type 0} → (X → Bool) → List X → Bool
any p [] = false
any p (x ∷ xs) = p x || any p xs

-- the list with what g says in place of the first that passes
abbrev pub replaced : {X : Type 0} → (X → Bool) → (X → List X) → List X → List X
replaced p g [] = []
replaced p g (x ∷ xs) = cond (p x) (g x ++ xs) (x ∷ replaced p g xs)

abbrev pub no_period : Period
no_period = record { first = 0; months = 0 }

abbrev pub no_right : Right
no_right = record { number = 0; owner = 0; key = record { path = record { source = 0; sink = 0 }; slot = record { period = no_period; class = 0 } }; megawatts = 0; price = pos 0; original = pos 0 }

abbrev pub no_item : Item
no_item = record { number = 0; owner = 0; requirement = pos 0; greatest = pos 0; body = conversion [] }

abbrev pub right_numbered : ℕ → Right → Bool
right_numbered k r = r.number == k

abbrev pub right_at : ℕ → List Right → Right
right_at k rights = the_first (right_numbered k) no_right rights

abbrev pub item_numbered : ℕ → Item → Bool
item_numbered k i = i.number == k

abbrev pub item_at : ℕ → List Item → Item
item_at k items = the_first (item_numbered k) no_item items

abbrev pub empty_account : Account
empty_account = record { security = 0; costs = λ _. pos 0; invoiced = pos 0; calculated = pos 0; standing = pos 0 }

-- Idle and empty, all sums zero
abbrev pub new : Prices → State
new p = record { prices = p; month = 1; phase = Idle; auctions = 0; given = 0; accounts = λ _. empty_account; rights = []; items = [] }
