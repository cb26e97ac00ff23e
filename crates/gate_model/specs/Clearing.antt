-- Lawful clearings of what a customer has standing.
use Rattle.std.specs.Prelude.{◌≡◌, ℕ, true, ℤ}
use Rattle.gate_model.specs.State.{State, item_at}
use Rattle.gate_model.specs.Effects.{awarded}
use Rattle.gate_model.specs.Grounds.{stands, lawful_award}

-- n comes from s by one lawful award of an item that the customer has standing
pub record LawfulAward (c : ℕ) (s n : State) : Type 0 where
  pub item : ℕ
  pub w : ℕ
  pub price : ℤ
  pub standing : stands s item ≡ true
  pub own : (item_at item s.items).owner ≡ c
  pub lawful : lawful_award (item_at item s.items) w price ≡ true
  pub after : n ≡ awarded s item w price

-- n comes from s by lawful awards one after the other, of any of the customer's items in any order, whatever the phase
pub data Clears (c : ℕ) : State → State → Type 0 where
  cleared_out : {s : State} → Clears c s s
  one_award : {s n o : State} → LawfulAward c s n → Clears c n o → Clears c s o
