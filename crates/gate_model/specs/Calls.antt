-- The gate's calls.
use Rattle.std.specs.Prelude.{ℕ, List, ℤ}
use Rattle.gate_model.specs.Measures.{Prices}
use Rattle.gate_model.specs.Effects.{Line}
use Rattle.hours.specs.declared.period.Period.{Period}
use Rattle.gate_model.specs.declared.conversion.Request.{Request}
use Rattle.gate_model.specs.declared.phase.Window.{Window}

pub data Call : Type 0 where
  posting : (customer : ℕ) → (cents : ℤ) → Call
  returning : (customer : ℕ) → (cents : ℤ) → Call
  charge : (customer : ℕ) → (amount : ℤ) → Call
  invoice : (customer : ℕ) → Call
  payment : (customer : ℕ) → Call
  opening : Period → Call
  submission : Window → (customer : ℕ) → List Line → Call
  conversion_of : Window → (customer : ℕ) → List Request → Call
  closing : Window → Call
  award : Window → (item : ℕ) → (w : ℕ) → (price : ℤ) → Call
  ending : Window → Call
  transfer : (seller : ℕ) → (buyer : ℕ) → (right : ℕ) → (q : ℕ) → Call
  month_turn : Call
  new_book : Prices → Call
