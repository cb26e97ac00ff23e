-- What it means that a table of grounds is passed.
use Rattle.std.proofs.lemmas.Bool.Decides.{nat_tests}
use Rattle.std.proofs.Common.{arith}
use Rattle.std.proofs.lemmas.Int.{ints}
use Rattle.std.proofs.Common.{◌≡◌, ℕ, suc, Bool, true, false, cond, not, List, [], ◌∷◌, ℤ, Some, None, Ok, Option, Result, refl}
use Rattle.std.specs.List.{AllByRecursion}
use Rattle.std.proofs.lemmas.Bool.{not-false}
use Rattle.gate_model.specs.State.{State}
use Rattle.gate_model.specs.Effects.{Line, price_or_zero}
use Rattle.gate_model.specs.Grounds.{met_at, approved, at_call, at_line, at_standing, at_price}
use Rattle.gate_model.specs.Run.{decided}
use Rattle.hours.specs.declared.fault.Fault.{Fault}
use Rattle.gate_model.specs.declared.refusal.Met.{Met}
use Rattle.gate_model.specs.declared.refusal.Ground.{Ground}
use Rattle.gate_model.specs.declared.outcome.Outcome.{Outcome}

abbrev pub Unmet : Ground × Option Met → Type 0
Unmet g = g.1 ≡ None

-- what holds of the gate before, and of what the call leaves where no ground is met, holds after the call
pub decided_keeps : (P : State → Bool → Type 0) (gs : List (Ground × Option Met)) (s : State) (r : Outcome × State) → P s false → (AllByRecursion Unmet gs → P r.1 true) → P (decided gs s r).1 (approved gs)
decided_keeps P [] s r h f = f tt
decided_keeps P (g ∷ gs) s r h f =
    let i = decided_keeps P gs s r h in
    grind (arith, ints, nat_tests)

-- a line that meets its test is met, whatever comes after it
pub none_met : {X : Type 0} (t : Bool) (x : X) (after : Option X) → cond t (Some x) after ≡ None → (t ≡ false) × (after ≡ None)
none_met true x after e = cc
none_met false x after e = (refl, e)

pub call_passed : (t : Bool) → at_call t ≡ None → t ≡ false
call_passed t e = (none_met t (met_at 0) None e).0

pub not_passed : (t : Bool) → at_call (not t) ≡ None → t ≡ true
not_passed t e = not-false t (call_passed (not t) e)

pub lines_passed : {X : Type 0} (f : X → Bool) (i : ℕ) (ls : List X) → at_line (λ _ l. f l) i ls ≡ None → AllByRecursion (λ l. f l ≡ false) ls
lines_passed f i [] e = tt
lines_passed f i (l ∷ ls) e =
    let u = none_met (f l) (met_at i) _ e in
    (u.0, lines_passed f (suc i) ls u.1)

-- each line passes, where the lines before it stand already
abbrev pub Passes : (State → Line → State) → (State → Line → Bool) → State → List Line → Type 0
Passes stands test s [] = Unit {0}
Passes stands test s (l ∷ ls) = (test s l ≡ false) × Passes stands test (stands s l) ls

pub standing_passed : (stands : State → Line → State) (test : State → Line → Bool) (i : ℕ) (s : State) (ls : List Line) → at_standing stands test i s ls ≡ None → Passes stands test s ls
standing_passed stands test i s [] e = tt
standing_passed stands test i s (l ∷ ls) e =
    let u = none_met (test s l) (met_at i) _ e in
    (u.0, standing_passed stands test (suc i) (stands s l) ls u.1)

pub prices_passed : {X : Type 0} (asked : X → Result ℤ Fault) (line_of : ℕ → X → ℕ) (i : ℕ) (ls : List X) → at_price asked line_of i ls ≡ None → AllByRecursion (λ l. asked l ≡ Ok (price_or_zero (asked l))) ls
prices_passed asked line_of i [] e = tt
prices_passed asked line_of i (l ∷ ls) e =
    let r = prices_passed asked line_of (suc i) ls in
    grind (arith, ints, nat_tests)
