-- Rows that are listed one after the other, and the first of them that is at fault.
use Rattle.std.specs.Prelude.{◌≡◌, ℕ, ◌+◌, Bool, cond, List, [], ◌∷◌, ◌++◌, length, Some, None, Option}
use Rattle.std.specs.Borrow.{Bor}

-- the place, from 1, of the first row that is at fault, by the rows before it
abbrev pub first_at_fault : {R : Type 0} → (List R → R → Bool) → List R → List R → Option ℕ
first_at_fault fault before [] = None
first_at_fault fault before (r ∷ rs) = cond (fault before r) (Some (length before + 1)) (first_at_fault fault (before ++ (r ∷ [])) rs)

-- the same by a test that is only known by its answers: whatever rule they keep to
abbrev pub FirstAtFault : {R : Type 0} → (Bor (List R) → R → Bool → Type 0) → List R → Option ℕ → Type 0
FirstAtFault {R} answers rows place =
    (fault : List R → R → Bool) → ((before : Bor (List R)) (row : R) (b : Bool) → answers before row b → b ≡ fault before.now row) → place ≡ first_at_fault fault [] rows
