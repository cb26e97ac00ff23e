-- One step after another, as `?` goes.
use Rattle.std.specs.Prelude.{Ok, Err, Result}

-- what f makes of an Ok, or the fault as it is
abbrev pub bind : {A B E : Type 0} → Result A E → (A → Result B E) → Result B E
bind (Ok x) f = f x
bind (Err e) f = Err e

-- that it is Ok, or the fault as it is
abbrev pub done : {A E : Type 0} → Result A E → Result (Unit {0}) E
done (Ok x) = Ok tt
done (Err e) = Err e
