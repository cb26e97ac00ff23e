-- Prices by where they stand among all numbers.
use Rattle.std.specs.Prelude.{List, take, drop, ℤ, Ok, Err, Result}
use Rattle.hours.specs.declared.fault.Fault.{Fault}
use Rattle.hours.specs.declared.recorded.span.Span.{Span}

abbrev pub spanned : List ℤ → Result Span Fault → Result (List ℤ) Fault
spanned xs (Err e) = Err e
spanned xs (Ok s) = Ok (take s.hours (drop s.start xs))
