-- Refusals by their numbers.
use Rattle.std.specs.Prelude.{ℕ, Some, None, Ok, Err, Option, Result}
use Rattle.hours.specs.declared.unlawful.Unlawful.{Unlawful}

-- numbers, rows or limits of a source or a book are unlawful
abbrev pub unlawful_number : ℕ
unlawful_number = 14

-- refused at this line, if there is one
abbrev pub as_refusal : Option ℕ → Result Unit Unlawful
as_refusal None = Ok tt
as_refusal (Some line) = Err (record { line = line })
