-- The bytes between the pieces of a text. Assumes nothing.
use Rattle.std.specs.Prelude.{ℕ, Bool, ◌||◌, ◌==◌}

-- the byte that ends a line
abbrev pub ends_line : ℕ → Bool
ends_line b = b == 10

-- the bytes that part words: blank, tab and carriage return
abbrev pub is_blank : ℕ → Bool
is_blank b = b == 32 || (b == 9 || b == 13)
