-- Which paths and keys there are, and when two keys are one.
use Rattle.std.specs.Prelude.{Bool, not, ◌&&◌, ◌==◌, nat_le}
use Rattle.hours.specs.Periods.{lawful_slot, same_slot}
use Rattle.books.specs.declared.key.Key.{Key}
use Rattle.books.specs.declared.key.Path.{Path}

-- two different locations, each 0 to 63
abbrev pub lawful_path : Path → Bool
lawful_path p = nat_le p.source 63 && (nat_le p.sink 63 && not (p.source == p.sink))

-- a lawful path in a lawful slot
abbrev pub lawful_key : Key → Bool
lawful_key k = lawful_path k.path && lawful_slot k.slot

-- the same source, the same sink, the same slot
abbrev pub same_key : Key → Key → Bool
same_key a b = a.path.source == b.path.source && (a.path.sink == b.path.sink && same_slot a.slot b.slot)
