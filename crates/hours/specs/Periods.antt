-- Which periods, classes and years there are.
use Rattle.std.specs.Prelude.{ℕ, ◌+◌, Bool, ◌&&◌, ◌||◌, ◌==◌, nat_le}
use Rattle.hours.specs.declared.period.Period.{Period}
use Rattle.hours.specs.declared.period.Slot.{Slot}

-- 1, 2, 3, 4, 6 or 12 months, from month 1 to month 12
abbrev pub lawful_period : Period → Bool
lawful_period p =
    (p.months == 1 || (p.months == 2 || (p.months == 3 || (p.months == 4 || (p.months == 6 || p.months == 12)))))
    && (nat_le 1 p.first && nat_le (p.first + p.months) 13)

-- 0 is on-peak, 1 is off-peak
abbrev pub lawful_class : ℕ → Bool
lawful_class c = nat_le c 1

abbrev pub lawful_slot : Slot → Bool
lawful_slot s = lawful_period s.period && lawful_class s.class

-- 0 is the recent year, 1 the distant one, 2 what lies ahead
abbrev pub lawful_year : ℕ → Bool
lawful_year y = nat_le y 2

-- only the recent and the distant year have prices
abbrev pub past_year : ℕ → Bool
past_year y = nat_le y 1

abbrev pub same_slot : Slot → Slot → Bool
same_slot a b = a.period.first == b.period.first && (a.period.months == b.period.months && a.class == b.class)
