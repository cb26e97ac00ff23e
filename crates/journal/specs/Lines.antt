-- What the words of a line say together. Assumes nothing.
use Rattle.std.specs.Prelude.{ℕ, cond, List, [], ◌∷◌, length, drop, ℤ, Some, None, vec_items, Option, ◌==◌}
use Rattle.books.specs.declared.key.Key.{Key}
use Rattle.hours.specs.declared.period.Slot.{Slot}
use Rattle.journal.specs.declared.line.Plain.{Plain}
use Rattle.journal.specs.declared.line.Plain.TheVariants as says
use Rattle.journal.specs.declared.line.Said.{Said}
use Rattle.journal.specs.declared.line.Said.TheVariants as said
use Rattle.journal.specs.declared.word.Verb.{Verb}
use Rattle.journal.specs.declared.word.Verb.TheVariants as verbs
use Rattle.journal.specs.declared.word.Word.{Word}
use Rattle.journal.specs.declared.word.Word.TheVariants.{Verb as a_verb, Semicolon, Number, Other}
use Rattle.journal.specs.Words.{at, byte_of, count_of, cents_of, hour_of, omap, or_else}

abbrev pub obind : {A B : Type 0} → Option A → (A → Option B) → Option B
obind None f = None
obind (Some x) f = f x

-- what exactly n words say
abbrev pub long : {A : Type 0} → ℕ → List Word → Option A → Option A
long n ws o = cond (length ws == n) o None

-- FIRST MONTHS CLASS
abbrev pub slot_of : List Word → Option Slot
slot_of ws =
    obind (byte_of (at ws 0)) (λ first. obind (byte_of (at ws 1)) (λ months. obind (byte_of (at ws 2)) (λ class.
    Some (record { period = record { first = first; months = months }; class = class }))))

-- SOURCE SINK FIRST MONTHS CLASS
abbrev pub key_of : List Word → Option Key
key_of ws =
    obind (byte_of (at ws 0)) (λ source. obind (byte_of (at ws 1)) (λ sink. obind (slot_of (drop 2 ws)) (λ slot.
    Some (record { path = record { source = source; sink = sink }; slot = slot }))))

-- row SOURCE SINK FIRST MONTHS CLASS PRICE
abbrev pub row_line : List Word → Option Plain
row_line ws = long 7 ws (obind (key_of (drop 1 ws)) (λ key. obind (cents_of (at ws 6)) (λ price. Some (says.Row (record { key = key; price = price })))))

-- count FIRST MONTHS CLASS RECENT DISTANT AHEAD
abbrev pub count_line : List Word → Option Plain
count_line ws =
    long 7 ws
    (obind (slot_of (drop 1 ws)) (λ slot. obind (count_of (at ws 4)) (λ recent. obind (count_of (at ws 5)) (λ distant. obind (count_of (at ws 6)) (λ ahead.
    Some (says.Count (record { slot = slot; counts = record { recent = recent; distant = distant; ahead = ahead } })))))))

-- mean LOCATION FIRST MONTHS CLASS YEAR MCC
abbrev pub mean_line : List Word → Option Plain
mean_line ws =
    long 7 ws
    (obind (byte_of (at ws 1)) (λ location. obind (slot_of (drop 2 ws)) (λ slot. obind (byte_of (at ws 5)) (λ year. obind (cents_of (at ws 6)) (λ mcc.
    Some (says.Mean (record { series = record { location = location; slot = slot; year = year }; mcc = mcc })))))))

-- band LOW HIGH
abbrev pub band_line : List Word → Option Plain
band_line ws = long 3 ws (obind (cents_of (at ws 1)) (λ low. obind (cents_of (at ws 2)) (λ high. Some (says.Band (record { low = low; high = high })))))

-- price SOURCE SINK FIRST MONTHS CLASS
abbrev pub price_line : List Word → Option Plain
price_line ws = long 6 ws (obind (key_of (drop 1 ws)) (λ key. Some (says.Price key)))

-- a verb alone
abbrev pub alone_line : List Word → Plain → Option Plain
alone_line ws p = long 1 ws (Some p)

-- the lines that have a fixed number of words
abbrev pub plain_line : Verb → List Word → Option Plain
plain_line verbs.Posted ws = alone_line ws says.Posted
plain_line verbs.Row ws = row_line ws
plain_line verbs.Average ws = alone_line ws says.Average
plain_line verbs.Count ws = count_line ws
plain_line verbs.Mean ws = mean_line ws
plain_line verbs.Recorded ws = alone_line ws says.Recorded
plain_line verbs.Numbers ws = None
plain_line verbs.Proxy ws = alone_line ws says.Proxy
plain_line verbs.History ws = alone_line ws says.History
plain_line verbs.Band ws = band_line ws
plain_line verbs.Seat ws = alone_line ws says.Seat
plain_line verbs.Price ws = price_line ws

abbrev pub consed : {A : Type 0} → A → Option (List A) → Option (List A)
consed x None = None
consed x (Some xs) = Some (x ∷ xs)

-- all words as numbers, or none of them
abbrev pub numbers_of : List Word → Option (List ℤ)
numbers_of [] = Some []
numbers_of (w ∷ ws) = obind (hour_of w) (λ z. consed z (numbers_of ws))

-- what a line says, with lists in place of vectors
pub data Meant : Type 0 where
  plain : Plain → Meant
  numbers : List ℤ → Meant
  unreadable : Meant

abbrev pub said_of : Option Said → Meant
said_of (Some (said.Plain p)) = plain p
said_of (Some (said.Numbers v)) = numbers (vec_items v)
said_of None = unreadable

-- numbers N N N ..
abbrev pub numbers_line : List Word → Option Meant
numbers_line ws = omap (λ zs. numbers zs) (numbers_of (drop 1 ws))

abbrev pub verb_line : Verb → List Word → Option Meant
verb_line verbs.Posted ws = omap (λ p. plain p) (plain_line verbs.Posted ws)
verb_line verbs.Row ws = omap (λ p. plain p) (plain_line verbs.Row ws)
verb_line verbs.Average ws = omap (λ p. plain p) (plain_line verbs.Average ws)
verb_line verbs.Count ws = omap (λ p. plain p) (plain_line verbs.Count ws)
verb_line verbs.Mean ws = omap (λ p. plain p) (plain_line verbs.Mean ws)
verb_line verbs.Recorded ws = omap (λ p. plain p) (plain_line verbs.Recorded ws)
verb_line verbs.Numbers ws = numbers_line ws
verb_line verbs.Proxy ws = omap (λ p. plain p) (plain_line verbs.Proxy ws)
verb_line verbs.History ws = omap (λ p. plain p) (plain_line verbs.History ws)
verb_line verbs.Band ws = omap (λ p. plain p) (plain_line verbs.Band ws)
verb_line verbs.Seat ws = omap (λ p. plain p) (plain_line verbs.Seat ws)
verb_line verbs.Price ws = omap (λ p. plain p) (plain_line verbs.Price ws)

-- the first word has to be a verb
abbrev pub call_by : Word → List Word → Option Meant
call_by (a_verb v) ws = verb_line v ws
call_by Semicolon ws = None
call_by (Number m n) ws = None
call_by Other ws = None

abbrev pub call_line : List Word → Option Meant
call_line ws = call_by (at ws 0) ws

-- what words say together; whatever else they are, they cannot be read
abbrev pub line_of : List Word → Meant
line_of ws = or_else (call_line ws) unreadable
