-- What the laws of a source give for a year that is there, and a year written hour by hour.
use Rattle.std.specs.Prelude.{◌≡◌, ℕ, ◌+◌, ◌<◌, ◌≤◌, Bool, true, false, cond, ◌&&◌, List, [], ◌∷◌, ◌++◌, length, get_or, take, drop, set, ℤ, pos, Some, None, Ok, Err, Option, Result, nat_lt, slice_index_or, slice_set, refl}
use Rattle.std.proofs.Common.{sym, ap, subst, ◌∙◌, arith}
use Rattle.std.proofs.lemmas.List.{set_at, take_more, drop_more, append_assoc, length-take-le}
use Rattle.std.proofs.lemmas.Bool.{and_parts, ltb-true, leb-true, le-leb, lt-ltb, le-ltb}
use Rattle.hours.specs.declared.fault.Fault.{Fault}
use Rattle.hours.specs.declared.period.Slot.{Slot}
use Rattle.hours.specs.Faults.{unlawful_question, unknown_location, lacking_year, past_count}
use Rattle.hours.specs.Periods.{lawful_slot, lawful_year, past_year}
use Rattle.hours.specs.Bounds.{Within}
use Rattle.hours.specs.Questions.{counted, present, year_of, hour_of, priced}

-- two answers that cannot be one
pub clash : {T E A : Type 0} (x : T) (e : E) → ◌≡◌ {A = Result T E} (Ok x) (Err e) → A
clash x e h = let z : ◌≡◌ {A = ℕ} 0 1 = cc in absurd (omega arith)

-- a year that is there was asked for lawfully, at a known location, and is the one that the source means
pub record Asked (locations : ℕ) (prices : ℕ → Slot → ℕ → Option (List ℤ)) (l : ℕ) (s : Slot) (y : ℕ) (zs : List ℤ) : Type 0 where
  pub slot : lawful_slot s ≡ true
  pub year : past_year y ≡ true
  pub known : l < locations
  pub there : prices l s y ≡ Some zs

pub asked : (locations : ℕ) (prices : ℕ → Slot → ℕ → Option (List ℤ)) (l : ℕ) (s : Slot) (y : ℕ) (zs : List ℤ) → year_of locations prices l s y ≡ Ok zs → Asked locations prices l s y zs
asked locations prices l s y zs e = lawful (lawful_slot s && past_year y) refl e
  where
    some : (o : Option (List ℤ)) → present o l y ≡ Ok zs → o ≡ Some zs
    some None q = clash zs (lacking_year l y) (sym q)
    some (Some ws) q = cc

    known : (b : Bool) → nat_lt l locations ≡ b → (lawful_slot s && past_year y) ≡ true → cond b (present (prices l s y) l y) (Err (unknown_location l)) ≡ Ok zs → Asked locations prices l s y zs
    known false k a q = clash zs (unknown_location l) (sym q)
    known true k a q = record { slot = (and_parts (lawful_slot s) (past_year y) a).0; year = (and_parts (lawful_slot s) (past_year y) a).1; known = ltb-true l locations k; there = some (prices l s y) q }

    lawful : (b : Bool) → (lawful_slot s && past_year y) ≡ b → cond b (cond (nat_lt l locations) (present (prices l s y) l y) (Err (unknown_location l))) (Err unlawful_question) ≡ Ok zs → Asked locations prices l s y zs
    lawful false k q = clash zs unlawful_question (sym q)
    lawful true k q = known (nat_lt l locations) refl k q

-- where a price may be asked for, hours may be counted
pub counted_past : (hours : Slot → ℕ → ℕ) (s : Slot) (y : ℕ) → lawful_slot s ≡ true → past_year y ≡ true → counted hours s y ≡ Ok (hours s y)
counted_past hours s y a b =
    let c : lawful_year y ≡ true = le-leb y 2 (omega (arith, leb-true y 1 b)) in
    ap (λ (t : Bool). cond (t && lawful_year y) (Ok (hours s y)) (Err unlawful_question)) a ∙ ap (λ (t : Bool). cond t (Ok (hours s y)) (Err unlawful_question)) c

-- a year that is there has hours
pub some_hours_lem : (n : ℕ) (o : Option (List ℤ)) (zs : List ℤ) → (o ≡ Some zs → length zs ≡ n) → (n ≡ 0 → o ≡ None) → o ≡ Some zs → (length zs ≡ n) × (0 < n)
some_hours_lem n o zs whole empty there =
    let long = whole there in
    let ne : n ≡ 0 → ⊥ = λ z. let q = empty z in let w : ◌≡◌ {A = ℕ} 0 1 = cc in omega arith in
    (long, omega (arith, ne))

-- what the laws of a source say of a year that is there: it has hours, as many as are counted
pub year_facts : (locations : ℕ) (hours : Slot → ℕ → ℕ) (prices : ℕ → Slot → ℕ → Option (List ℤ)) →
    ((l : ℕ) (s : Slot) (y : ℕ) (zs : List ℤ) → prices l s y ≡ Some zs → length zs ≡ hours s y) → ((l : ℕ) (s : Slot) (y : ℕ) → hours s y ≡ 0 → prices l s y ≡ None) →
    (l : ℕ) (s : Slot) (y : ℕ) (zs : List ℤ) → year_of locations prices l s y ≡ Ok zs → (length zs ≡ hours s y) × (0 < hours s y) × (counted hours s y ≡ Ok (hours s y))
year_facts locations hours prices whole empty l s y zs e =
    let a = asked locations prices l s y zs e in
    let h = some_hours_lem (hours s y) (prices l s y) zs (whole l s y zs) (empty l s y) a.there in
    (h.0, h.1, counted_past hours s y a.slot a.year)

-- an hour that has a price lies in a year that is there
pub hour_there : (y : Result (List ℤ) Fault) (l year h : ℕ) (z : ℤ) → Ok z ≡ hour_of y l year h → (zs : List ℤ) × (y ≡ Ok zs) × (h < length zs) × (z ≡ slice_index_or zs h (pos 0))
hour_there (Err e) l year h z q = clash z e q
hour_there (Ok zs) l year h z q = go (nat_lt h (length zs)) refl q
  where
    go : (b : Bool) → nat_lt h (length zs) ≡ b → Ok z ≡ cond b (Ok (slice_index_or zs h (pos 0))) (Err (past_count l year)) → (ws : List ℤ) × (◌≡◌ {A = Result (List ℤ) Fault} (Ok zs) (Ok ws)) × (h < length ws) × (z ≡ slice_index_or ws h (pos 0))
    go false k p = clash z (past_count l year) p
    go true k p = (zs, refl, ltb-true h (length zs) k, cc)

pub hour_at : (y : Result (List ℤ) Fault) (zs : List ℤ) (l year h : ℕ) (z : ℤ) → y ≡ Ok zs → Ok z ≡ hour_of y l year h → (h < length zs) × (z ≡ slice_index_or zs h (pos 0))
hour_at y zs l year h z there q =
    let a = hour_there y l year h z q in
    let same : zs ≡ a.0 = let b = a.1 in cc in
    let c = a.2 in
    let d = a.3 in
    (omega (arith, ap length same), d ∙ ap (λ (ws : List ℤ). get_or ws h (pos 0)) (sym same))

-- where the first hour has no price, there is no year, since a year that is there has a first hour
pub first_fault : (y : Result (List ℤ) Fault) (l year : ℕ) (e : Fault) → ((zs : List ℤ) → y ≡ Ok zs → 0 < length zs) → Err e ≡ hour_of y l year 0 → y ≡ Err e
first_fault (Err x) l year e some q = let same : x ≡ e = cc in ap Err same
first_fault (Ok zs) l year e some q = clash (slice_index_or zs 0 (pos 0)) e (sym (q ∙ ap (λ (t : Bool). cond t (Ok (slice_index_or zs 0 (pos 0))) (Err (past_count l year))) (lt-ltb 0 (length zs) (some zs refl))))

-- no hour below the count is without its price
pub no_fault : (y : Result (List ℤ) Fault) (zs : List ℤ) (l year h : ℕ) (e : Fault) {A : Type 0} → y ≡ Ok zs → h < length zs → Err e ≡ hour_of y l year h → A
no_fault y zs l year h e there below q =
    clash (slice_index_or zs h (pos 0)) e (sym (q ∙ ap (λ (r : Result (List ℤ) Fault). hour_of r l year h) there ∙ ap (λ (t : Bool). cond t (Ok (slice_index_or zs h (pos 0))) (Err (past_count l year))) (lt-ltb h (length zs) below)))

-- one price more in the buffer
pub one_more : (zs front buffer : List ℤ) (h : ℕ) (z : ℤ) → h < length zs → h < length front → buffer ≡ take h zs ++ drop h front → z ≡ slice_index_or zs h (pos 0) → slice_set buffer h z ≡ take (h + 1) zs ++ drop (h + 1) front
one_more zs front buffer h z below room same value =
    ap (λ (b : List ℤ). set b h z) same
    ∙ ap (λ (d : List ℤ). set (take h zs ++ d) h z) (drop_more front h (pos 0) room)
    ∙ set_at (take h zs) (slice_index_or front h (pos 0)) (drop (h + 1) front) z h (length-take-le h zs (omega arith))
    ∙ ap (λ (w : ℤ). take h zs ++ w ∷ drop (h + 1) front) value
    ∙ sym (append_assoc (take h zs) (slice_index_or zs h (pos 0) ∷ []) (drop (h + 1) front))
    ∙ ap (λ (t : List ℤ). t ++ drop (h + 1) front) (sym (take_more zs h (pos 0) below))

-- a lawful question at a known location is answered by the location's year
pub asked_well : (locations : ℕ) (prices : ℕ → Slot → ℕ → Option (List ℤ)) (l : ℕ) (s : Slot) (y : ℕ) → true ≡ lawful_slot s → true ≡ past_year y → l < locations → year_of locations prices l s y ≡ present (prices l s y) l y
asked_well locations prices l s y lawful past known =
    ap (λ (b : Bool). cond (b && past_year y) (cond (nat_lt l locations) (present (prices l s y) l y) (Err (unknown_location l))) (Err unlawful_question)) (sym lawful)
    ∙ ap (λ (b : Bool). cond b (cond (nat_lt l locations) (present (prices l s y) l y) (Err (unknown_location l))) (Err unlawful_question)) (sym past)
    ∙ ap (λ (b : Bool). cond b (present (prices l s y) l y) (Err (unknown_location l))) (lt-ltb l locations known)

-- an hour of a year that is there
pub hour_below : (zs : List ℤ) (l y h : ℕ) → h < length zs → hour_of (Ok zs) l y h ≡ Ok (slice_index_or zs h (pos 0))
hour_below zs l y h below = ap (λ (b : Bool). cond b (Ok (slice_index_or zs h (pos 0))) (Err (past_count l y))) (lt-ltb h (length zs) below)

pub hour_past : (zs : List ℤ) (l y h : ℕ) → length zs ≤ h → hour_of (Ok zs) l y h ≡ Err (past_count l y)
hour_past zs l y h past = ap (λ (b : Bool). cond b (Ok (slice_index_or zs h (pos 0))) (Err (past_count l y))) (le-ltb h (length zs) past)

-- a price that is answered is within the bound
pub priced_small : (locations : ℕ) (prices : ℕ → Slot → ℕ → Option (List ℤ)) → ((l : ℕ) (s : Slot) (y : ℕ) (zs : List ℤ) (h : ℕ) → prices l s y ≡ Some zs → Within 200000 (slice_index_or zs h (pos 0))) →
    (l : ℕ) (s : Slot) (y h : ℕ) (z : ℤ) → Ok z ≡ priced locations prices l s y h → Within 200000 z
priced_small locations prices small l s y h z e =
    let a = hour_there (year_of locations prices l s y) l y h z e in
    subst (Within 200000) (sym a.3) (small l s y a.0 h (asked locations prices l s y a.0 a.1).there)
