-- Sums and means of the prices that several locations have in an hour.
use Rattle.std.specs.Prelude.{◌≡◌, ℕ, zero, suc, ◌+◌, ◌*◌, ◌/◌, ◌<◌, ◌≤◌, Bool, true, false, cond, ◌&&◌, ◌⊎◌, List, map, length, ℤ, pos, negsuc, Some, None, Ok, Err, Option, Result, ◌≢◌, nat_lt, slice_index_or, refl}
use Rattle.std.proofs.Common.{sym, ap, subst, ◌∙◌, inl, inr, div-lt_iff_lt-mul, mul_comm, add-one, arith}
use Rattle.std.proofs.Math.Nat.{div-le_of_le-mul}
use Rattle.std.specs.List.{range_with_len}
use Rattle.std.specs.Int.{int_div_euclid}
use Rattle.std.proofs.lemmas.List.FromFn.{length-map-range_with_len, get_or-map-range_with_len}
use Rattle.std.proofs.lemmas.List.{get_or_past}
use Rattle.std.proofs.lemmas.Int.{ints}
use Rattle.std.proofs.lemmas.Bool.{lt-ltb, le-ltb, ltb-true, cases_lt}
use Rattle.hours.specs.Bounds.{Within}
use Rattle.hours.specs.declared.fault.Fault.{Fault}
use Rattle.hours.specs.declared.period.Slot.{Slot}
use Rattle.hours.specs.declared.fault.Cause.TheVariants.{LackingYear}
use Rattle.hours.specs.Faults.{unlawful_question, unknown_location, lacking_year, past_count}
use Rattle.hours.specs.Periods.{lawful_slot, past_year}
use Rattle.hours.specs.Questions.{present, hour_of, priced}
use Rattle.hours.specs.StandIns.{mean_down, plus_price, plus_one, sum_at, having, mean_at, stand_in, or_stand_in, proxied, plus_answer, plus_answered, sum_of, number_of}
use Rattle.hours.specs.LawfulRows.{not_none}
use Rattle.hours.specs.Years.{asked_well, hour_below, hour_past}

-- Rust's division that rounds down
pub div_is : (s : ℤ) (n : ℕ) → int_div_euclid s (pos n) ≡ mean_down s n
div_is (pos a) n = refl
div_is (negsuc a) n = refl

-- a mean of numbers within b is within b
pub within_mean : (b n : ℕ) (s : ℤ) → 0 < n → Within (b * n) s → Within b (mean_down s n)
within_mean b n (pos a) p h =
    let k : a ≤ b * n = omega (arith, ints, h.1) in
    let q : a / n ≤ b = div-le_of_le-mul n (omega (arith, mul_comm b n)) in
    omega (arith, ints)
within_mean b n (negsuc a) p h =
    let k : a < b * n = omega (arith, ints, h.0) in
    let q : a / n < b = (div-lt_iff_lt-mul p).1 k in
    omega (arith, ints)

-- one location more, by the answers
pub sum_more : (answers : ℕ → Result ℤ Fault) (n : ℕ) (r : Result ℤ Fault) → r ≡ answers n → sum_of answers (n + 1) ≡ plus_answer r (sum_of answers n)
sum_more answers n r e = ap (sum_of answers) (add-one n) ∙ ap (λ (x : Result ℤ Fault). plus_answer x (sum_of answers n)) (sym e)

pub number_more : (answers : ℕ → Result ℤ Fault) (n : ℕ) (r : Result ℤ Fault) → r ≡ answers n → number_of answers (n + 1) ≡ plus_answered r (number_of answers n)
number_more answers n r e = ap (number_of answers) (add-one n) ∙ ap (λ (x : Result ℤ Fault). plus_answered x (number_of answers n)) (sym e)

-- The prices of one year at the locations of a source, of which each has all hours or none.
module _ (years : ℕ → Option (List ℤ)) (count : ℕ) (whole : (l : ℕ) (zs : List ℤ) → years l ≡ Some zs → length zs ≡ count) (small : (l : ℕ) (zs : List ℤ) (h : ℕ) → years l ≡ Some zs → Within 200000 (slice_index_or zs h (pos 0))) where
  -- n prices sum to at most n times the bound
  pub within_sum : (h n : ℕ) → Within (200000 * having years n) (sum_at years h n)
  within_sum h zero = (omega (arith, ints), omega (arith, ints))
  within_sum h (suc n) = more (years n) refl (within_sum h n)
    where
      more : (o : Option (List ℤ)) → years n ≡ o → Within (200000 * having years n) (sum_at years h n) → Within (200000 * plus_one o (having years n)) (plus_price o h (sum_at years h n))
      more None e w = w
      more (Some zs) e w =
          let s = small n zs h e in
          let low = s.0 in
          let high = s.1 in
          (omega (arith, ints), omega (arith, ints))

  -- no location has a year without hours
  pub having_none : ((l : ℕ) → years l ≡ None) → (n : ℕ) → having years n ≡ 0
  having_none none zero = refl
  having_none none (suc n) = ap (λ (o : Option (List ℤ)). plus_one o (having years n)) (none n) ∙ having_none none n

  pub proxied_empty : (n l : ℕ) → ((k : ℕ) → years k ≡ None) → proxied years n count l ≡ None
  proxied_empty n l none =
      ap (λ (o : Option (List ℤ)). or_stand_in o (stand_in years n count)) (none l)
      ∙ ap (λ (b : Bool). cond b (Some (map (mean_at years n) (range_with_len 0 count))) None) (le-ltb 0 (having years n) (let h = having_none none n in omega arith))

  pub few_having : (n : ℕ) → having years n ≤ n
  few_having zero = omega arith
  few_having (suc n) = more (years n) (few_having n)
    where
      more : (o : Option (List ℤ)) → having years n ≤ n → plus_one o (having years n) ≤ suc n
      more None h = omega arith
      more (Some zs) h = omega arith

  -- the length of a proxied year, and its prices
  pub proxied_whole : (n l : ℕ) (zs : List ℤ) → proxied years n count l ≡ Some zs → length zs ≡ count
  proxied_whole n l zs e = go (years l) refl e
    where
      means : (b : Bool) → cond b (Some (map (mean_at years n) (range_with_len 0 count))) None ≡ Some zs → length zs ≡ count
      means false q = not_none zs q
      means true q = let same : map (mean_at years n) (range_with_len 0 count) ≡ zs = cc in ap length (sym same) ∙ length-map-range_with_len (mean_at years n) 0 count

      go : (o : Option (List ℤ)) → years l ≡ o → or_stand_in o (stand_in years n count) ≡ Some zs → length zs ≡ count
      go (Some ws) k q = let same : ws ≡ zs = cc in ap length (sym same) ∙ whole l ws k
      go None k q = means (nat_lt 0 (having years n)) q

  pub proxied_small : (n l : ℕ) (zs : List ℤ) (h : ℕ) → proxied years n count l ≡ Some zs → Within 200000 (slice_index_or zs h (pos 0))
  proxied_small n l zs h e = go (years l) refl e
    where
      at : 0 < having years n → (h < count) ⊎ (count ≤ h) → Within 200000 (slice_index_or (map (mean_at years n) (range_with_len 0 count)) h (pos 0))
      at some (inl below) = subst (Within 200000) (sym (get_or-map-range_with_len (mean_at years n) 0 count h h (pos 0) below (omega arith))) (within_mean 200000 (having years n) (sum_at years h n) some (within_sum h n))
      at some (inr past) = subst (Within 200000) (sym (get_or_past (map (mean_at years n) (range_with_len 0 count)) h (pos 0) (simp length-map-range_with_len past))) (omega (arith, ints), omega (arith, ints))

      means : (b : Bool) → nat_lt 0 (having years n) ≡ b → cond b (Some (map (mean_at years n) (range_with_len 0 count))) None ≡ Some zs → Within 200000 (slice_index_or zs h (pos 0))
      means false k q = not_none zs q
      means true k q =
          let same : map (mean_at years n) (range_with_len 0 count) ≡ zs = cc in
          subst (λ (ws : List ℤ). Within 200000 (slice_index_or ws h (pos 0))) same (at (ltb-true 0 (having years n) k) (cases_lt h count))

      go : (o : Option (List ℤ)) → years l ≡ o → or_stand_in o (stand_in years n count) ≡ Some zs → Within 200000 (slice_index_or zs h (pos 0))
      go (Some ws) k q = let same : ws ≡ zs = cc in subst (λ (vs : List ℤ). Within 200000 (slice_index_or vs h (pos 0))) same (small l ws h k)
      go None k q = means (nat_lt 0 (having years n)) refl q

-- what a location that lacks the year answers
pub stand_in_none : (years : ℕ → Option (List ℤ)) (n count l y h : ℕ) → having years n ≡ 0 → hour_of (present (stand_in years n count) l y) l y h ≡ Err (lacking_year l y)
stand_in_none years n count l y h none =
    ap (λ (b : Bool). hour_of (present (cond b (Some (map (mean_at years n) (range_with_len 0 count))) None) l y) l y h) (le-ltb 0 (having years n) (omega arith))

stand_in_some : (years : ℕ → Option (List ℤ)) (n count l y h : ℕ) → 0 < having years n → hour_of (present (stand_in years n count) l y) l y h ≡ hour_of (Ok (map (mean_at years n) (range_with_len 0 count))) l y h
stand_in_some years n count l y h some =
    ap (λ (b : Bool). hour_of (present (cond b (Some (map (mean_at years n) (range_with_len 0 count))) None) l y) l y h) (lt-ltb 0 (having years n) some)

pub stand_in_past : (years : ℕ → Option (List ℤ)) (n count l y h : ℕ) → 0 < having years n → count ≤ h → hour_of (present (stand_in years n count) l y) l y h ≡ Err (past_count l y)
stand_in_past years n count l y h some past =
    stand_in_some years n count l y h some ∙ hour_past (map (mean_at years n) (range_with_len 0 count)) l y h (simp length-map-range_with_len past)

pub stand_in_below : (years : ℕ → Option (List ℤ)) (n count l y h : ℕ) → 0 < having years n → h < count → hour_of (present (stand_in years n count) l y) l y h ≡ Ok (mean_at years n h)
stand_in_below years n count l y h some below =
    stand_in_some years n count l y h some
    ∙ hour_below (map (mean_at years n) (range_with_len 0 count)) l y h (simp length-map-range_with_len below)
    ∙ ap Ok (get_or-map-range_with_len (mean_at years n) 0 count h h (pos 0) below (omega arith))

-- the answers of a source in an hour of a year are the prices of the locations that have the year
pub answers_are : (locations : ℕ) (prices : ℕ → Slot → ℕ → Option (List ℤ)) (s : Slot) (y h : ℕ) → true ≡ lawful_slot s → true ≡ past_year y → ((l : ℕ) (zs : List ℤ) → prices l s y ≡ Some zs → h < length zs) → (n : ℕ) → n ≤ locations →
    (sum_of (λ l. priced locations prices l s y h) n ≡ sum_at (λ l. prices l s y) h n) × (number_of (λ l. priced locations prices l s y h) n ≡ having (λ l. prices l s y) n)
answers_are locations prices s y h lawful past inside zero few = (refl, refl)
answers_are locations prices s y h lawful past inside (suc n) few =
    let again = answers_are locations prices s y h lawful past inside n (omega arith) in
    let r = ap (λ (r : Result (List ℤ) Fault). hour_of r n y h) (asked_well locations prices n s y lawful past (omega arith)) in
    let here = go (prices n s y) (inside n) (sum_of (λ l. priced locations prices l s y h) n) (number_of (λ l. priced locations prices l s y h) n) in (
      ap (λ (r : Result ℤ Fault). plus_answer r (sum_of (λ l. priced locations prices l s y h) n)) r ∙ here.0 ∙ ap (plus_price (prices n s y) h) again.0,
      ap (λ (r : Result ℤ Fault). plus_answered r (number_of (λ l. priced locations prices l s y h) n)) r ∙ here.1 ∙ ap (plus_one (prices n s y)) again.1,
    )
  where
    go : (o : Option (List ℤ)) → ((zs : List ℤ) → o ≡ Some zs → h < length zs) → (sum : ℤ) (k : ℕ) →
        (plus_answer (hour_of (present o n y) n y h) sum ≡ plus_price o h sum) × (plus_answered (hour_of (present o n y) n y h) k ≡ plus_one o k)
    go None below sum k = (refl, refl)
    go (Some zs) below sum k =
        let e = hour_below zs n y h (below zs refl) in
        (ap (λ (r : Result ℤ Fault). plus_answer r sum) e, ap (λ (r : Result ℤ Fault). plus_answered r k) e)

-- the years of a source under the proxy
abbrev pub proxied_prices : ℕ → (Slot → ℕ → ℕ) → (ℕ → Slot → ℕ → Option (List ℤ)) → ℕ → Slot → ℕ → Option (List ℤ)
proxied_prices locations hours prices l s y = proxied (λ k. prices k s y) locations (hours s y) l

-- a fault that is not for want of the year is not mended by the proxy
pub proxied_fault : (locations : ℕ) (hours : Slot → ℕ → ℕ) (prices : ℕ → Slot → ℕ → Option (List ℤ)) (l : ℕ) (s : Slot) (y h : ℕ) (e : Fault) → (e.cause ≢ LackingYear l y) →
    Err e ≡ priced locations prices l s y h → Err e ≡ priced locations (proxied_prices locations hours prices) l s y h
proxied_fault locations hours prices l s y h e other q = lawful (lawful_slot s && past_year y) q
  where
    there : (o means : Option (List ℤ)) → Err e ≡ hour_of (present o l y) l y h → Err e ≡ hour_of (present (or_stand_in o means) l y) l y h
    there (Some zs) means p = p
    there None means p = let same : e ≡ lacking_year l y = cc in absurd (other (ap (λ (f : Fault). f.cause) same))

    known : (b : Bool) → Err e ≡ hour_of (cond b (present (prices l s y) l y) (Err (unknown_location l))) l y h → Err e ≡ hour_of (cond b (present (proxied_prices locations hours prices l s y) l y) (Err (unknown_location l))) l y h
    known true p = there (prices l s y) (stand_in (λ k. prices k s y) locations (hours s y)) p
    known false p = p

    lawful : (b : Bool) → Err e ≡ hour_of (cond b (cond (nat_lt l locations) (present (prices l s y) l y) (Err (unknown_location l))) (Err unlawful_question)) l y h →
        Err e ≡ hour_of (cond b (cond (nat_lt l locations) (present (proxied_prices locations hours prices l s y) l y) (Err (unknown_location l))) (Err unlawful_question)) l y h
    lawful true p = known (nat_lt l locations) p
    lawful false p = p
