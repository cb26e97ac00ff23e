-- The unsettled cost of a month from the open one on is at least what the customer's rights of that month cost, so never negative.
use Rattle.std.proofs.lemmas.Grind.{common_steps}
use Rattle.std.proofs.lemmas.Bool.Decides.{nat_tests}
use Rattle.std.proofs.Common.{◌≡◌, ℕ, ◌+◌, ◌-◌, ◌≤◌, Bool, true, false, cond, not, eqb, List, [], ◌∷◌, map, length, ℤ, pos, negsuc, ◌+ℤ◌, ◌-ℤ◌, ◌*ℤ◌, neg_ℤ, ◌≤ℤ◌, filter, sym, refl, ap, ◌∙◌, subst, arith}
use Rattle.std.specs.List.{AllByRecursion}
use Rattle.std.proofs.lemmas.Int.{ints}
use Rattle.std.proofs.lemmas.Bool.{cond-false, and_parts, or_parts, ne_eqb, eqb-false}
use Rattle.std.proofs.ByRecursion.{All-append, all_kept_by, All-map}
use Rattle.gate_model.specs.Money.{max0, floor_z, Parts, one, two, three, four, six, twelve}
use Rattle.gate_model.proofs.Money.{proved}
use Rattle.gate_model.specs.Sums.{sum_z}
use Rattle.gate_model.proofs.Sums.{sum_z-append}
use Rattle.gate_model.specs.Measures.{Prices, unfinished}
use Rattle.gate_model.specs.State.{Account, Body, bid, offer, conversion, Item, State, right_at, right_numbered, no_right, item_at, new}
use Rattle.gate_model.specs.Requirement.{mine, monthly}
use Rattle.gate_model.specs.Effects.{Line, bears, costed, with_account, secured, charged, part_of, conversion_item, lessened, right_for, rights_of, settled, bought, sold, sale_cost, converted, cleared, awarded, stands_too, item_of, stand, submitted, transferred, turned, repriced, rebooked}
use Rattle.gate_model.specs.Calls.{Call, posting, returning, charge, invoice, payment, opening, submission, conversion_of, closing, award, ending, transfer, month_turn, new_book}
use Rattle.gate_model.specs.Grounds.{grounds, stands, lawful_award, lawful_on, is_idle, after_cents, cents}
use Rattle.gate_model.specs.Run.{effect, step}
use Rattle.gate_model.proofs.Firsts.{all_first}
use Rattle.gate_model.proofs.Months.{lawful_length, parts_of}
use Rattle.gate_model.proofs.Blocks.{times_minus}
use Rattle.gate_model.proofs.Rights.{lessened_sum, all_lessened}
use Rattle.gate_model.proofs.Sound.{PartBacked, BodyBacked, Sound, committed_above}
use Rattle.gate_model.proofs.Award.{offer_takes, item_backed, lawful_some, awarded_by}
use Rattle.gate_model.proofs.Tables.{Unmet, decided_keeps, not_passed, call_passed}
use Rattle.gate_model.proofs.Steps.{transfer_passed}
use Rattle.hours.specs.declared.period.Period.{Period}
use Rattle.books.specs.declared.key.Key.{Key}
use Rattle.gate_model.specs.declared.conversion.Part.{Part}
use Rattle.gate_model.specs.declared.right.Right.{Right}

-- equal parts add up, are at least 0 of what is at least 0, and are 0 of 0
add_parts : (n : ℕ) (a b : ℤ) → Parts n → floor_z (pos 12 *ℤ (a +ℤ b)) n ≡ floor_z (pos 12 *ℤ a) n +ℤ floor_z (pos 12 *ℤ b) n
add_parts n a b one = grind (arith, ints, nat_tests)
add_parts n a b two = grind (arith, ints, nat_tests)
add_parts n a b three = grind (arith, ints, nat_tests)
add_parts n a b four = grind (arith, ints, nat_tests)
add_parts n a b six = grind (arith, ints, nat_tests)
add_parts n a b twelve = grind (arith, ints, nat_tests)

part_above : (n : ℕ) (a : ℤ) → Parts n → pos 0 ≤ℤ a → pos 0 ≤ℤ floor_z (pos 12 *ℤ a) n
part_above n a one h = let y = proved.parts 1 a one in omega (arith, ints)
part_above n a two h = let y = proved.parts 2 a two in omega (arith, ints)
part_above n a three h = let y = proved.parts 3 a three in omega (arith, ints)
part_above n a four h = let y = proved.parts 4 a four in omega (arith, ints)
part_above n a six h = let y = proved.parts 6 a six in omega (arith, ints)
part_above n a twelve h = let y = proved.parts 12 a twelve in omega (arith, ints)

part_none : (n : ℕ) → Parts n → floor_z (pos 12 *ℤ pos 0) n ≡ pos 0
part_none n one = refl
part_none n two = refl
part_none n three = refl
part_none n four = refl
part_none n six = refl
part_none n twelve = refl

times_above : (q : ℕ) (a : ℤ) → pos 0 ≤ℤ (pos q *ℤ max0 a)
times_above q (pos n) = omega (arith, ints)
times_above q (negsuc n) = omega (arith, ints)

-- what a right cost in a month
abbrev cost_in : ℕ → Right → ℤ
cost_in m r = cond (bears r.key.slot.period m) (monthly r.key.slot.period (pos r.megawatts *ℤ max0 r.original)) (pos 0)

abbrev original_for : ℕ → ℕ → List Right → ℤ
original_for c m rights = sum_z (λ r. mine r.owner c (cost_in m r)) rights

abbrev LawfulMonths : Right → Type 0
LawfulMonths r = lawful_length r.key.slot.period.months ≡ true

pub record Costed (s : State) : Type 0 where
  pub original : (c m : ℕ) → s.month ≤ m → original_for c m s.rights ≤ℤ (s.accounts c).costs m
  pub lawful : AllByRecursion LawfulMonths s.rights
  pub year : s.month ≤ 12

cost_above : (c m : ℕ) (r : Right) → LawfulMonths r → pos 0 ≤ℤ mine r.owner c (cost_in m r)
cost_above c m r h = grind (arith, ints, nat_tests)

pub original_above : (c m : ℕ) (rights : List Right) → AllByRecursion LawfulMonths rights → pos 0 ≤ℤ original_for c m rights
original_above c m [] h = omega (arith, ints)
original_above c m (r ∷ rs) h = let a = cost_above c m r h.0 in let b = original_above c m rs h.1 in omega (arith, ints)

-- a right with the original price 0 cost nothing
free_right : (d m : ℕ) (r : Right) → LawfulMonths r → r.original ≡ pos 0 → mine r.owner d (cost_in m r) ≡ pos 0
free_right d m r h e = grind (arith, ints, nat_tests)

settled_costed : (s : State) (k : ℕ) → Costed s → Costed (settled s k)
settled_costed s k h = grind (arith, ints, nat_tests)

-- changes of an account that leave its costs alone
account_costed : (s : State) (c : ℕ) (change : Account → Account) → ((a : Account) (m : ℕ) → (change a).costs m ≡ a.costs m) → Costed s → Costed (with_account s c change)
account_costed s c change f h = grind (arith, ints, nat_tests)

bought_costed : (s : State) (c : ℕ) (key : Key) (price : ℤ) (w : ℕ) (x : ℤ) → lawful_length key.slot.period.months ≡ true → Costed s → Costed (bought s c key price w x)
bought_costed s c key price w x q h = record {
  original = λ d m l.
      let r = right_for (s.given + 1) c key w price x in
      let a = sum_z-append (λ r. mine r.owner d (cost_in m r)) s.rights (r ∷ []) in
      let g = h.original d m l in
      let z = cost_in m r in
      subst (λ y. y ≤ℤ ((bought s c key price w x).accounts d).costs m) (sym a)
      (elim (eqb c d) as (λ b. (original_for d m s.rights +ℤ (cond b (cost_in m r) (pos 0) +ℤ pos 0)) ≤ℤ (cond b (costed key.slot.period (monthly key.slot.period (pos w *ℤ max0 x)) (s.accounts d)) (s.accounts d)).costs m)
      [ true ↦ more (original_for d m s.rights) ((s.accounts d).costs m) z g | false ↦ omega (arith, ints) ]);
  lawful = All-append LawfulMonths s.rights (right_for (s.given + 1) c key w price x ∷ []) h.lawful (q, tt);
  year = h.year;
}
  where
    more : (f k z : ℤ) → f ≤ℤ k → (f +ℤ (z +ℤ pos 0)) ≤ℤ (k +ℤ z)
    more f k z g = omega (arith, ints)

free_rights : (d m given c : ℕ) (p : Prices) (o : ℕ) (parts : List Part) → AllByRecursion (PartBacked p o) parts → (original_for d m (rights_of given c parts) ≡ pos 0) × AllByRecursion LawfulMonths (rights_of given c parts)
free_rights d m given c p o [] h = (refl, tt)
free_rights d m given c p o (l ∷ ls) h =
    let r = right_for (given + 1) c l.key l.megawatts l.price (pos 0) in
    let q = (and_parts (lawful_length l.key.slot.period.months) _ h.0.ahead.lawful).0 in
    let e = free_right d m r q refl in
    let i = free_rights d m (given + 1) c p o ls h.1 in
    let i0 = i.0 in
    (omega (arith, ints), (q, i.1))

converted_costed : (s : State) (c : ℕ) (parts : List Part) (p : Prices) (o : ℕ) → AllByRecursion (PartBacked p o) parts → Costed s → Costed (converted s c parts)
converted_costed s c parts p o b h = record {
  original = λ d m l.
      let a = sum_z-append (λ r. mine r.owner d (cost_in m r)) s.rights (rights_of s.given c parts) in
      let e = (free_rights d m s.given c p o parts b).0 in
      let g = h.original d m l in omega (arith, ints);
  lawful = All-append LawfulMonths s.rights (rights_of s.given c parts) h.lawful (free_rights 0 0 s.given c p o parts b).1;
  year = h.year;
}

lessened_lawful : (k w : ℕ) (rights : List Right) → AllByRecursion LawfulMonths rights → AllByRecursion LawfulMonths (lessened k w rights)
lessened_lawful k w rights h = all_lessened LawfulMonths k w rights (λ _ q. q) h

-- what q megawatts of a right cost d in a month
abbrev share : Right → ℕ → ℕ → ℕ → ℤ
share r d m q = mine r.owner d (cond (bears r.key.slot.period m) (monthly r.key.slot.period (pos q *ℤ max0 r.original)) (pos 0))

share_none : (r : Right) (d m : ℕ) → LawfulMonths r → share r d m 0 ≡ pos 0
share_none r d m h = grind (arith, ints, nat_tests)

parts_whole : (p : Period) (q w : ℕ) (v : ℤ) → lawful_length p.months ≡ true → w ≤ q → monthly p (pos q *ℤ v) ≡ monthly p (pos (q - w) *ℤ v) +ℤ monthly p (pos w *ℤ v)
parts_whole p q w v h l =
    let n : q ≡ (q - w) + w = omega arith in
    let e : (pos ((q - w) + w) *ℤ v) ≡ ((pos (q - w) *ℤ v) +ℤ (pos w *ℤ v)) = split_off (q - w) w v in
    ap (λ y. monthly p (pos y *ℤ v)) n ∙ ap (monthly p) e ∙ add_parts p.months (pos (q - w) *ℤ v) (pos w *ℤ v) (parts_of _ h)
  where
    split_off : (a w : ℕ) (v : ℤ) → (pos (a + w) *ℤ v) ≡ ((pos a *ℤ v) +ℤ (pos w *ℤ v))
    split_off a w v = omega (arith, ints)

-- a sale takes no more off the cost than what the part sold cost
sale_above : (p : Period) (w : ℕ) (a x : ℤ) → lawful_length p.months ≡ true → pos 0 ≤ℤ (monthly p (sale_cost a w x) +ℤ monthly p (pos w *ℤ max0 a))
sale_above p w a x h =
    let e = times_minus w (max0 (a -ℤ x)) (max0 a) in
    let g : (sale_cost a w x +ℤ (pos w *ℤ max0 a)) ≡ (pos w *ℤ max0 (a -ℤ x)) = back (sale_cost a w x) (pos w *ℤ max0 (a -ℤ x)) (pos w *ℤ max0 a) e in
    let s = add_parts p.months (sale_cost a w x) (pos w *ℤ max0 a) (parts_of _ h) in
    let u = part_above p.months (pos w *ℤ max0 (a -ℤ x)) (parts_of _ h) (times_above w (a -ℤ x)) in
    subst (λ z. pos 0 ≤ℤ z) (sym (ap (monthly p) g) ∙ s) u
  where
    back : (x y z : ℤ) → x ≡ y -ℤ z → (x +ℤ z) ≡ y
    back x y z e = omega (arith, ints)

sold_costed : (s : State) (c n w : ℕ) (x : ℤ) → (right_at n s.rights).owner ≡ c → 1 ≤ (right_at n s.rights).megawatts → w ≤ (right_at n s.rights).megawatts
    → LawfulMonths (right_at n s.rights) → Costed s → Costed (sold s c n w x)
sold_costed s c n w x own some enough q h = record {
  original = λ d m l.
      let r = right_at n s.rights in
      let t = lessened_sum (λ r. mine r.owner d (cost_in m r)) (share r d m) n w s.rights some enough (share_none r d m q) refl refl in
      let g = h.original d m l in
      let y : (original_for d m (lessened n w s.rights) +ℤ mine c d (cond (bears r.key.slot.period m) (monthly r.key.slot.period (pos r.megawatts *ℤ max0 r.original)) (pos 0)))
      ≡ (original_for d m s.rights +ℤ mine c d (cond (bears r.key.slot.period m) (monthly r.key.slot.period (pos (r.megawatts - w) *ℤ max0 r.original)) (pos 0)))
      = subst (λ o. (original_for d m (lessened n w s.rights) +ℤ mine o d (cond (bears r.key.slot.period m) (monthly r.key.slot.period (pos r.megawatts *ℤ max0 r.original)) (pos 0))) ≡ (original_for d m s.rights +ℤ mine o d (cond (bears r.key.slot.period m) (monthly r.key.slot.period (pos (r.megawatts - w) *ℤ max0 r.original)) (pos 0)))) own t in
      shared c d (bears r.key.slot.period m) (original_for d m (lessened n w s.rights)) (original_for d m s.rights) (monthly r.key.slot.period (pos r.megawatts *ℤ max0 r.original)) (monthly r.key.slot.period (pos (r.megawatts - w) *ℤ max0 r.original))
      (monthly r.key.slot.period (pos w *ℤ max0 r.original)) (monthly r.key.slot.period (sale_cost r.original w x)) ((s.accounts d).costs m)
      (parts_whole r.key.slot.period r.megawatts w (max0 r.original) q enough) (sale_above r.key.slot.period w r.original x q) g y (((sold s c n w x).accounts d).costs m)
      (elim (eqb c d) as (λ b. (cond b (costed r.key.slot.period (monthly r.key.slot.period (sale_cost r.original w x)) (s.accounts d)) (s.accounts d)).costs m ≡ cond b ((s.accounts d).costs m +ℤ cond (bears r.key.slot.period m) (monthly r.key.slot.period (sale_cost r.original w x)) (pos 0)) ((s.accounts d).costs m)) [ true ↦ refl | false ↦ refl ]);
  lawful = lessened_lawful n w s.rights h.lawful;
  year = h.year;
}
  where
    shared : (c d : ℕ) (t : Bool) (f g whole left part sale k : ℤ) → whole ≡ left +ℤ part → pos 0 ≤ℤ (sale +ℤ part) → g ≤ℤ k
        → (f +ℤ mine c d (cond t whole (pos 0))) ≡ (g +ℤ mine c d (cond t left (pos 0)))
        → (z : ℤ) → z ≡ cond (eqb c d) (k +ℤ cond t sale (pos 0)) k → f ≤ℤ z
    shared c d t f g whole left part sale k e1 e2 e3 =
        elim (eqb c d) as (λ b. (f +ℤ cond b (cond t whole (pos 0)) (pos 0)) ≡ (g +ℤ cond b (cond t left (pos 0)) (pos 0)) → (z : ℤ) → z ≡ cond b (k +ℤ cond t sale (pos 0)) k → f ≤ℤ z) [
          | true ↦ elim t as (λ b. (f +ℤ cond b whole (pos 0)) ≡ (g +ℤ cond b left (pos 0)) → (z : ℤ) → z ≡ k +ℤ cond b sale (pos 0) → f ≤ℤ z)
              [ true ↦ λ e z y. omega (arith, ints) | false ↦ λ e z y. omega (arith, ints) ]
          | false ↦ λ e z y. omega (arith, ints)
        ]

transferred_costed : (s : State) (buyer k q : ℕ) → 1 ≤ (right_at k s.rights).megawatts → q ≤ (right_at k s.rights).megawatts → LawfulMonths (right_at k s.rights) → Costed s → Costed (transferred s buyer k q)
transferred_costed s buyer k q some enough u h = record {
  original = λ d m l.
      let r = right_at k s.rights in
      let n = right_for (s.given + 1) buyer r.key q r.price (pos 0) in
      let t = lessened_sum (λ r. mine r.owner d (cost_in m r)) (share r d m) k q s.rights some enough (share_none r d m u) refl refl in
      let a = sum_z-append (λ r. mine r.owner d (cost_in m r)) (lessened k q s.rights) (n ∷ []) in
      let e = free_right d m n u refl in
      let g = h.original d m l in
      let v : share r d m (r.megawatts - q) ≤ℤ share r d m r.megawatts = fewer r d m q enough u in
      omega (arith, ints);
  lawful = All-append LawfulMonths (lessened k q s.rights) _ (lessened_lawful k q s.rights h.lawful) (u, tt);
  year = h.year;
}
  where
    fewer : (r : Right) (d m q : ℕ) → q ≤ r.megawatts → LawfulMonths r → share r d m (r.megawatts - q) ≤ℤ share r d m r.megawatts
    fewer r d m q l h =
        let e = parts_whole r.key.slot.period r.megawatts q (max0 r.original) h l in
        let a = part_above r.key.slot.period.months (pos q *ℤ max0 r.original) (parts_of _ h) (times_above q r.original) in
        let x = monthly r.key.slot.period (pos (r.megawatts - q) *ℤ max0 r.original) in
        let y = monthly r.key.slot.period (pos r.megawatts *ℤ max0 r.original) in
        let z : x ≤ℤ y = omega (arith, ints) in
        elim (eqb r.owner d) as (λ b. cond b (cond (bears r.key.slot.period m) x (pos 0)) (pos 0) ≤ℤ cond b (cond (bears r.key.slot.period m) y (pos 0)) (pos 0))
        [ true ↦ elim (bears r.key.slot.period m) as (λ b. cond b x (pos 0) ≤ℤ cond b y (pos 0)) [ true ↦ z | false ↦ omega (arith, ints) ] | false ↦ omega (arith, ints) ]

kept_below : (d m : ℕ) (p : Right → Bool) (rights : List Right) → AllByRecursion LawfulMonths rights → original_for d m (filter p rights) ≤ℤ original_for d m rights
kept_below d m p [] h = omega (arith, ints)
kept_below d m p (r ∷ rs) h =
    let i = kept_below d m p rs h.1 in
    grind (arith, ints, nat_tests)

turned_costed : (s : State) → eqb s.month 12 ≡ false → Costed s → Costed (turned s)
turned_costed s e h = record {
  original = λ d m l.
      let k = kept_below d m (λ r. unfinished (s.month + 1) r.key.slot.period) s.rights h.lawful in
      let g = h.original d m (omega arith) in
      let z : eqb m s.month ≡ false = ne_eqb m s.month (λ q. omega arith) in
      let c = cond-false (eqb m s.month) (pos 0) ((s.accounts d).costs m) z in
      omega (arith, ints);
  lawful = all_kept_by (λ r. unfinished (s.month + 1) r.key.slot.period) LawfulMonths s.rights h.lawful;
  year = let n = eqb-false s.month 12 e in let y = h.year in omega (arith, n);
}

rebooked_original : (d m : ℕ) (p : Prices) (rights : List Right) → original_for d m (map (repriced p) rights) ≡ original_for d m rights
rebooked_original d m p [] = refl
rebooked_original d m p (r ∷ rs) = ap (λ z. mine r.owner d (cost_in m r) +ℤ z) (rebooked_original d m p rs)

rebooked_costed : (s : State) (p : Prices) → Costed s → Costed (rebooked s p)
rebooked_costed s p h = record {
  original = λ d m l. subst (λ z. z ≤ℤ (s.accounts d).costs m) (sym (rebooked_original d m p s.rights)) (h.original d m l);
  lawful = All-map LawfulMonths (repriced p) s.rights h.lawful;
  year = h.year;
}

stands_too_costed : (s : State) (i : Item) → Costed s → Costed (stands_too s i)
stands_too_costed s i h = grind (arith, ints, nat_tests)

submitted_costed : (c : ℕ) (p : Period) (ls : List Line) (s : State) → Costed s → Costed (submitted s c p ls)
submitted_costed c p [] s h = h
submitted_costed c p (l ∷ ls) s h = submitted_costed c p ls (stand c p s l) (stands_too_costed s (item_of s c p l) h)

cleared_costed : (s : State) (k w : ℕ) (x : ℤ) (b : Body) → b ≡ (item_at k s.items).body → stands s k ≡ true → Sound s
    → BodyBacked s.prices s.month s.rights (item_at k s.items) b → lawful_on b w x ≡ true → Costed s → Costed (cleared (settled s k) (item_at k s.items).owner b w x)
cleared_costed s k w x (bid key points price) e t g b l h = bought_costed (settled s k) (item_at k s.items).owner key price w x (and_parts (lawful_length key.slot.period.months) _ b.ahead.lawful).0 (settled_costed s k h)
cleared_costed s k w x (offer n points) e t g b l h =
    let u = offer_takes s k w n x points t g (sym e) b l in
    sold_costed (settled s k) (item_at k s.items).owner n w x b.own u.some u.enough (and_parts (lawful_length (right_at n s.rights).key.slot.period.months) _ b.ahead.lawful).0 (settled_costed s k h)
cleared_costed s k w x (conversion parts) e t g b l h = converted_costed (settled s k) (item_at k s.items).owner parts s.prices s.month b.each (settled_costed s k h)

award_costed : (s : State) (k w : ℕ) (x : ℤ) → stands s k ≡ true → lawful_award (item_at k s.items) w x ≡ true → Sound s → Costed s → Costed (awarded s k w x)
award_costed s k w x t l g h =
    awarded_by Costed s k w x (settled_costed s k h)
    (λ z. cleared_costed s k w x (item_at k s.items).body refl t g (item_backed s k t g) (lawful_some (item_at k s.items) w x l z) h)

effect_costed : (s : State) (call : Call) → Sound s → Costed s → AllByRecursion Unmet (grounds s call) → Costed (effect s call).1
effect_costed s (posting c n) g h t = account_costed s c (secured (cents (after_cents s c n))) (λ _ _. refl) h
effect_costed s (returning c n) g h t = account_costed s c (secured (cents (after_cents s c (neg_ℤ n)))) (λ _ _. refl) h
effect_costed s (charge c n) g h t = account_costed s c (λ a. charged a.invoiced (a.calculated +ℤ n) a) (λ _ _. refl) h
effect_costed s (invoice c) g h t = account_costed s c (λ a. charged (a.invoiced +ℤ a.calculated) (pos 0) a) (λ _ _. refl) h
effect_costed s (payment c) g h t = account_costed s c (λ a. charged (pos 0) a.calculated a) (λ _ _. refl) h
effect_costed s (opening p) g h t = record { original = h.original; lawful = h.lawful; year = h.year }
effect_costed s (submission w c lines) g h t = submitted_costed c w.period lines s h
effect_costed s (conversion_of w c lines) g h t = stands_too_costed s (conversion_item (length s.items + 1) c (map (part_of s w.period) lines)) h
effect_costed s (closing w) g h t = record { original = h.original; lawful = h.lawful; year = h.year }
effect_costed s (award w k q x) g h t =
    let t13 = and_parts (stands s k) _ (not_passed _ t.1.0) in award_costed s k q x t13.0 t13.1 g h
effect_costed s (ending w) g h t = record { original = h.original; lawful = h.lawful; year = h.year }
effect_costed s (transfer seller buyer k q) g h t =
    let u = transfer_passed s seller buyer k q t in
    let c = committed_above k s.items in
    let f = u.free in
    let m = u.some in
    transferred_costed s buyer k q (omega (arith, ints)) (omega (arith, ints)) (all_first LawfulMonths (right_numbered k) no_right s.rights u.known h.lawful) h
effect_costed s month_turn g h t = turned_costed s (or_parts (not (is_idle s.phase)) _ (call_passed _ t.1.0)).1 h
effect_costed s (new_book p) g h t = rebooked_costed s p h

pub step_costed : (s : State) (call : Call) → Sound s → Costed s → Costed (step s call).1
step_costed s call g h = decided_keeps (λ n _. Costed n) (grounds s call) s (effect s call) h (effect_costed s call g h)

pub new_costed : (p : Prices) → Costed (new p)
new_costed p = grind (arith, ints, nat_tests, common_steps)
