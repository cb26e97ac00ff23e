-- The unsettled cost, with the most that what stands may add to it, is never over the limit of ground 11.
use Rattle.std.proofs.lemmas.Bool.Decides.{nat_tests}
use Rattle.std.proofs.Common.{◌≡◌, ℕ, zero, suc, ◌+◌, ◌-◌, ◌^◌, ◌<◌, true, false, cond, eqb, List, [], ◌∷◌, map, length, ℤ, pos, ◌+ℤ◌, ◌*ℤ◌, neg_ℤ, ◌≤ℤ◌, sym, refl, ap, ◌∙◌, subst, ⊎_elim, add-one, arith}
use Rattle.std.specs.List.{AllByRecursion}
use Rattle.std.proofs.lemmas.Int.{ints}
use Rattle.std.proofs.lemmas.Bool.{cases_Bool, cond_both, cond-false, and_parts, eqb-true, ne_eqb}
use Rattle.gate_model.specs.Money.{max0}
use Rattle.gate_model.specs.Sums.{sum_z}
use Rattle.gate_model.proofs.Sums.{sum_z-append}
use Rattle.gate_model.specs.Measures.{Prices}
use Rattle.gate_model.specs.State.{Account, Body, bid, offer, conversion, Item, State, right_at, item_at, new}
use Rattle.gate_model.specs.Requirement.{mine, over, unsettled, monthly}
use Rattle.gate_model.specs.Effects.{Line, bid_line, offer_line, changed, with_account, secured, charged, costed, drawn, settled, cleared, awarded, sale_cost, stands_too, item_of, stand, submitted, part_of, conversion_item, turned}
use Rattle.gate_model.specs.Calls.{Call, posting, returning, charge, invoice, payment, opening, submission, conversion_of, closing, award, ending, transfer, month_turn, new_book}
use Rattle.gate_model.specs.Grounds.{grounds, stands, lawful_award, lawful_on, costly, after_cents, cents}
use Rattle.gate_model.specs.Run.{effect, step}
use Rattle.gate_model.proofs.Months.{Ahead, unsettled_costed}
use Rattle.gate_model.proofs.Blocks.{most_above, bid_cost, offer_cost}
use Rattle.gate_model.proofs.Sound.{BodyBacked, Backed, Sound, settled_sum}
use Rattle.gate_model.proofs.Award.{item_backed, lawful_some, awarded_by}
use Rattle.gate_model.proofs.Tables.{Unmet, Passes, decided_keeps, not_passed, standing_passed}
use Rattle.gate_model.proofs.Costs.{Costed, original_above}
use Rattle.hours.specs.declared.period.Period.{Period}
use Rattle.gate_model.specs.declared.right.Right.{Right}

-- the most that what the customer has standing may add to the cost
abbrev pub may_add : ℕ → List Item → ℤ
may_add c items = sum_z (λ i. mine i.owner c i.greatest) items

abbrev pub Capped : State → Type 0
Capped s = (c : ℕ) → (unsettled s.month (s.accounts c) +ℤ may_add c s.items) ≤ℤ pos (10 ^ 16)

greatest_above : (p : Prices) (o : ℕ) (rights : List Right) (i : Item) (b : Body) → BodyBacked p o rights i b → pos 0 ≤ℤ i.greatest
greatest_above p o rights i (bid key points price) h = subst (λ v. pos 0 ≤ℤ v) (sym h.greatest_is) (most_above _ points)
greatest_above p o rights i (offer k points) h = subst (λ v. pos 0 ≤ℤ v) (sym h.greatest_is) (most_above _ points)
greatest_above p o rights i (conversion parts) h = subst (λ v. pos 0 ≤ℤ v) (sym h.greatest_is) (omega (arith, ints))

may_add_above : (p : Prices) (o c : ℕ) (rights : List Right) (items : List Item) → AllByRecursion (Backed p o rights) items → pos 0 ≤ℤ may_add c items
may_add_above p o c rights [] h = omega (arith, ints)
may_add_above p o c rights (i ∷ is) h =
    let r = may_add_above p o c rights is h.1 in
    let z = greatest_above p o rights i i.body h.0 in
    let m : pos 0 ≤ℤ mine i.owner c i.greatest = cond_both (eqb i.owner c) i.greatest (pos 0) (λ y. pos 0 ≤ℤ y) (λ _. z) (λ _. omega (arith, ints)) in
    omega (arith, ints)

-- an item of c leaves that may add g, and the months bear twelve times z
cleared_cap : (o c d : ℕ) (p : Period) (y z g all rest cap : ℤ) (a : Account) → Ahead o p → (pos 12 *ℤ z) ≤ℤ g → (rest +ℤ mine c d g) ≡ all → (unsettled o a +ℤ all) ≤ℤ cap
    → (unsettled o (changed (changed (λ _. a) c (drawn y)) c (costed p (monthly p z)) d) +ℤ rest) ≤ℤ cap
cleared_cap o c d p y z g all rest cap a h l e k =
    (elim (eqb c d) as (λ b. (rest +ℤ cond b g (pos 0)) ≡ all → (unsettled o (cond b (costed p (monthly p z) (cond b (drawn y a) a)) (cond b (drawn y a) a)) +ℤ rest) ≤ℤ cap) [
      | true ↦ λ q. let u = unsettled_costed o p z (drawn y a) h in
          subst (λ v. (v +ℤ rest) ≤ℤ cap) (sym u) (fits (unsettled o a) (pos 12 *ℤ z) g all rest cap l q k)
      | false ↦ λ q. kept (unsettled o a) all rest cap q k
    ]) e
  where
    fits : (u m g all rest cap : ℤ) → m ≤ℤ g → (rest +ℤ g) ≡ all → (u +ℤ all) ≤ℤ cap → ((u +ℤ m) +ℤ rest) ≤ℤ cap
    fits u m g all rest cap l q k = omega (arith, ints)

    kept : (u all rest cap : ℤ) → (rest +ℤ pos 0) ≡ all → (u +ℤ all) ≤ℤ cap → (u +ℤ rest) ≤ℤ cap
    kept u all rest cap q k = omega (arith, ints)

settled_cap : (o c d : ℕ) (y g all rest cap : ℤ) (a : Account) → pos 0 ≤ℤ g → (rest +ℤ mine c d g) ≡ all → (unsettled o a +ℤ all) ≤ℤ cap → (unsettled o (changed (λ _. a) c (drawn y) d) +ℤ rest) ≤ℤ cap
settled_cap o c d y g all rest cap a l e k = grind (arith, ints, nat_tests)

cleared_capped : (s : State) (k w : ℕ) (x : ℤ) (b : Body) → stands s k ≡ true → BodyBacked s.prices s.month s.rights (item_at k s.items) b → lawful_on b w x ≡ true
    → Capped s → Capped (cleared (settled s k) (item_at k s.items).owner b w x)
cleared_capped s k w x (bid key points price) t b l h d =
    let i = item_at k s.items in
    cleared_cap s.month i.owner d key.slot.period (neg_ℤ i.requirement) (pos w *ℤ max0 x) i.greatest (may_add d s.items) (may_add d (settled s k).items) (pos (10 ^ 16)) (s.accounts d) b.ahead
    (subst (λ v. (pos 12 *ℤ (pos w *ℤ max0 x)) ≤ℤ v) (sym b.greatest_is) (bid_cost points w x l)) (settled_sum s k (λ j. mine j.owner d j.greatest) t) (h d)
cleared_capped s k w x (offer n points) t b l h d =
    let i = item_at k s.items in
    let r = right_at n s.rights in
    cleared_cap s.month i.owner d r.key.slot.period (neg_ℤ i.requirement) (sale_cost r.original w x) i.greatest (may_add d s.items) (may_add d (settled s k).items) (pos (10 ^ 16)) (s.accounts d) b.ahead
    (subst (λ v. (pos 12 *ℤ sale_cost r.original w x) ≤ℤ v) (sym b.greatest_is) (offer_cost r.original points w x l)) (settled_sum s k (λ j. mine j.owner d j.greatest) t) (h d)
cleared_capped s k w x (conversion parts) t b l h d =
    let i = item_at k s.items in
    settled_cap s.month i.owner d (neg_ℤ i.requirement) i.greatest (may_add d s.items) (may_add d (settled s k).items) (pos (10 ^ 16)) (s.accounts d)
    (greatest_above s.prices s.month s.rights i (conversion parts) b) (settled_sum s k (λ j. mine j.owner d j.greatest) t) (h d)

award_capped : (s : State) (k w : ℕ) (x : ℤ) → stands s k ≡ true → lawful_award (item_at k s.items) w x ≡ true → Sound s → Capped s → Capped (awarded s k w x)
award_capped s k w x t l g h =
    let i = item_at k s.items in
    let b = item_backed s k t g in
    awarded_by Capped s k w x
    (λ d. settled_cap s.month i.owner d (neg_ℤ i.requirement) i.greatest (may_add d s.items) (may_add d (settled s k).items) (pos (10 ^ 16)) (s.accounts d)
    (greatest_above s.prices s.month s.rights i i.body b) (settled_sum s k (λ j. mine j.owner d j.greatest) t) (h d))
    (λ z. cleared_capped s k w x i.body t b (lawful_some i w x l z) h)

-- an account changes in anything but its costs
account_capped : (s : State) (c : ℕ) (change : Account → Account) → ((a : Account) → (change a).costs ≡ a.costs) → Capped s → Capped (with_account s c change)
account_capped s c change f h d = grind (arith, ints, nat_tests)

-- one more item: tested for its owner, or adding nothing
stands_too_others : (s : State) (i : Item) (d : ℕ) → mine i.owner d i.greatest ≡ pos 0 → Capped s → (unsettled s.month ((stands_too s i).accounts d) +ℤ may_add d (stands_too s i).items) ≤ℤ pos (10 ^ 16)
stands_too_others s i d e h =
    let a = sum_z-append (λ j. mine j.owner d j.greatest) s.items (i ∷ []) in
    let k = account_capped s i.owner (drawn i.requirement) (λ _. refl) h d in
    omega (arith, ints)

stands_too_capped : (s : State) (i : Item) → costly (stands_too s i) i.owner ≡ false → Capped s → Capped (stands_too s i)
stands_too_capped s i t h d = ⊎_elim
    (λ e. subst (λ c. (unsettled s.month ((stands_too s i).accounts c) +ℤ may_add c (stands_too s i).items) ≤ℤ pos (10 ^ 16)) (eqb-true i.owner d e) (omega (arith, ints)))
    (λ e. stands_too_others s i d (ap (λ b. cond b i.greatest (pos 0)) e) h)
    (cases_Bool (eqb i.owner d))

line_capped : (c : ℕ) (p : Period) (s : State) (l : Line) → costly (stand c p s l) c ≡ false → Capped s → Capped (stand c p s l)
line_capped c p s (bid_line path class points) t h = stands_too_capped s (item_of s c p (bid_line path class points)) t h
line_capped c p s (offer_line k points) t h = stands_too_capped s (item_of s c p (offer_line k points)) t h

submitted_capped : (c : ℕ) (p : Period) (ls : List Line) (s : State) → Passes (stand c p) (λ t l. costly (stand c p t l) c) s ls → Capped s → Capped (submitted s c p ls)
submitted_capped c p [] s t h = h
submitted_capped c p (l ∷ ls) s t h = submitted_capped c p ls (stand c p s l) t.1 (line_capped c p s l t.0 h)

-- a month turns
over_after : (f : ℕ → ℤ) (o m k : ℕ) → o < m → over (λ j. cond (eqb j o) (pos 0) (f j)) m k ≡ over f m k
over_after f o m zero l = refl
over_after f o m (suc k) l =
    let r = over_after f o (suc m) k (omega arith) in
    let e = cond-false (eqb m o) (pos 0) (f m) (ne_eqb m o (λ q. omega arith)) in
    omega (arith, ints)

turned_capped : (s : State) → Costed s → Capped s → Capped (turned s)
turned_capped s g h d =
    let o = s.month in
    let f = (s.accounts d).costs in
    let k = h d in
    let a = original_above d o s.rights g.lawful in
    let c = g.original d o (omega arith) in
    let n : 13 - o ≡ suc (13 - (o + 1)) = omega arith in
    let e : over f o (13 - o) ≡ f o +ℤ over f (suc o) (13 - (o + 1)) = ap (over f o) n in
    let r : over (λ j. cond (eqb j o) (pos 0) (f j)) (o + 1) (13 - (o + 1)) ≡ over f (suc o) (13 - (o + 1)) = over_after f o (o + 1) (13 - (o + 1)) (omega arith) ∙ ap (λ m. over f m (13 - (o + 1))) (add-one o) in
    omega (arith, ints)

effect_capped : (s : State) (call : Call) → Sound s → Costed s → Capped s → AllByRecursion Unmet (grounds s call) → Capped (effect s call).1
effect_capped s (posting c n) g k h t = account_capped s c (secured (cents (after_cents s c n))) (λ _. refl) h
effect_capped s (returning c n) g k h t = account_capped s c (secured (cents (after_cents s c (neg_ℤ n)))) (λ _. refl) h
effect_capped s (charge c n) g k h t = account_capped s c (λ a. charged a.invoiced (a.calculated +ℤ n) a) (λ _. refl) h
effect_capped s (invoice c) g k h t = account_capped s c (λ a. charged (a.invoiced +ℤ a.calculated) (pos 0) a) (λ _. refl) h
effect_capped s (payment c) g k h t = account_capped s c (λ a. charged (pos 0) a.calculated a) (λ _. refl) h
effect_capped s (opening p) g k h t = h
effect_capped s (submission w c lines) g k h t = submitted_capped c w.period lines s (standing_passed (stand c w.period) _ 1 s lines t.1.1.1.1.1.1.1.1.0) h
effect_capped s (conversion_of w c lines) g k h t = λ d.
    stands_too_others s (conversion_item (length s.items + 1) c (map (part_of s w.period) lines)) d (cond_both (eqb c d) (pos 0) (pos 0) (λ z. z ≡ pos 0) (λ _. refl) (λ _. refl)) h
effect_capped s (closing w) g k h t = h
effect_capped s (award w i q x) g k h t = let t13 = and_parts (stands s i) _ (not_passed _ t.1.0) in award_capped s i q x t13.0 t13.1 g h
effect_capped s (ending w) g k h t = λ d. let a = may_add_above s.prices s.month d s.rights s.items g.backed in let b = h d in omega (arith, ints)
effect_capped s (transfer seller buyer i q) g k h t = h
effect_capped s month_turn g k h t = turned_capped s k h
effect_capped s (new_book p) g k h t = h

pub step_capped : (s : State) (call : Call) → Sound s → Costed s → Capped s → Capped (step s call).1
step_capped s call g k h = decided_keeps (λ n _. Capped n) (grounds s call) s (effect s call) h (effect_capped s call g k h)

pub new_capped : (p : Prices) → Capped (new p)
new_capped p c = omega (arith, ints)
