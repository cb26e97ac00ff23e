-- An award of a standing item lowers or keeps R + S of its owner, changes nothing for others, and leaves a sound state.
use Rattle.std.proofs.lemmas.Bool.Decides.{nat_tests}
use Rattle.std.proofs.Common.{◌≡◌, ℕ, ◌+◌, ◌-◌, ◌*◌, ◌≤◌, true, false, cond, eqb, List, [], ◌∷◌, ◌++◌, ℤ, pos, ◌+ℤ◌, ◌-ℤ◌, ◌*ℤ◌, neg_ℤ, ◌≤ℤ◌, sym, refl, ap, ◌∙◌, subst, arith}
use lib.Signed.{le_z}
use Rattle.std.specs.List.{AllByRecursion}
use Rattle.std.proofs.lemmas.Int.{ints}
use Rattle.std.proofs.lemmas.Bool.{cond_both, eq-eqb, cond-true}
use Rattle.gate_model.specs.Money.{max0}
use Rattle.gate_model.proofs.Money.{max0_is}
use Rattle.gate_model.specs.Sums.{sum_z}
use Rattle.gate_model.proofs.Sums.{sum_z-append}
use Rattle.gate_model.specs.Measures.{Prices}
use Rattle.gate_model.specs.Curves.{worth, top, in_block}
use Rattle.gate_model.specs.State.{Account, Body, bid, offer, conversion, Item, State, right_at, item_at, item_numbered, no_item}
use Rattle.gate_model.specs.Requirement.{mine, unsettled, monthly, value_left, values, charges, Within, commits_body, committed}
use Rattle.gate_model.specs.Effects.{less, lessened, settled, drawn, changed, costed, bought, sold, sale_cost, converted, cleared, awarded, right_for, rights_of}
use Rattle.gate_model.specs.Grounds.{stands, lawful_on, lawful_award}
use Rattle.gate_model.specs.Law.{RightPriced}
use Rattle.gate_model.proofs.Firsts.{all_first}
use Rattle.gate_model.proofs.Months.{Ahead, unsettled_costed, value_ahead}
use Rattle.gate_model.proofs.Blocks.{bid_award, offer_award, conversion_award, offer_block, offer_top}
use Rattle.gate_model.proofs.Rights.{lessened_sum}
use Rattle.gate_model.proofs.Sound.{BidBacked, OfferBacked, PartBacked, ConversionBacked, BodyBacked, Backed, Sound, standing_of, rights_more, rights_less, settled_sound, settled_sum, requirement_above, committed_above}
use Rattle.hours.specs.declared.period.Period.{Period}
use Rattle.books.specs.declared.key.Key.{Key}
use Rattle.gate_model.specs.declared.point.Point.{Point}
use Rattle.gate_model.specs.declared.conversion.Part.{Part}
use Rattle.gate_model.specs.declared.right.Right.{Right}

-- within, from an account and the month values of its customer's rights
abbrev pub Holds : ℕ → Account → ℤ → Type 0
Holds o a v = (max0 ((unsettled o a -ℤ v) +ℤ a.standing) +ℤ charges a) ≤ℤ pos (120 * a.security)

-- R + S lower or the same, all else the same
pub lowered : (x y g : ℤ) (h : ℕ) → y ≤ℤ x → (max0 x +ℤ g) ≤ℤ pos h → (max0 y +ℤ g) ≤ℤ pos h
lowered x y g h l k = omega (arith, ints, max0_is)

-- an item leaves that requires z, the months bear m more, the rights are worth v more
less_required : (u m v w z st : ℤ) → (m -ℤ w) ≤ℤ z → (((u +ℤ m) -ℤ (v +ℤ w)) +ℤ (st +ℤ neg_ℤ z)) ≤ℤ ((u -ℤ v) +ℤ st)
less_required u m v w z st l = omega (arith, ints)

-- the same of a customer d, where the item is c's
pub cleared_within : (o c d : ℕ) (p : Period) (m z w v : ℤ) (a : Account) → Ahead o p → ((pos 12 *ℤ m) -ℤ w) ≤ℤ z → Holds o a v
    → Holds o (changed (changed (λ _. a) c (drawn (neg_ℤ z))) c (costed p (monthly p m)) d) (v +ℤ mine c d w)
cleared_within o c d p m z w v a h l k =
    elim (eqb c d) as (λ b. Holds o (cond b (costed p (monthly p m) (cond b (drawn (neg_ℤ z) a) a)) (cond b (drawn (neg_ℤ z) a) a)) (v +ℤ cond b w (pos 0))) [
      | true ↦
          let e = unsettled_costed o p m (drawn (neg_ℤ z) a) h in
          let s = less_required (unsettled o a) (pos 12 *ℤ m) v w z a.standing l in
          lowered _ _ (charges a) (120 * a.security) (subst (λ u. ((u -ℤ (v +ℤ w)) +ℤ (a.standing +ℤ neg_ℤ z)) ≤ℤ ((unsettled o a -ℤ v) +ℤ a.standing)) (sym e) s) k
      | false ↦ let e : v ≡ v +ℤ pos 0 = omega (arith, ints) in subst (Holds o a) e k
    ]

pub settled_within : (o c d : ℕ) (z w v : ℤ) (a : Account) → neg_ℤ w ≤ℤ z → Holds o a v → Holds o (changed (λ _. a) c (drawn (neg_ℤ z)) d) (v +ℤ mine c d w)
settled_within o c d z w v a l k =
    elim (eqb c d) as (λ b. Holds o (cond b (drawn (neg_ℤ z) a) a) (v +ℤ cond b w (pos 0))) [
      | true ↦ lowered _ _ (charges a) (120 * a.security) (let s = less_required (unsettled o a) (pos 0) v w z a.standing (omega (arith, ints)) in omega (arith, ints)) k
      | false ↦ let e : v ≡ v +ℤ pos 0 = omega (arith, ints) in subst (Holds o a) e k
    ]

-- what new rights are worth to d
one_more : (o d : ℕ) (rs : List Right) (r : Right) (z : ℤ) → value_left o r ≡ z → values o d (rs ++ r ∷ []) ≡ values o d rs +ℤ mine r.owner d z
one_more o d rs r z e =
    let s = sum_z-append (λ r. mine r.owner d (value_left o r)) rs (r ∷ []) in
    let f = ap (mine r.owner d) e in
    let g : (mine r.owner d (value_left o r) +ℤ pos 0) ≡ mine r.owner d z = let i : (mine r.owner d (value_left o r) +ℤ pos 0) ≡ mine r.owner d (value_left o r) = omega (arith, ints) in i ∙ f in
    s ∙ ap (λ x. values o d rs +ℤ x) g

bid_within : (s : State) (k d w : ℕ) (x : ℤ) (key : Key) (points : List Point) (price : ℤ) (i : Item)
    → i ≡ item_at k s.items → BidBacked s.prices s.month i key points price → in_block (λ c. le_z x c) w 0 points ≡ true
    → Within s d → Within (bought (settled s k) (item_at k s.items).owner key price w x) d
bid_within s k d w x key points price i e b l h =
    let o = s.month in
    let c = (item_at k s.items).owner in
    let r = right_for (s.given + 1) c key w price x in
    let v = value_ahead o r b.ahead in
    let q = ap (λ j. j.requirement) e in
    let a = bid_award price points w x l in
    let m : ((pos 12 *ℤ (pos w *ℤ max0 x)) -ℤ (pos 12 *ℤ (pos w *ℤ price))) ≤ℤ (item_at k s.items).requirement = subst (λ z. ((pos 12 *ℤ (pos w *ℤ max0 x)) -ℤ (pos 12 *ℤ (pos w *ℤ price))) ≤ℤ z) (sym b.requirement_is ∙ q) a in
    subst (Holds o ((bought (settled s k) c key price w x).accounts d)) (sym (one_more o d s.rights r (pos 12 *ℤ (pos w *ℤ price)) v))
    (cleared_within o c d key.slot.period (pos w *ℤ max0 x) (item_at k s.items).requirement (pos 12 *ℤ (pos w *ℤ price)) (values o d s.rights) (s.accounts d) b.ahead m h)

-- what a right is worth to d, by its megawatts
abbrev worth_to : ℕ → ℕ → ℤ → ℕ → ℤ
worth_to c d price q = mine c d (pos 12 *ℤ (pos q *ℤ price))

worth_parts : (c d : ℕ) (price u v : ℤ) (q w : ℕ) → w ≤ q → (u +ℤ worth_to c d price q) ≡ (v +ℤ worth_to c d price (q - w)) → u ≡ v +ℤ mine c d (neg_ℤ (pos 12 *ℤ (pos w *ℤ price)))
worth_parts c d price u v q w l e =
    let n : q ≡ (q - w) + w = omega arith in
    let f : (u +ℤ worth_to c d price ((q - w) + w)) ≡ (v +ℤ worth_to c d price (q - w)) = subst (λ y. (u +ℤ worth_to c d price y) ≡ (v +ℤ worth_to c d price (q - w))) n e in
    (elim (eqb c d) as (λ b. (u +ℤ cond b (pos 12 *ℤ (pos ((q - w) + w) *ℤ price)) (pos 0)) ≡ (v +ℤ cond b (pos 12 *ℤ (pos (q - w) *ℤ price)) (pos 0)) → u ≡ v +ℤ cond b (neg_ℤ (pos 12 *ℤ (pos w *ℤ price))) (pos 0))
    [ true ↦ λ g. split_off u v price (q - w) w g | false ↦ λ g. omega (arith, ints) ]) f
  where
    split_off : (u v price : ℤ) (a w : ℕ) → (u +ℤ (pos 12 *ℤ (pos (a + w) *ℤ price))) ≡ (v +ℤ (pos 12 *ℤ (pos a *ℤ price))) → u ≡ v +ℤ neg_ℤ (pos 12 *ℤ (pos w *ℤ price))
    split_off u v price a w g = omega (arith, ints)

offer_within : (s : State) (k d w n : ℕ) (x : ℤ) (points : List Point) (i : Item)
    → i ≡ item_at k s.items → OfferBacked s.month (right_at n s.rights) i points → in_block (λ c. le_z c x) w 0 points ≡ true
    → 1 ≤ (right_at n s.rights).megawatts → w ≤ (right_at n s.rights).megawatts
    → Within s d → Within (sold (settled s k) (item_at k s.items).owner n w x) d
offer_within s k d w n x points i e b l some enough h =
    let o = s.month in
    let c = (item_at k s.items).owner in
    let r = right_at n s.rights in
    let own : r.owner ≡ c = b.own ∙ ap (λ j. j.owner) e in
    let q = ap (λ j. j.requirement) e in
    let a = offer_award r.price r.original points w x l in
    let z = (item_at k s.items).requirement in
    let m : ((pos 12 *ℤ sale_cost r.original w x) -ℤ neg_ℤ (pos 12 *ℤ (pos w *ℤ r.price))) ≤ℤ z =
    minus_neg (pos 12 *ℤ sale_cost r.original w x) (pos 12 *ℤ (pos w *ℤ r.price)) z (subst (λ y. ((pos 12 *ℤ sale_cost r.original w x) +ℤ (pos 12 *ℤ (pos w *ℤ r.price))) ≤ℤ y) (sym b.requirement_is ∙ q) a) in
    let f = λ (t : Right). mine t.owner d (value_left o t) in
    let v1 : f r ≡ worth_to c d r.price r.megawatts = ap (mine r.owner d) (value_ahead o r b.ahead) ∙ ap (λ y. mine y d (pos 12 *ℤ (pos r.megawatts *ℤ r.price))) own in
    let v2 : f (less w r) ≡ worth_to c d r.price (r.megawatts - w) = ap (mine r.owner d) (value_ahead o (less w r) (record { lawful = b.ahead.lawful; begins = b.ahead.begins })) ∙ ap (λ y. mine y d (pos 12 *ℤ (pos (r.megawatts - w) *ℤ r.price))) own in
    let nil : worth_to c d r.price 0 ≡ pos 0 = cond_both (eqb c d) (pos 12 *ℤ (pos 0 *ℤ r.price)) (pos 0) (λ y. y ≡ pos 0) (λ _. omega (arith, ints)) (λ _. refl) in
    let t = lessened_sum f (worth_to c d r.price) n w s.rights some enough nil v1 v2 in
    let y = worth_parts c d r.price (values o d (lessened n w s.rights)) (values o d s.rights) r.megawatts w enough t in
    subst (Holds o ((sold (settled s k) c n w x).accounts d)) (sym y)
    (cleared_within o c d r.key.slot.period (sale_cost r.original w x) z (neg_ℤ (pos 12 *ℤ (pos w *ℤ r.price))) (values o d s.rights) (s.accounts d) b.ahead m h)
  where
    minus_neg : (a b z : ℤ) → (a +ℤ b) ≤ℤ z → (a -ℤ neg_ℤ b) ≤ℤ z
    minus_neg a b z l = omega (arith, ints)

-- the rights of a cleared conversion
many_more : (p : Prices) (o c d given : ℕ) (parts : List Part) → AllByRecursion (PartBacked p o) parts → values o d (rights_of given c parts) ≡ mine c d (sum_z (λ l. worth l.megawatts l.price) parts)
many_more p o c d given [] h = sym (cond_both (eqb c d) (pos 0) (pos 0) (λ y. y ≡ pos 0) (λ _. refl) (λ _. refl))
many_more p o c d given (l ∷ ls) h =
    let r = many_more p o c d (given + 1) ls h.1 in
    let v = ap (mine c d) (value_ahead o (right_for (given + 1) c l.key l.megawatts l.price (pos 0)) h.0.ahead) in
    grind (arith, ints, nat_tests)

conversion_within : (s : State) (k d : ℕ) (parts : List Part) (i : Item)
    → i ≡ item_at k s.items → ConversionBacked s.prices s.month i parts
    → Within s d → Within (converted (settled s k) (item_at k s.items).owner parts) d
conversion_within s k d parts i e b h =
    let o = s.month in
    let c = (item_at k s.items).owner in
    let q = ap (λ j. j.requirement) e in
    let t = sum_z (λ l. worth l.megawatts l.price) parts in
    let m : neg_ℤ t ≤ℤ (item_at k s.items).requirement = subst (λ z. neg_ℤ t ≤ℤ z) (sym b.requirement_is ∙ q) (conversion_award parts) in
    let a = sum_z-append (λ r. mine r.owner d (value_left o r)) s.rights (rights_of s.given c parts) in
    let v = a ∙ ap (λ x. values o d s.rights +ℤ x) (many_more s.prices o c d s.given parts b.each) in
    subst (Holds o ((settled s k).accounts d)) (sym v) (settled_within o c d (item_at k s.items).requirement t (values o d s.rights) (s.accounts d) m h)

zero_within : (s : State) (k d : ℕ) → pos 0 ≤ℤ (item_at k s.items).requirement → Within s d → Within (settled s k) d
zero_within s k d l h =
    let o = s.month in
    let c = (item_at k s.items).owner in
    let e : values o d s.rights +ℤ mine c d (pos 0) ≡ values o d s.rights = cond_both (eqb c d) (pos 0) (pos 0) (λ y. values o d s.rights +ℤ y ≡ values o d s.rights) (λ _. omega (arith, ints)) (λ _. omega (arith, ints)) in
    subst (Holds o ((settled s k).accounts d)) e (settled_within o c d (item_at k s.items).requirement (pos 0) (values o d s.rights) (s.accounts d) (omega (arith, ints)) h)

-- what an offer of the item has of its right
pub record Takes (s : State) (k n w : ℕ) : Type 0 where
  pub some : 1 ≤ (right_at n s.rights).megawatts
  pub enough : w ≤ (right_at n s.rights).megawatts
  pub free : (committed n (settled s k).items +ℤ pos w) ≤ℤ pos (right_at n s.rights).megawatts

pub offer_takes : (s : State) (k w n : ℕ) (x : ℤ) (points : List Point) → stands s k ≡ true → Sound s → (item_at k s.items).body ≡ offer n points
    → OfferBacked s.month (right_at n s.rights) (item_at k s.items) points → in_block (λ c. le_z c x) w 0 points ≡ true → Takes s k n w
offer_takes s k w n x points t h e b l =
    let r = settled_sum s k (λ i. commits_body n i.body) t in
    let q = ap (commits_body n) e in
    let z : commits_body n (offer n points) ≡ pos (top 0 points) = cond-true (eqb n n) (pos (top 0 points)) (pos 0) (eq-eqb n n refl) in
    let c = h.covered n in
    let g = settled_sound s k t h in
    let u = offer_block points w x b.curve l in
    let v = offer_top points b.curve in
    let a : pos 0 ≤ℤ committed n (settled s k).items = committed_above n (settled s k).items in
    record { some = omega (arith, ints); enough = omega (arith, ints); free = omega (arith, ints) }

cleared_keeps : (s : State) (k d w : ℕ) (x : ℤ) (b : Body) → b ≡ (item_at k s.items).body → stands s k ≡ true → Sound s
    → BodyBacked s.prices s.month s.rights (item_at k s.items) b
    → lawful_on b w x ≡ true → Within s d → Within (cleared (settled s k) (item_at k s.items).owner b w x) d
cleared_keeps s k d w x (bid key points price) e t g b l h = bid_within s k d w x key points price (item_at k s.items) refl b l h
cleared_keeps s k d w x (offer n points) e t g b l h = let u = offer_takes s k w n x points t g (sym e) b l in offer_within s k d w n x points (item_at k s.items) refl b l u.some u.enough h
cleared_keeps s k d w x (conversion parts) e t g b l h = conversion_within s k d parts (item_at k s.items) refl b h

-- what backs the item with a number
pub item_backed : (s : State) (k : ℕ) → stands s k ≡ true → Sound s → Backed s.prices s.month s.rights (item_at k s.items)
item_backed s k t h = all_first (Backed s.prices s.month s.rights) (item_numbered k) no_item s.items t h.backed

-- w is not zero, so that the item allows it
pub lawful_some : (i : Item) (w : ℕ) (x : ℤ) → lawful_award i w x ≡ true → eqb w 0 ≡ false → lawful_on i.body w x ≡ true
lawful_some i w x l z = grind (arith, ints, nat_tests)

-- what holds once the item is done, and once w of it is cleared too, holds after the award
pub awarded_by : (P : State → Type 0) (s : State) (k w : ℕ) (x : ℤ) → P (settled s k)
    → (eqb w 0 ≡ false → P (cleared (settled s k) (item_at k s.items).owner (item_at k s.items).body w x)) → P (awarded s k w x)
awarded_by P s k w x h f = cond_both (eqb w 0) (settled s k) (cleared (settled s k) (item_at k s.items).owner (item_at k s.items).body w x) P (λ _. h) f

pub award_within : (s : State) (k d w : ℕ) (x : ℤ) → stands s k ≡ true → lawful_award (item_at k s.items) w x ≡ true → Sound s → Within s d → Within (awarded s k w x) d
award_within s k d w x t l g h =
    let b = item_backed s k t g in
    awarded_by (λ n. Within n d) s k w x
    (zero_within s k d (requirement_above s.prices s.month s.rights (item_at k s.items) (item_at k s.items).body b) h)
    (λ z. cleared_keeps s k d w x (item_at k s.items).body refl t g b (lawful_some (item_at k s.items) w x l z) h)

-- soundness
changed_standing : (accounts : ℕ → Account) (c d : ℕ) (p : Period) (m : ℤ) (z : ℤ) → (accounts d).standing ≡ z → (changed accounts c (costed p m) d).standing ≡ z
changed_standing accounts c d p m z h = grind (arith, ints, nat_tests)

rights_priced : (p : Prices) (o given c : ℕ) (parts : List Part) → AllByRecursion (PartBacked p o) parts → AllByRecursion (RightPriced p) (rights_of given c parts)
rights_priced p o given c [] h = tt
rights_priced p o given c (l ∷ ls) h = (h.0.priced, rights_priced p o (given + 1) c ls h.1)

cleared_sound : (s : State) (k w : ℕ) (x : ℤ) (b : Body) → b ≡ (item_at k s.items).body → stands s k ≡ true → Sound s
    → BodyBacked s.prices s.month s.rights (item_at k s.items) b
    → lawful_on b w x ≡ true → Sound (cleared (settled s k) (item_at k s.items).owner b w x)
cleared_sound s k w x (bid key points price) e t h b l =
    let g = settled_sound s k t h in
    let c = (item_at k s.items).owner in
    let m = rights_more s.prices s.month s.rights (right_for (s.given + 1) c key w price x ∷ []) (settled s k).items (standing_of (settled s k) g) (b.priced, tt) in
    grind (arith, ints, nat_tests)
cleared_sound s k w x (offer n points) e t h b l =
    let g = settled_sound s k t h in
    let u = offer_takes s k w n x points t h (sym e) b l in
    let m = rights_less s.prices s.month s.rights (settled s k).items n w (standing_of (settled s k) g) u.free in
    grind (arith, ints, nat_tests)
cleared_sound s k w x (conversion parts) e t h b l =
    let g = settled_sound s k t h in
    let c = (item_at k s.items).owner in
    let m = rights_more s.prices s.month s.rights (rights_of s.given c parts) (settled s k).items (standing_of (settled s k) g) (rights_priced s.prices s.month s.given c parts b.each) in
    grind (arith, ints, nat_tests)

pub award_sound : (s : State) (k w : ℕ) (x : ℤ) → stands s k ≡ true → lawful_award (item_at k s.items) w x ≡ true → Sound s → Sound (awarded s k w x)
award_sound s k w x t l g =
    let b = item_backed s k t g in
    awarded_by Sound s k w x (settled_sound s k t g)
    (λ z. cleared_sound s k w x (item_at k s.items).body refl t g b (lawful_some (item_at k s.items) w x l z))
