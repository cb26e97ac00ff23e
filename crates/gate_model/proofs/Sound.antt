-- The invariant of all states that a gate reaches, and that it survives new rights, lost megawatts and items that leave.
use Rattle.std.proofs.lemmas.Bool.Decides.{nat_tests}
use Rattle.std.proofs.Common.{◌≡◌, ℕ, ◌<◌, true, false, cond, eqb, List, [], ◌∷◌, ◌++◌, ℤ, pos, ◌+ℤ◌, neg_ℤ, ◌≤ℤ◌, Ok, sym, refl, ap, subst, ⊎_elim, arith}
use Rattle.std.specs.List.{AllByRecursion}
use Rattle.std.proofs.lemmas.Int.{ints}
use Rattle.std.proofs.lemmas.Bool.{cases_eq, cases_lt, eq-eqb, cond-true}
use Rattle.std.proofs.ByRecursion.{All-append}
use Rattle.gate_model.specs.Sums.{sum_z}
use Rattle.gate_model.specs.Measures.{Prices, lawful_megawatts}
use Rattle.gate_model.specs.Curves.{bid_requirement, offer_requirement, conversion_requirement, greatest_cost, greatest_loss, lawful_bid, lawful_offer, top}
use Rattle.gate_model.specs.State.{Account, Body, bid, offer, conversion, Item, State, right_at, item_at, item_numbered, no_item, replaced}
use Rattle.gate_model.specs.Requirement.{mine, required, commits_body, committed}
use Rattle.gate_model.specs.Effects.{lessened, settled, drawn}
use Rattle.gate_model.specs.Grounds.{stands}
use Rattle.gate_model.specs.Law.{RightPriced, PartPriced}
use Rattle.gate_model.proofs.Firsts.{replaced_sum, all_replaced, sum_above, all_both}
use Rattle.gate_model.proofs.Months.{Ahead}
use Rattle.gate_model.proofs.Blocks.{most_above, conversion_above, offer_top}
use Rattle.gate_model.proofs.Rights.{right_append, lessened_same, lessened_other, all_lessened}
use Rattle.books.specs.declared.key.Key.{Key}
use Rattle.gate_model.specs.declared.point.Point.{Point}
use Rattle.gate_model.specs.declared.conversion.Part.{Part}
use Rattle.gate_model.specs.declared.right.Right.{Right}
use Rattle.gate_model.specs.declared.phase.Phase.{Phase}
use Rattle.gate_model.specs.declared.phase.Phase.TheVariants.{Idle, Open, Closed}

pub record BidBacked (p : Prices) (o : ℕ) (i : Item) (key : Key) (points : List Point) (price : ℤ) : Type 0 where
  pub requirement_is : i.requirement ≡ bid_requirement price points
  pub greatest_is : i.greatest ≡ greatest_cost points
  pub ahead : Ahead o key.slot.period
  pub priced : p key ≡ Ok price
  pub curve : lawful_bid points ≡ true

pub record OfferBacked (o : ℕ) (r : Right) (i : Item) (points : List Point) : Type 0 where
  pub own : r.owner ≡ i.owner
  pub requirement_is : i.requirement ≡ offer_requirement r.price r.original points
  pub greatest_is : i.greatest ≡ greatest_loss r.original points
  pub ahead : Ahead o r.key.slot.period
  pub curve : lawful_offer points ≡ true

pub record PartBacked (p : Prices) (o : ℕ) (l : Part) : Type 0 where
  pub ahead : Ahead o l.key.slot.period
  pub priced : PartPriced p l
  pub size : lawful_megawatts l.megawatts ≡ true

pub record ConversionBacked (p : Prices) (o : ℕ) (i : Item) (parts : List Part) : Type 0 where
  pub requirement_is : i.requirement ≡ conversion_requirement parts
  pub greatest_is : i.greatest ≡ pos 0
  pub each : AllByRecursion (PartBacked p o) parts

abbrev pub BodyBacked : Prices → ℕ → List Right → Item → Body → Type 0
BodyBacked p o rights i (bid key points price) = BidBacked p o i key points price
BodyBacked p o rights i (offer k points) = OfferBacked o (right_at k rights) i points
BodyBacked p o rights i (conversion parts) = ConversionBacked p o i parts

abbrev pub Backed : Prices → ℕ → List Right → Item → Type 0
Backed p o rights i = BodyBacked p o rights i i.body

-- nothing stands while the gate is Idle, and the period of an open window lies ahead
abbrev pub WindowSound : ℕ → List Item → Phase → Type 0
WindowSound o items Idle = items ≡ []
WindowSound o items (Open w) = Ahead o w.period
WindowSound o items (Closed w) = Unit {0}

pub record Sound (s : State) : Type 0 where
  pub sums : (c : ℕ) → (s.accounts c).standing ≡ required c s.items
  pub backed : AllByRecursion (Backed s.prices s.month s.rights) s.items
  pub covered : (k : ℕ) → committed k s.items ≤ℤ pos (right_at k s.rights).megawatts
  pub priced : AllByRecursion (RightPriced s.prices) s.rights
  pub window : WindowSound s.month s.items s.phase

pub window_items : (o : ℕ) (xs ys : List Item) (phase : Phase) → (xs ≡ [] → ys ≡ []) → WindowSound o xs phase → WindowSound o ys phase
window_items o xs ys Idle f h = f h
window_items o xs ys (Open w) f h = h
window_items o xs ys (Closed w) f h = h

pub commits_above : (k : ℕ) (b : Body) → pos 0 ≤ℤ commits_body k b
commits_above k (bid key points price) = omega (arith, ints)
commits_above k (offer j points) = grind (arith, ints, nat_tests)
commits_above k (conversion parts) = omega (arith, ints)

pub committed_above : (n : ℕ) (items : List Item) → pos 0 ≤ℤ committed n items
committed_above n items = sum_above (λ i. commits_body n i.body) (λ i. commits_above n i.body) items

pub requirement_above : (p : Prices) (o : ℕ) (rights : List Right) (i : Item) (b : Body) → BodyBacked p o rights i b → pos 0 ≤ℤ i.requirement
requirement_above p o rights i (bid key points price) h = subst (λ v. pos 0 ≤ℤ v) (sym h.requirement_is) (most_above _ points)
requirement_above p o rights i (offer k points) h = subst (λ v. pos 0 ≤ℤ v) (sym h.requirement_is) (most_above _ points)
requirement_above p o rights i (conversion parts) h = subst (λ v. pos 0 ≤ℤ v) (sym h.requirement_is) (conversion_above parts)

-- each item commits no more than all do
each_commits : (bound : ℕ → ℤ) (xs : List Item) → ((k : ℕ) → committed k xs ≤ℤ bound k) → AllByRecursion (λ i. (k : ℕ) → commits_body k i.body ≤ℤ bound k) xs
each_commits bound [] h = tt
each_commits bound (x ∷ xs) h = (
  (λ k. let a = h k in let s = sum_above (λ i. commits_body k i.body) (λ i. commits_above k i.body) xs in omega (arith, ints)),
  each_commits bound xs (λ k. let a = h k in let c = commits_above k x.body in omega (arith, ints)),
)

-- one right may take another's place in what backs an offer
abbrev pub Serves : Right → Right → Type 0
Serves r t = (o : ℕ) (i : Item) (points : List Point) → OfferBacked o r i points → OfferBacked o t i points

serves_at : (r t : Right) → t ≡ r → Serves r t
serves_at r t e o i points h = subst (λ x. OfferBacked o x i points) (sym e) h

body_moves : (p : Prices) (o : ℕ) (rs ts : List Right) (i : Item) (b : Body) → ((k : ℕ) → pos 1 ≤ℤ commits_body k b → Serves (right_at k rs) (right_at k ts)) → BodyBacked p o rs i b → BodyBacked p o ts i b
body_moves p o rs ts i (bid key points price) f h = h
body_moves p o rs ts i (offer k points) f h =
    let e : commits_body k (offer k points) ≡ pos (top 0 points) = cond-true (eqb k k) (pos (top 0 points)) (pos 0) (eq-eqb k k refl) in
    let t = offer_top points h.curve in
    f k (omega (arith, ints)) o i points h
body_moves p o rs ts i (conversion parts) f h = h

backed_moves : (p : Prices) (o : ℕ) (rs ts : List Right) (items : List Item) → ((k : ℕ) → pos 1 ≤ℤ committed k items → Serves (right_at k rs) (right_at k ts)) → AllByRecursion (Backed p o rs) items → AllByRecursion (Backed p o ts) items
backed_moves p o rs ts items f h = all_both (Backed p o rs) (λ i. (k : ℕ) → commits_body k i.body ≤ℤ committed k items) (Backed p o ts)
    (λ i b c. body_moves p o rs ts i i.body (λ k l. f k (let d = c k in omega (arith, ints))) b)
    items h (each_commits (λ k. committed k items) items (λ k. omega (arith, ints)))

-- what stands is backed and covered by these rights
pub record StandingSound (p : Prices) (o : ℕ) (rights : List Right) (items : List Item) : Type 0 where
  pub backed : AllByRecursion (Backed p o rights) items
  pub covered : (k : ℕ) → committed k items ≤ℤ pos (right_at k rights).megawatts
  pub priced : AllByRecursion (RightPriced p) rights

-- new rights
pub rights_more : (p : Prices) (o : ℕ) (rs ys : List Right) (items : List Item) → StandingSound p o rs items → AllByRecursion (RightPriced p) ys → StandingSound p o (rs ++ ys) items
rights_more p o rs ys items h q = record {
  backed = backed_moves p o rs (rs ++ ys) items (λ k l. let c = h.covered k in serves_at _ _ (right_append k rs ys (omega (arith, ints)))) h.backed;
  covered = λ k. let c = h.covered k in ⊎_elim
      (λ l. let e = ap (λ r. r.megawatts) (right_append k rs ys l) in omega (arith, ints))
      (λ l. omega (arith, ints))
      (cases_lt 0 (right_at k rs).megawatts);
  priced = All-append (RightPriced p) rs ys h.priced q;
}

-- a right loses megawatts that are not committed
pub rights_less : (p : Prices) (o : ℕ) (rs : List Right) (items : List Item) (k w : ℕ) → StandingSound p o rs items → (committed k items +ℤ pos w) ≤ℤ pos (right_at k rs).megawatts → StandingSound p o (lessened k w rs) items
rights_less p o rs items k w h l = record {
  backed = backed_moves p o rs (lessened k w rs) items (λ j c. ⊎_elim
      (λ e. let d = ap (λ i. committed i items) e in
      let m : w < (right_at k rs).megawatts = omega (arith, ints) in
      subst (λ i. Serves (right_at i rs) (right_at i (lessened k w rs))) (sym e)
      (λ o2 it points b. subst (λ r. OfferBacked o2 r it points) (sym (lessened_same k w rs m))
      record { own = b.own; requirement_is = b.requirement_is; greatest_is = b.greatest_is; ahead = b.ahead; curve = b.curve }))
      (λ n. serves_at _ _ (lessened_other k w j rs n))
      (cases_eq j k)) h.backed;
  covered = λ j. let c = h.covered j in ⊎_elim
      (λ e. subst (λ i. committed i items ≤ℤ pos (right_at i (lessened k w rs)).megawatts) (sym e)
      (⊎_elim (λ m. let f = ap (λ r. r.megawatts) (lessened_same k w rs m) in omega (arith, ints)) (λ m. omega (arith, ints)) (cases_lt w (right_at k rs).megawatts)))
      (λ n. let f = ap (λ r. r.megawatts) (lessened_other k w j rs n) in omega (arith, ints))
      (cases_eq j k);
  priced = all_lessened (RightPriced p) k w rs (λ _ q. q) h.priced;
}

pub standing_of : (s : State) → Sound s → StandingSound s.prices s.month s.rights s.items
standing_of s h = record { backed = h.backed; covered = h.covered; priced = h.priced }

-- the sum over the items that stand after one is done
pub settled_sum : (s : State) (k : ℕ) (f : Item → ℤ) → stands s k ≡ true → (sum_z f (settled s k).items +ℤ f (item_at k s.items)) ≡ sum_z f s.items
settled_sum s k f h = let r = replaced_sum f (item_numbered k) (λ _. []) no_item s.items h in omega (arith, ints)

pub settled_sound : (s : State) (k : ℕ) → stands s k ≡ true → Sound s → Sound (settled s k)
settled_sound s k t h = record {
  sums = λ c.
      let r = settled_sum s k (λ i. mine i.owner c i.requirement) t in
      let e = h.sums c in
      settled_standing (item_at k s.items).owner c (item_at k s.items).requirement (s.accounts c) (required c s.items) (required c (settled s k).items) r e;
  backed = all_replaced _ (item_numbered k) (λ _. []) s.items (λ _ _. tt) h.backed;
  covered = λ j.
      let r = settled_sum s k (λ i. commits_body j i.body) t in
      let a = commits_above j (item_at k s.items).body in
      let c = h.covered j in omega (arith, ints);
  priced = h.priced;
  window = window_items s.month s.items (settled s k).items s.phase (λ e. ap (replaced (item_numbered k) (λ _. [])) e) h.window;
}
  where
    settled_standing : (owner c : ℕ) (z : ℤ) (a : Account) (u v : ℤ) → (v +ℤ mine owner c z) ≡ u → a.standing ≡ u → (cond (eqb owner c) (drawn (neg_ℤ z) a) a).standing ≡ v
    settled_standing owner c z a u v r e =
        (elim (eqb owner c) as (λ b. (v +ℤ cond b z (pos 0)) ≡ u → (cond b (drawn (neg_ℤ z) a) a).standing ≡ v)
        [ true ↦ λ q. omega (arith, ints) | false ↦ λ q. omega (arith, ints) ]) r
