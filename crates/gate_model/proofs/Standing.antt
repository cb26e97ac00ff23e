-- Submissions and conversions: what comes to stand is backed and covered, and its owner stays within.
use Rattle.std.proofs.Common.{rules}
use Rattle.std.proofs.lemmas.Bool.Decides.{nat_tests}
use Rattle.std.proofs.Common.{◌≡◌, ℕ, ◌+◌, true, false, cond, not, eqb, List, [], ◌∷◌, ◌++◌, map, length, ℤ, pos, ◌+ℤ◌, ◌≤ℤ◌, Ok, sym, refl, ap, subst, arith}
use Rattle.std.specs.List.{AllByRecursion}
use Rattle.std.proofs.lemmas.Int.{ints}
use Rattle.std.proofs.lemmas.Bool.{cond_both, and_parts, eqb-true, not-false, false≢true}
use Rattle.std.proofs.ByRecursion.{All-push}
use Rattle.gate_model.proofs.Sums.{sum_z-append}
use Rattle.gate_model.specs.Measures.{same_period}
use Rattle.gate_model.specs.Curves.{top}
use Rattle.gate_model.specs.State.{Account, Item, State, right_at, right_numbered, any}
use Rattle.gate_model.specs.Requirement.{mine, required, values, above, Within, commits_body, committed}
use Rattle.gate_model.specs.Effects.{Line, bid_line, offer_line, price_or_zero, line_key, drawn, changed, stands_too, item_of, stand, submitted, part_of, conversion_item, converting}
use Rattle.gate_model.specs.Grounds.{shows_open, lawful_line, lawful_request, owns, free, asked}
use Rattle.gate_model.proofs.Months.{Ahead}
use Rattle.gate_model.proofs.Award.{Holds}
use Rattle.gate_model.proofs.Tables.{Passes}
use Rattle.gate_model.proofs.Sound.{PartBacked, Backed, Sound, WindowSound}
use Rattle.hours.specs.declared.period.Period.{Period}
use Rattle.gate_model.specs.declared.conversion.Request.{Request}
use Rattle.gate_model.specs.declared.phase.Phase.{Phase}
use Rattle.gate_model.specs.declared.phase.Window.{Window}
use Rattle.gate_model.specs.declared.phase.Phase.TheVariants.{Idle, Open, Closed}
use Rattle.books.specs.Keys.{lawful_path}
use Rattle.hours.specs.Periods.{lawful_class}

-- a test against the security, as a fact
pub not_above : (s : State) (c : ℕ) → above s c ≡ false → Within s c
not_above s c h = omega (arith, ints)

-- a change of which its customer is tested, and that leaves the others alone
pub tested_keeps : (n : State) (c d : ℕ) → above n c ≡ false → (eqb c d ≡ false → Within n d) → Within n d
tested_keeps n c d h f = search rules

same_ahead : (o : ℕ) (p q : Period) → same_period p q ≡ true → Ahead o p → Ahead o q
same_ahead o p q e h = grind (arith, ints, nat_tests)

-- an open window's period lies ahead, and anything may stand
pub open_ahead : (o : ℕ) (items : List Item) (phase : Phase) (w : Window) → shows_open phase w ≡ true → WindowSound o items phase → Ahead o w.period × ((xs : List Item) → WindowSound o xs phase)
open_ahead o items Idle w e h = absurd (false≢true e)
open_ahead o items (Open v) w e h = search rules
open_ahead o items (Closed v) w e h = absurd (false≢true e)

pub stands_too_sound : (s : State) (i : Item) → Sound s → Backed s.prices s.month s.rights i
    → ((k : ℕ) → (committed k s.items +ℤ commits_body k i.body) ≤ℤ pos (right_at k s.rights).megawatts)
    → ((xs : List Item) → WindowSound s.month xs s.phase) → Sound (stands_too s i)
stands_too_sound s i h b f w = record {
  sums = λ c.
      let a = sum_z-append (λ j. mine j.owner c j.requirement) s.items (i ∷ []) in
      drawn_standing i.owner c i.requirement (s.accounts c) (required c s.items) (required c (s.items ++ i ∷ [])) (h.sums c) a;
  backed = All-push (Backed s.prices s.month s.rights) s.items i h.backed b;
  covered = λ k. let a = sum_z-append (λ j. commits_body k j.body) s.items (i ∷ []) in let g = f k in omega (arith, ints);
  priced = h.priced;
  window = w (s.items ++ i ∷ []);
}
  where
    drawn_standing : (owner c : ℕ) (z : ℤ) (a : Account) (u v : ℤ) → a.standing ≡ u → v ≡ u +ℤ (mine owner c z +ℤ pos 0) → (cond (eqb owner c) (drawn z a) a).standing ≡ v
    drawn_standing owner c z a u v e r =
        (elim (eqb owner c) as (λ b. v ≡ u +ℤ (cond b z (pos 0) +ℤ pos 0) → (cond b (drawn z a) a).standing ≡ v)
        [ true ↦ λ q. omega (arith, ints) | false ↦ λ q. omega (arith, ints) ]) r

-- of another's account nothing changes
pub other_account : (accounts : ℕ → Account) (c d : ℕ) (change : Account → Account) → eqb c d ≡ false → changed accounts c change d ≡ accounts d
other_account accounts c d change e = ap (λ b. cond b (change (accounts d)) (accounts d)) e

pub stands_too_within : (s : State) (i : Item) (d : ℕ) → above (stands_too s i) i.owner ≡ false → Within s d → Within (stands_too s i) d
stands_too_within s i d t h = tested_keeps (stands_too s i) i.owner d t
    (λ e. subst (λ a. Holds s.month a (values s.month d s.rights)) (sym (other_account s.accounts i.owner d (drawn i.requirement) e)) h)

turned_round : (p q : Period) → same_period p q ≡ true → same_period q p ≡ true
turned_round p q e = grind (arith, ints, nat_tests)

line_sound : (c : ℕ) (p : Period) (s : State) (l : Line) → Sound s → Ahead s.month p → ((xs : List Item) → WindowSound s.month xs s.phase)
    → lawful_line l ≡ true → owns c s.rights l ≡ true → free p s l ≡ true → asked s.prices s.rights p l ≡ Ok (price_or_zero (asked s.prices s.rights p l))
    → Sound (stand c p s l)
line_sound c p s (bid_line path class points) h a w t6 t7 t8 t10 =
    stands_too_sound s (item_of s c p (bid_line path class points)) h
    record { requirement_is = refl; greatest_is = refl; ahead = a; priced = t10; curve = (and_parts (lawful_class class) _ (and_parts (lawful_path path) _ t6).1).1 }
    (λ k. let g = h.covered k in omega (arith, ints)) w
line_sound c p s (offer_line k points) h a w t6 t7 t8 t10 =
    let r = right_at k s.rights in
    let u = and_parts (same_period r.key.slot.period p) _ t8 in
    let own = eqb-true _ _ (and_parts (any (right_numbered k) s.rights) _ t7).1 in
    stands_too_sound s (item_of s c p (offer_line k points)) h
    record { own = own; requirement_is = refl; greatest_is = refl; ahead = same_ahead s.month p r.key.slot.period (turned_round r.key.slot.period p u.0) a; curve = t6 }
    (λ j. let g = h.covered j in
    cond_both (eqb k j) (pos (top 0 points)) (pos 0) (λ z. (committed j s.items +ℤ z) ≤ℤ pos (right_at j s.rights).megawatts)
    (λ e. subst (λ i. (committed i s.items +ℤ pos (top 0 points)) ≤ℤ pos (right_at i s.rights).megawatts) (eqb-true k j e) (let v = u.1 in omega (arith, ints)))
    (λ _. omega (arith, ints))) w

line_within : (c : ℕ) (p : Period) (s : State) (l : Line) (d : ℕ) → above (stand c p s l) c ≡ false → Within s d → Within (stand c p s l) d
line_within c p s (bid_line path class points) d t h = stands_too_within s (item_of s c p (bid_line path class points)) d t h
line_within c p s (offer_line k points) d t h = stands_too_within s (item_of s c p (offer_line k points)) d t h

pub submitted_sound : (c : ℕ) (p : Period) (ls : List Line) (s : State) → Sound s → Ahead s.month p → ((xs : List Item) → WindowSound s.month xs s.phase)
    → AllByRecursion (λ l. not (lawful_line l) ≡ false) ls → AllByRecursion (λ l. not (owns c s.rights l) ≡ false) ls → Passes (stand c p) (λ t l. not (free p t l)) s ls
    → AllByRecursion (λ l. asked s.prices s.rights p l ≡ Ok (price_or_zero (asked s.prices s.rights p l))) ls
    → Sound (submitted s c p ls)
submitted_sound c p [] s h a w t6 t7 t8 t10 = h
submitted_sound c p (l ∷ ls) s h a w t6 t7 t8 t10 =
    submitted_sound c p ls (stand c p s l)
    (line_sound c p s l h a w (not-false _ t6.0) (not-false _ t7.0) (not-false _ t8.0) t10.0)
    a w t6.1 t7.1 t8.1 t10.1

pub submitted_within : (c : ℕ) (p : Period) (d : ℕ) (ls : List Line) (s : State) → Passes (stand c p) (λ t l. above (stand c p t l) c) s ls → Within s d → Within (submitted s c p ls) d
submitted_within c p d [] s t h = h
submitted_within c p d (l ∷ ls) s t h = submitted_within c p d ls (stand c p s l) t.1 (line_within c p s l d t.0 h)

parts_backed : (s : State) (p : Period) (ls : List Request) → Ahead s.month p → AllByRecursion (λ l. not (lawful_request l) ≡ false) ls
    → AllByRecursion (λ l. s.prices (line_key p l.path l.class) ≡ Ok (price_or_zero (s.prices (line_key p l.path l.class)))) ls
    → AllByRecursion (PartBacked s.prices s.month) (map (part_of s p) ls)
parts_backed s p [] a q t = tt
parts_backed s p (l ∷ ls) a q t =
    (record { ahead = a; priced = t.0; size = (and_parts (lawful_class l.class) _ (and_parts (lawful_path l.path) _ (not-false _ q.0)).1).1 }, parts_backed s p ls a q.1 t.1)

pub converting_sound : (s : State) (c : ℕ) (p : Period) (ls : List Request) → Sound s → Ahead s.month p → ((xs : List Item) → WindowSound s.month xs s.phase) → AllByRecursion (λ l. not (lawful_request l) ≡ false) ls
    → AllByRecursion (λ l. s.prices (line_key p l.path l.class) ≡ Ok (price_or_zero (s.prices (line_key p l.path l.class)))) ls
    → Sound (converting s c p ls)
converting_sound s c p ls h a w q t = stands_too_sound s (conversion_item (length s.items + 1) c (map (part_of s p) ls)) h
    record { requirement_is = refl; greatest_is = refl; each = parts_backed s p ls a q t } (λ k. let g = h.covered k in omega (arith, ints)) w
