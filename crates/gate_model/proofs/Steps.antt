-- Every call keeps the state sound, and takes nobody from within to above unless it may.
use Rattle.std.proofs.lemmas.Grind.{common_steps}
use Rattle.std.proofs.lemmas.Bool.Decides.{nat_tests}
use Rattle.std.proofs.Common.{◌≡◌, ℕ, ◌+◌, ◌≤◌, true, false, cond, not, eqb, leb, List, [], ◌∷◌, map, length, ℤ, pos, ◌+ℤ◌, neg_ℤ, ◌≤ℤ◌, Ok, sym, refl, ap, ◌∙◌, subst, arith}
use lib.Signed.{lt_z}
use Rattle.std.specs.List.{AllByRecursion}
use Rattle.std.proofs.lemmas.Int.{ints}
use Rattle.std.proofs.lemmas.Bool.{cond_both, and_parts, or_parts, leb-true, true≢false, false≢true, not-false}
use Rattle.std.proofs.ByRecursion.{all_kept_by, All-map}
use Rattle.gate_model.proofs.Sums.{sum_z-append}
use Rattle.gate_model.specs.Measures.{Prices, unfinished}
use Rattle.gate_model.specs.State.{Account, Item, State, right_at, right_numbered, no_right, any, new}
use Rattle.gate_model.specs.Requirement.{mine, unsettled, values, value_left, required, above, Within, committed}
use Rattle.gate_model.specs.Effects.{with_account, secured, charged, price_or_zero, less, lessened, right_for, stand, part_of, conversion_item, transferred, turned, repriced, rebooked, ended}
use Rattle.gate_model.specs.Calls.{Call, posting, returning, charge, invoice, payment, opening, submission, conversion_of, closing, award, ending, transfer, month_turn, new_book}
use Rattle.gate_model.specs.Grounds.{grounds, is_idle, stands, after_cents, cents}
use Rattle.gate_model.specs.Run.{effect, step}
use Rattle.gate_model.specs.Law.{RightPriced, may_raise}
use Rattle.gate_model.proofs.Firsts.{all_first}
use Rattle.gate_model.proofs.Rights.{lessened_sum}
use Rattle.gate_model.proofs.Sound.{Backed, Sound, WindowSound, standing_of, rights_more, rights_less, requirement_above, committed_above}
use Rattle.gate_model.proofs.Award.{Holds, award_within, award_sound}
use Rattle.gate_model.proofs.Tables.{Unmet, decided_keeps, call_passed, not_passed, lines_passed, standing_passed, prices_passed}
use Rattle.gate_model.proofs.Standing.{tested_keeps, open_ahead, stands_too_within, submitted_sound, submitted_within, converting_sound}
use Rattle.gate_model.specs.declared.right.Right.{Right}
use Rattle.gate_model.specs.declared.phase.Phase.{Phase}
use Rattle.gate_model.specs.declared.phase.Phase.TheVariants.{Idle, Open, Closed}
use Rattle.hours.specs.Periods.{lawful_period}

-- an account changes in anything but its standing sum
account_sound : (s : State) (c : ℕ) (change : Account → Account) → ((a : Account) → (change a).standing ≡ a.standing) → Sound s → Sound (with_account s c change)
account_sound s c change f h = grind (arith, ints, nat_tests)

-- Idle
idle_items : (o : ℕ) (items : List Item) (phase : Phase) → is_idle phase ≡ true → WindowSound o items phase → items ≡ []
idle_items o items Idle e h = h
idle_items o items (Open w) e h = absurd (false≢true e)
idle_items o items (Closed w) e h = absurd (false≢true e)

idle_window : (o : ℕ) (items : List Item) (phase : Phase) → is_idle phase ≡ true → items ≡ [] → WindowSound o items phase
idle_window o items Idle e h = h
idle_window o items (Open w) e h = absurd (false≢true e)
idle_window o items (Closed w) e h = absurd (false≢true e)

none_covered : (items : List Item) (rights : List Right) (k : ℕ) → items ≡ [] → committed k items ≤ℤ pos (right_at k rights).megawatts
none_covered items rights k e = grind (arith, ints, nat_tests, common_steps)

none_backed : (p : Prices) (o : ℕ) (rights : List Right) (items : List Item) → items ≡ [] → AllByRecursion (Backed p o rights) items
none_backed p o rights items e = subst (AllByRecursion (Backed p o rights)) (sym e) tt

turned_sound : (s : State) → is_idle s.phase ≡ true → Sound s → Sound (turned s)
turned_sound s i h =
    let e = idle_items s.month s.items s.phase i h.window in
    record {
      sums = h.sums;
      backed = none_backed s.prices (s.month + 1) (turned s).rights s.items e;
      covered = λ k. none_covered s.items (turned s).rights k e;
      priced = all_kept_by (λ r. unfinished (s.month + 1) r.key.slot.period) (RightPriced s.prices) s.rights h.priced;
      window = idle_window (s.month + 1) s.items s.phase i e;
    }

rebooked_sound : (s : State) (p : Prices) → is_idle s.phase ≡ true → AllByRecursion (λ r. p r.key ≡ Ok (price_or_zero (p r.key))) s.rights → Sound s → Sound (rebooked s p)
rebooked_sound s p i t h =
    let e = idle_items s.month s.items s.phase i h.window in
    record {
      sums = h.sums;
      backed = none_backed p s.month (rebooked s p).rights s.items e;
      covered = λ k. none_covered s.items (rebooked s p).rights k e;
      priced = All-map (RightPriced p) (repriced p) s.rights t;
      window = idle_window s.month s.items s.phase i e;
    }

ended_sound : (s : State) → Sound s → Sound (ended s)
ended_sound s h = grind (arith, ints, nat_tests)

required_above : (p : Prices) (o d : ℕ) (rights : List Right) (items : List Item) → AllByRecursion (Backed p o rights) items → pos 0 ≤ℤ required d items
required_above p o d rights [] h = omega (arith, ints)
required_above p o d rights (i ∷ is) h =
    let r = required_above p o d rights is h.1 in
    let z = requirement_above p o rights i i.body h.0 in
    let m : pos 0 ≤ℤ mine i.owner d i.requirement = cond_both (eqb i.owner d) i.requirement (pos 0) (λ y. pos 0 ≤ℤ y) (λ _. z) (λ _. omega (arith, ints)) in
    omega (arith, ints)

ended_within : (s : State) (d : ℕ) → Sound s → Within s d → Within (ended s) d
ended_within s d h k =
    let r = required_above s.prices s.month d s.rights s.items h.backed in
    let u = unsettled s.month (s.accounts d) in
    grind (arith, ints, nat_tests)

-- the tests of a transfer
pub record Passed (s : State) (seller buyer k q : ℕ) : Type 0 where
  pub own : (right_at k s.rights).owner ≡ seller
  pub known : any (right_numbered k) s.rights ≡ true
  pub some : 1 ≤ q
  pub free : (committed k s.items +ℤ pos q) ≤ℤ pos (right_at k s.rights).megawatts
  pub tested : (above (transferred s buyer k q) seller ≡ false) × (above (transferred s buyer k q) buyer ≡ false)

pub transfer_passed : (s : State) (seller buyer k q : ℕ) → AllByRecursion Unmet (grounds s (transfer seller buyer k q)) → Passed s seller buyer k q
transfer_passed s seller buyer k q g =
    let g6 = not_passed _ g.1.0 in
    let g8 = and_parts (leb s.month (right_at k s.rights).key.slot.period.first) _ (not_passed _ g.1.1.1.0) in
    let g12 = lines_passed (λ c. above (transferred s buyer k q) c) 1 (seller ∷ buyer ∷ []) g.1.1.1.1.1.0 in
    grind (arith, ints, nat_tests)

transferred_sound : (s : State) (seller buyer k q : ℕ) → Passed s seller buyer k q → Sound s → Sound (transferred s buyer k q)
transferred_sound s seller buyer k q t h =
    let m = rights_less s.prices s.month s.rights s.items k q (standing_of s h) t.free in
    let r = all_first (RightPriced s.prices) (right_numbered k) no_right s.rights t.known h.priced in
    let n = rights_more s.prices s.month (lessened k q s.rights) (right_for (s.given + 1) buyer (right_at k s.rights).key q (right_at k s.rights).price (pos 0) ∷ []) s.items m (r, tt) in
    grind (arith, ints, nat_tests)

not_mine : (owner d : ℕ) (z : ℤ) → eqb owner d ≡ false → mine owner d z ≡ pos 0
not_mine owner d z e = ap (λ t. cond t z (pos 0)) e

transferred_within : (s : State) (seller buyer k q d : ℕ) → Passed s seller buyer k q → Sound s → Within s d → Within (transferred s buyer k q) d
transferred_within s seller buyer k q d t g h =
    tested_keeps (transferred s buyer k q) seller d t.tested.0 (λ e1.
    tested_keeps (transferred s buyer k q) buyer d t.tested.1 (λ e2.
    let o = s.month in
    let r = right_at k s.rights in
    let n = right_for (s.given + 1) buyer r.key q r.price (pos 0) in
    let f = λ (x : Right). mine x.owner d (value_left o x) in
    let c = committed_above k s.items in
    let u = t.free in
    let i = t.some in
    let m1 : 1 ≤ r.megawatts = omega (arith, ints) in
    let m2 : q ≤ r.megawatts = omega (arith, ints) in
    let e : eqb r.owner d ≡ false = ap (λ x. eqb x d) t.own ∙ e1 in
    let l = lessened_sum f (λ _. pos 0) k q s.rights m1 m2 refl (not_mine r.owner d (value_left o r) e) (not_mine r.owner d (value_left o (less q r)) e) in
    let a = sum_z-append f (lessened k q s.rights) (n ∷ []) in
    let b = not_mine buyer d (value_left o n) e2 in
    let v : values o d s.rights ≡ values o d (transferred s buyer k q).rights = same_sum _ _ _ _ l a b in
    subst (Holds o (s.accounts d)) v h))
  where
    same_sum : (x y z w : ℤ) → (x +ℤ pos 0) ≡ (y +ℤ pos 0) → z ≡ x +ℤ (w +ℤ pos 0) → w ≡ pos 0 → y ≡ z
    same_sum x y z w e f g = omega (arith, ints)

effect_sound : (s : State) (call : Call) → Sound s → AllByRecursion Unmet (grounds s call) → Sound (effect s call).1
effect_sound s (posting c n) h g = account_sound s c (secured (cents (after_cents s c n))) (λ _. refl) h
effect_sound s (returning c n) h g = account_sound s c (secured (cents (after_cents s c (neg_ℤ n)))) (λ _. refl) h
effect_sound s (charge c n) h g = account_sound s c (λ a. charged a.invoiced (a.calculated +ℤ n) a) (λ _. refl) h
effect_sound s (invoice c) h g = account_sound s c (λ a. charged (a.invoiced +ℤ a.calculated) (pos 0) a) (λ _. refl) h
effect_sound s (payment c) h g = account_sound s c (λ a. charged (pos 0) a.calculated a) (λ _. refl) h
effect_sound s (opening p) h g =
    let g4 = and_parts (lawful_period p) _ (not_passed _ g.1.0) in
    record { sums = h.sums; backed = h.backed; covered = h.covered; priced = h.priced; window = record { lawful = g4.0; begins = leb-true _ _ g4.1 } }
effect_sound s (submission w c lines) h g =
    let v = open_ahead s.month s.items s.phase w (not_passed _ g.1.0) h.window in
    submitted_sound c w.period lines s h v.0 v.1
    (lines_passed _ 1 lines g.1.1.1.0)
    (lines_passed _ 1 lines g.1.1.1.1.0)
    (standing_passed (stand c w.period) _ 1 s lines g.1.1.1.1.1.0)
    (prices_passed _ _ 1 lines g.1.1.1.1.1.1.1.0)
effect_sound s (conversion_of w c lines) h g =
    let v = open_ahead s.month s.items s.phase w (not_passed _ g.1.0) h.window in
    converting_sound s c w.period lines h v.0 v.1 (lines_passed _ 1 lines g.1.1.1.0) (prices_passed _ _ 1 lines g.1.1.1.1.1.0)
effect_sound s (closing w) h g = record { sums = h.sums; backed = h.backed; covered = h.covered; priced = h.priced; window = tt }
effect_sound s (award w k q x) h g =
    let g13 = and_parts (stands s k) _ (not_passed _ g.1.0) in
    award_sound s k q x g13.0 g13.1 h
effect_sound s (ending w) h g = ended_sound s h
effect_sound s (transfer seller buyer k q) h g = transferred_sound s seller buyer k q (transfer_passed s seller buyer k q g) h
effect_sound s month_turn h g = turned_sound s (not-false _ (or_parts (not (is_idle s.phase)) _ (call_passed _ g.1.0)).0) h
effect_sound s (new_book p) h g = rebooked_sound s p (not_passed _ g.0) (prices_passed _ _ 1 s.rights g.1.0) h

pub step_sound : (s : State) (call : Call) → Sound s → Sound (step s call).1
step_sound s call h = decided_keeps (λ n _. Sound n) (grounds s call) s (effect s call) h (effect_sound s call h)

-- of another customer nothing changes
other_within : (s : State) (c d : ℕ) (change : Account → Account) → eqb c d ≡ false → Within s d → Within (with_account s c change) d
other_within s c d change e h = grind (arith, ints, nat_tests)

posted_within : (s : State) (c d : ℕ) (n : ℤ) → pos 1 ≤ℤ n → Within s d → Within (with_account s c (secured (cents (after_cents s c n)))) d
posted_within s c d n l h = grind (arith, ints, nat_tests)

invoiced_within : (s : State) (c d : ℕ) → Within s d → Within (with_account s c (λ a. charged (a.invoiced +ℤ a.calculated) (pos 0) a)) d
invoiced_within s c d h = grind (arith, ints, nat_tests)

effect_within : (s : State) (call : Call) (d : ℕ) → may_raise call ≡ false → Sound s → Within s d → AllByRecursion Unmet (grounds s call) → Within (effect s call).1 d
effect_within s (posting c n) d r h k g =
    let t = (or_parts (lt_z n (pos 1)) _ (call_passed _ g.1.0)).0 in
    posted_within s c d n (omega (arith, ints)) k
effect_within s (returning c n) d r h k g =
    tested_keeps (with_account s c (secured (cents (after_cents s c (neg_ℤ n))))) c d (call_passed _ g.1.1.0) (λ e. other_within s c d (secured (cents (after_cents s c (neg_ℤ n)))) e k)
effect_within s (charge c n) d r h k g = absurd (true≢false r)
effect_within s (invoice c) d r h k g = invoiced_within s c d k
effect_within s (payment c) d r h k g = absurd (true≢false r)
effect_within s (opening p) d r h k g = k
effect_within s (submission w c lines) d r h k g =
    submitted_within c w.period d lines s (standing_passed (stand c w.period) _ 1 s lines g.1.1.1.1.1.1.1.1.1.0) k
effect_within s (conversion_of w c lines) d r h k g =
    stands_too_within s (conversion_item (length s.items + 1) c (map (part_of s w.period) lines)) d (call_passed _ g.1.1.1.1.1.1.0) k
effect_within s (closing w) d r h k g = k
effect_within s (award w i q x) d r h k g =
    let g13 = and_parts (stands s i) _ (not_passed _ g.1.0) in
    award_within s i d q x g13.0 g13.1 h k
effect_within s (ending w) d r h k g = ended_within s d h k
effect_within s (transfer seller buyer i q) d r h k g = transferred_within s seller buyer i q d (transfer_passed s seller buyer i q g) h k
effect_within s month_turn d r h k g = absurd (true≢false r)
effect_within s (new_book p) d r h k g = absurd (true≢false r)

pub step_within : (s : State) (call : Call) (d : ℕ) → may_raise call ≡ false → Sound s → Within s d → Within (step s call).1 d
step_within s call d r h k = decided_keeps (λ n _. Within n d) (grounds s call) s (effect s call) k (effect_within s call d r h k)

pub new_sound : (p : Prices) → Sound (new p)
new_sound p = grind (arith, ints, nat_tests)
