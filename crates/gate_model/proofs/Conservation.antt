-- Every call changes what is held of an unfinished key by what it clears.
use Rattle.std.proofs.lemmas.Grind.{common_steps}
use Rattle.std.proofs.lemmas.Bool.Decides.{nat_tests}
use Rattle.std.proofs.Common.{◌≡◌, ℕ, ◌+◌, ◌-◌, ◌≤◌, Bool, true, false, cond, eqb, List, [], ◌∷◌, ◌++◌, map, ℤ, pos, ◌+ℤ◌, fold, filter, sym, refl, ap, arith}
use Rattle.std.specs.List.{AllByRecursion}
use Rattle.std.proofs.lemmas.Int.{ints}
use Rattle.std.proofs.lemmas.Bool.{cond_both, cond-false, and_parts, ltb-true, lt-ltb}
use Rattle.gate_model.specs.Sums.{sum_z}
use Rattle.gate_model.proofs.Sums.{sum_z-append}
use Rattle.gate_model.specs.Measures.{Prices, unfinished}
use Rattle.gate_model.specs.State.{Body, bid, offer, conversion, State, right_at, item_at}
use Rattle.gate_model.specs.Effects.{Line, lessened, right_for, rights_of, settled, cleared, awarded, stand, submitted, transferred, repriced}
use Rattle.gate_model.specs.Calls.{Call, posting, returning, charge, invoice, payment, opening, submission, conversion_of, closing, award, ending, transfer, month_turn, new_book}
use Rattle.gate_model.specs.Grounds.{grounds, stands, lawful_award, lawful_on}
use Rattle.gate_model.specs.Run.{effect, step, next}
use Rattle.gate_model.specs.Conservation.{of_key, held, buys, converts, sells, clears, along}
use Rattle.gate_model.proofs.Rights.{lessened_sum}
use Rattle.gate_model.proofs.Sound.{BodyBacked, Sound, committed_above}
use Rattle.gate_model.proofs.Award.{offer_takes, item_backed, lawful_some}
use Rattle.gate_model.proofs.Tables.{Unmet, decided_keeps, not_passed}
use Rattle.gate_model.proofs.Steps.{Passed, transfer_passed, step_sound}
use Rattle.hours.specs.declared.period.Period.{Period}
use Rattle.books.specs.declared.key.Key.{Key}
use Rattle.gate_model.specs.declared.conversion.Part.{Part}
use Rattle.gate_model.specs.declared.right.Right.{Right}
use Rattle.gate_model.specs.declared.outcome.Outcome.{Outcome}

none_of_key : (k key : Key) → of_key k key 0 ≡ pos 0
none_of_key k key = grind (arith, ints, nat_tests, common_steps)

of_key_parts : (k key : Key) (q w : ℕ) → w ≤ q → (of_key k key (q - w) +ℤ of_key k key w) ≡ of_key k key q
of_key_parts k key q w l = grind (arith, ints, nat_tests)

-- a right loses w of its key
held_less : (k : Key) (n w : ℕ) (rights : List Right) → 1 ≤ (right_at n rights).megawatts → w ≤ (right_at n rights).megawatts
    → (sum_z (λ r. of_key k r.key r.megawatts) (lessened n w rights) +ℤ of_key k (right_at n rights).key w) ≡ sum_z (λ r. of_key k r.key r.megawatts) rights
held_less k n w rights some enough =
    let r = right_at n rights in
    let s = lessened_sum (λ r. of_key k r.key r.megawatts) (of_key k r.key) n w rights some enough (none_of_key k r.key) refl refl in
    let p = of_key_parts k r.key r.megawatts w enough in
    omega (arith, ints)

held_parts : (k : Key) (given c : ℕ) (parts : List Part) → sum_z (λ r. of_key k r.key r.megawatts) (rights_of given c parts) ≡ sum_z (λ l. of_key k l.key l.megawatts) parts
held_parts k given c [] = refl
held_parts k given c (l ∷ ls) = ap (λ z. of_key k l.key l.megawatts +ℤ z) (held_parts k (given + 1) c ls)

held-repriced : (k : Key) (p : Prices) (rights : List Right) → sum_z (λ r. of_key k r.key r.megawatts) (map (repriced p) rights) ≡ sum_z (λ r. of_key k r.key r.megawatts) rights
held-repriced k p [] = refl
held-repriced k p (r ∷ rs) = ap (λ z. of_key k r.key r.megawatts +ℤ z) (held-repriced k p rs)

kept_all : {X : Type 0} (f : X → ℤ) (p : X → Bool) → ((x : X) → p x ≡ false → f x ≡ pos 0) → (xs : List X) → sum_z f (filter p xs) ≡ sum_z f xs
kept_all f p h [] = refl
kept_all f p h (x ∷ xs) =
    let r = kept_all f p h xs in
    grind (arith, ints, nat_tests)

-- a right of an unfinished key is unfinished
finished_none : (k : Key) (o : ℕ) → unfinished o k.slot.period ≡ true → (r : Right) → unfinished o r.key.slot.period ≡ false → of_key k r.key r.megawatts ≡ pos 0
finished_none k o u r n = grind (arith, ints, nat_tests)

submitted_rights : (c : ℕ) (p : Period) (ls : List Line) (s : State) → (submitted s c p ls).rights ≡ s.rights
submitted_rights c p [] s = refl
submitted_rights c p (l ∷ ls) s = submitted_rights c p ls (stand c p s l)

submitted_month : (c : ℕ) (p : Period) (ls : List Line) (s : State) → (submitted s c p ls).month ≡ s.month
submitted_month c p [] s = refl
submitted_month c p (l ∷ ls) s = submitted_month c p ls (stand c p s l)

-- an award on the item i
zero_moves : (k : Key) (s : State) (w : ℕ) (b : Body) → eqb w 0 ≡ true → (held k s +ℤ sells k s b w) ≡ ((held k s +ℤ buys k s b w) +ℤ converts k s b w)
zero_moves k s w (bid key points price) e = grind (arith, ints, nat_tests, common_steps)
zero_moves k s w (offer n points) e = grind (arith, ints, nat_tests)
zero_moves k s w (conversion parts) e = grind (arith, ints, nat_tests)

some_moves : (k : Key) (s : State) (i w : ℕ) (x : ℤ) (b : Body) → b ≡ (item_at i s.items).body → stands s i ≡ true → Sound s
    → BodyBacked s.prices s.month s.rights (item_at i s.items) b → lawful_on b w x ≡ true → eqb w 0 ≡ false
    → (held k (cleared (settled s i) (item_at i s.items).owner b w x) +ℤ sells k s b w) ≡ ((held k s +ℤ buys k s b w) +ℤ converts k s b w)
some_moves k s i w x (bid key points price) e t h b l z =
    let a = sum_z-append (λ r. of_key k r.key r.megawatts) s.rights (right_for (s.given + 1) (item_at i s.items).owner key w price x ∷ []) in
    omega (arith, ints)
some_moves k s i w x (offer n points) e t h b l z =
    let u = offer_takes s i w n x points t h (sym e) b l in
    let a = held_less k n w s.rights u.some u.enough in
    omega (arith, ints)
some_moves k s i w x (conversion parts) e t h b l z =
    let c = (item_at i s.items).owner in
    let a = sum_z-append (λ r. of_key k r.key r.megawatts) s.rights (rights_of s.given c parts) in
    let q = held_parts k s.given c parts in
    let y = cond-false (eqb w 0) (pos 0) (sum_z (λ l. of_key k l.key l.megawatts) parts) z in
    omega (arith, ints)

award_moves : (k : Key) (s : State) (i w : ℕ) (x : ℤ) → stands s i ≡ true → lawful_award (item_at i s.items) w x ≡ true → Sound s
    → (held k (awarded s i w x) +ℤ sells k s (item_at i s.items).body w) ≡ ((held k s +ℤ buys k s (item_at i s.items).body w) +ℤ converts k s (item_at i s.items).body w)
award_moves k s i w x t l h =
    let b = (item_at i s.items).body in
    cond_both (eqb w 0) (settled s i) (cleared (settled s i) (item_at i s.items).owner b w x) (λ n. (held k n +ℤ sells k s b w) ≡ ((held k s +ℤ buys k s b w) +ℤ converts k s b w))
    (λ z. zero_moves k s w b z)
    (λ z. some_moves k s i w x b refl t h (item_backed s i t h) (lawful_some (item_at i s.items) w x l z) z)

-- nothing moved
still : (x y : ℤ) → x ≡ y → (x +ℤ pos 0) ≡ ((y +ℤ pos 0) +ℤ pos 0)
still x y e = omega (arith, ints)

unmoved : (k : Key) (s : State) (call : Call) → (AllByRecursion Unmet (grounds s call) → unfinished (effect s call).1.month k.slot.period ≡ true → held k (effect s call).1 ≡ held k s)
    → unfinished (step s call).1.month k.slot.period ≡ true → (held k (step s call).1 +ℤ pos 0) ≡ ((held k s +ℤ pos 0) +ℤ pos 0)
unmoved k s call f = decided_keeps (λ n _. unfinished n.month k.slot.period ≡ true → (held k n +ℤ pos 0) ≡ ((held k s +ℤ pos 0) +ℤ pos 0)) (grounds s call) s (effect s call)
    (λ _. still (held k s) (held k s) refl) (λ g u. still (held k (effect s call).1) (held k s) (f g u))

transferred_held : (k : Key) (s : State) (seller buyer i q : ℕ) → Passed s seller buyer i q → held k (transferred s buyer i q) ≡ held k s
transferred_held k s seller buyer i q t =
    let c = committed_above i s.items in
    let f = t.free in
    let m = t.some in
    let r = right_at i s.rights in
    let m1 : 1 ≤ r.megawatts = omega (arith, ints) in
    let m2 : q ≤ r.megawatts = omega (arith, ints) in
    let a = held_less k i q s.rights m1 m2 in
    let b = sum_z-append (λ r. of_key k r.key r.megawatts) (lessened i q s.rights) (right_for (s.given + 1) buyer r.key q r.price (pos 0) ∷ []) in
    omega (arith, ints)

abbrev Moves : Key → State → Call → State → Type 0
Moves k s call n = (held k n +ℤ clears (sells k) s call) ≡ ((held k s +ℤ clears (buys k) s call) +ℤ clears (converts k) s call)

pub step_moves : (k : Key) (s : State) (call : Call) → Sound s → unfinished (step s call).1.month k.slot.period ≡ true → Moves k s call (step s call).1
step_moves k s (posting c n) h = unmoved k s (posting c n) (λ _ _. refl)
step_moves k s (returning c n) h = unmoved k s (returning c n) (λ _ _. refl)
step_moves k s (charge c n) h = unmoved k s (charge c n) (λ _ _. refl)
step_moves k s (invoice c) h = unmoved k s (invoice c) (λ _ _. refl)
step_moves k s (payment c) h = unmoved k s (payment c) (λ _ _. refl)
step_moves k s (opening p) h = unmoved k s (opening p) (λ _ _. refl)
step_moves k s (submission w c lines) h = unmoved k s (submission w c lines) (λ _ _. ap (sum_z (λ r. of_key k r.key r.megawatts)) (submitted_rights c w.period lines s))
step_moves k s (conversion_of w c lines) h = unmoved k s (conversion_of w c lines) (λ _ _. refl)
step_moves k s (closing w) h = unmoved k s (closing w) (λ _ _. refl)
step_moves k s (award w i q x) h =
    let b = (item_at i s.items).body in
    decided_keeps (λ n t. unfinished n.month k.slot.period ≡ true → (held k n +ℤ cond t (sells k s b q) (pos 0)) ≡ ((held k s +ℤ cond t (buys k s b q) (pos 0)) +ℤ cond t (converts k s b q) (pos 0)))
    (grounds s (award w i q x)) s (effect s (award w i q x)) (λ _. still (held k s) (held k s) refl)
    (λ g u. let g13 = and_parts (stands s i) _ (not_passed _ g.1.0) in award_moves k s i q x g13.0 g13.1 h)
step_moves k s (ending w) h = unmoved k s (ending w) (λ _ _. refl)
step_moves k s (transfer seller buyer i q) h = unmoved k s (transfer seller buyer i q) (λ g _. transferred_held k s seller buyer i q (transfer_passed s seller buyer i q g))
step_moves k s month_turn h = unmoved k s month_turn
    (λ _ u. kept_all (λ r. of_key k r.key r.megawatts) (λ r. unfinished (s.month + 1) r.key.slot.period) (finished_none k (s.month + 1) u) s.rights)
step_moves k s (new_book p) h = unmoved k s (new_book p) (λ _ _. held-repriced k p s.rights)

-- the open month never falls
cleared_month : (s : State) (c : ℕ) (b : Body) (w : ℕ) (x : ℤ) → (cleared s c b w x).month ≡ s.month
cleared_month s c (bid key points price) w x = refl
cleared_month s c (offer n points) w x = refl
cleared_month s c (conversion parts) w x = refl

effect_month : (s : State) (call : Call) → s.month ≤ (effect s call).1.month
effect_month s (posting c n) = omega arith
effect_month s (returning c n) = omega arith
effect_month s (charge c n) = omega arith
effect_month s (invoice c) = omega arith
effect_month s (payment c) = omega arith
effect_month s (opening p) = omega arith
effect_month s (submission w c lines) = let e = submitted_month c w.period lines s in omega arith
effect_month s (conversion_of w c lines) = omega arith
effect_month s (closing w) = omega arith
effect_month s (award w i q x) = grind (arith, ints, nat_tests)
effect_month s (ending w) = omega arith
effect_month s (transfer seller buyer i q) = omega arith
effect_month s month_turn = omega arith
effect_month s (new_book p) = omega arith

step_month : (s : State) (call : Call) → s.month ≤ (step s call).1.month
step_month s call = decided_keeps (λ n _. s.month ≤ n.month) (grounds s call) s (effect s call) (omega arith) (λ _. effect_month s call)

calls_month : (calls : List Call) (os : List Outcome) (s : State) → s.month ≤ (fold next (os, s) calls).1.month
calls_month [] os s = omega arith
calls_month (call ∷ calls) os s = let a = step_month s call in let r = calls_month calls (os ++ (step s call).0 ∷ []) (step s call).1 in omega arith

earlier : (o n : ℕ) (p : Period) → o ≤ n → unfinished n p ≡ true → unfinished o p ≡ true
earlier o n p l u = let t = ltb-true _ _ u in lt-ltb _ _ (omega arith)

pub calls_move : (k : Key) (calls : List Call) (os : List Outcome) (s : State) → Sound s → unfinished (fold next (os, s) calls).1.month k.slot.period ≡ true
    → (held k (fold next (os, s) calls).1 +ℤ along (clears (sells k)) s calls) ≡ ((held k s +ℤ along (clears (buys k)) s calls) +ℤ along (clears (converts k)) s calls)
calls_move k [] os s h u = omega (arith, ints)
calls_move k (call ∷ calls) os s h u =
    let n = (step s call).1 in
    let ot = os ++ (step s call).0 ∷ [] in
    let r = calls_move k calls ot n (step_sound s call h) u in
    let m = calls_month calls ot n in
    let t = step_moves k s call h (earlier n.month (fold next (ot, n) calls).1.month k.slot.period m u) in
    joined (held k (fold next (ot, n) calls).1) (along (clears (sells k)) n calls) (held k n) (held k s) (along (clears (buys k)) n calls) (along (clears (converts k)) n calls)
    (clears (buys k) s call) (clears (converts k) s call) (clears (sells k) s call) r t
  where
    joined : (e x n s b c sb sc ss : ℤ) → (e +ℤ x) ≡ ((n +ℤ b) +ℤ c) → (n +ℤ ss) ≡ ((s +ℤ sb) +ℤ sc) → (e +ℤ (ss +ℤ x)) ≡ ((s +ℤ (sb +ℤ b)) +ℤ (sc +ℤ c))
    joined e x n s b c sb sc ss p q = omega (arith, ints)
