-- Room in the tables, limits of accounts, and numbers that rise.
use Rattle.gate_model.proofs.Rights.{all_lessened}
use Rattle.std.proofs.lemmas.Grind.{common_steps}
use Rattle.std.proofs.lemmas.Bool.Decides.{nat_tests}
use Rattle.std.proofs.Common.{◌≡◌, ℕ, suc, ◌+◌, ◌-◌, ◌^◌, ◌<◌, ◌≤◌, Bool, true, false, cond, not, eqb, ltb, leb, List, [], ◌∷◌, ◌++◌, map, length, take, ℤ, pos, ◌+ℤ◌, neg_ℤ, None, sum_by, filter, sym, refl, ap, ◌∙◌, subst, arith, length-append, add-zero}
use lib.ListN.{length-map}
use lib.Signed.{lt_z}
use borrow.Author.Differences.{abs_is}
use Rattle.std.specs.List.{AllByRecursion}
use Rattle.std.proofs.lemmas.Int.{ints}
use Rattle.std.proofs.lemmas.Bool.{cond_both, and_parts, or_parts, and_from, ltb-true, leb-true, le-leb, not-false, false≢true}
use Rattle.std.proofs.lemmas.List.Sums.{sum_by-cons, length-filter, count_by-le-length}
use Rattle.std.proofs.ByRecursion.{All-append, All-weaker, all_kept_by, All-map}
use Rattle.gate_model.specs.Measures.{Prices, lawful_megawatts, unfinished}
use Rattle.gate_model.specs.State.{Account, Body, bid, offer, conversion, Item, State, the_first, any, replaced, right_at, right_numbered, item_at, item_numbered, no_item, new}
use Rattle.gate_model.specs.Effects.{Line, changed, with_account, secured, charged, costed, less, rest, lessened, rights_of, right_for, settled, cleared, stands_too, item_of, stand, submitted, part_of, conversion_item, converting, transferred, month_charged, repriced, unstood}
use Rattle.gate_model.specs.Calls.{Call, posting, returning, charge, invoice, payment, opening, submission, conversion_of, closing, award, ending, transfer, month_turn, new_book}
use Rattle.gate_model.specs.Grounds.{met_at, lawful_on, at_line, grounds, stands, crowded, lines_of, new_of, standing_lines, standing_new, lawful_count, customers, outside, after_cents, cents}
use Rattle.gate_model.specs.Run.{effect, step}
use Rattle.gate_model.specs.Law.{Sane, Roomy, Rising, Numbered}
use Rattle.gate_model.proofs.Firsts.{all_both, all_replaced}
use Rattle.gate_model.proofs.Blocks.{bid_block}
use Rattle.gate_model.proofs.Sound.{PartBacked, BodyBacked, Sound}
use Rattle.gate_model.proofs.Award.{item_backed, lawful_some, awarded_by}
use Rattle.gate_model.proofs.Tables.{Unmet, Passes, decided_keeps, call_passed, not_passed, lines_passed, standing_passed, none_met}
use Rattle.hours.specs.declared.period.Period.{Period}
use Rattle.gate_model.specs.declared.conversion.Part.{Part}
use Rattle.gate_model.specs.declared.conversion.Request.{Request}
use Rattle.gate_model.specs.declared.right.Right.{Right}
use Rattle.hours.specs.Bounds.{within}

-- room
not_crowded : (s : State) → crowded s ≡ false → Roomy s
not_crowded s h = grind (arith, ints, nat_tests)

replaced_count : {X : Type 0} (f : X → ℕ) (p : X → Bool) (d : X) (xs : List X) → any p xs ≡ true → sum_by f (replaced p (λ _. []) xs) + f (the_first p d xs) ≡ sum_by f xs
replaced_count f p d [] h = absurd (false≢true h)
replaced_count f p d (x ∷ xs) h =
    let r = replaced_count f p d xs in
    let a = sum_by-cons f x xs in
    let b = sum_by-cons f x (replaced p (λ _. []) xs) in
    grind (arith, ints, nat_tests)

lessened_length : (k w : ℕ) (rs : List Right) → length (lessened k w rs) ≤ length rs
lessened_length k w [] = omega arith
lessened_length k w (r ∷ rs) =
    let i = lessened_length k w rs in
    grind (arith, ints, nat_tests)

rights_of_length : (given c : ℕ) (parts : List Part) → length (rights_of given c parts) ≡ length parts
rights_of_length given c [] = refl
rights_of_length given c (l ∷ ls) = ap suc (rights_of_length (given + 1) c ls)

cleared_roomy : (s : State) (k w : ℕ) (x : ℤ) (b : Body) → b ≡ (item_at k s.items).body → stands s k ≡ true → Roomy s → Roomy (cleared (settled s k) (item_at k s.items).owner b w x)
cleared_roomy s k w x b e t h = go b (replaced_count (λ i. lines_of i.body) (item_numbered k) no_item s.items t) (replaced_count (λ i. new_of i.body) (item_numbered k) no_item s.items t) (ap lines_of e) (ap new_of e)
  where
    go : (b : Body) → standing_lines (settled s k) + lines_of (item_at k s.items).body ≡ standing_lines s → standing_new (settled s k) + new_of (item_at k s.items).body ≡ standing_new s
        → lines_of b ≡ lines_of (item_at k s.items).body → new_of b ≡ new_of (item_at k s.items).body → Roomy (cleared (settled s k) (item_at k s.items).owner b w x)
    go (bid key points price) r1 r2 e1 e2 =
        let a = h.lines in let c = h.rights in let d = h.numbers in
        let n = length-append s.rights (right_for (s.given + 1) (item_at k s.items).owner key w price x ∷ []) in
        record { lines = omega arith; rights = omega arith; numbers = omega arith }
    go (offer n points) r1 r2 e1 e2 =
        let a = h.lines in let c = h.rights in let d = h.numbers in
        let l = lessened_length n w s.rights in
        record { lines = omega arith; rights = omega arith; numbers = omega arith }
    go (conversion parts) r1 r2 e1 e2 =
        let a = h.lines in let c = h.rights in let d = h.numbers in
        let n = length-append s.rights (rights_of s.given (item_at k s.items).owner parts) in
        let m = rights_of_length s.given (item_at k s.items).owner parts in
        record { lines = omega arith; rights = omega arith; numbers = omega arith }

settled_roomy : (s : State) (k : ℕ) → stands s k ≡ true → Roomy s → Roomy (settled s k)
settled_roomy s k t h =
    let r1 = replaced_count (λ i. lines_of i.body) (item_numbered k) no_item s.items t in
    let r2 = replaced_count (λ i. new_of i.body) (item_numbered k) no_item s.items t in
    grind (arith, ints, nat_tests)

submitted_roomy : (c : ℕ) (p : Period) (ls : List Line) (s : State) → Passes (stand c p) (λ t l. crowded (stand c p t l)) s ls → Roomy s → Roomy (submitted s c p ls)
submitted_roomy c p [] s t h = h
submitted_roomy c p (l ∷ ls) s t h = submitted_roomy c p ls (stand c p s l) t.1 (not_crowded (stand c p s l) t.0)

-- the test of the last line
last_passed : {X : Type 0} (f : ℕ → Bool) (i : ℕ) (l : X) (ls : List X) → at_line (λ n _. f n) i (l ∷ ls) ≡ None → f (i + length ls) ≡ false
last_passed f i l [] e = rw add-zero (none_met (f i) (met_at i) None e).0
last_passed f i l (k ∷ ls) e =
    let n : i + suc (length ls) ≡ suc i + length ls = omega arith in
    ap f n ∙ last_passed f (suc i) k ls (none_met (f i) (met_at i) _ e).1

converting_roomy : (s : State) (c : ℕ) (p : Period) (lines : List Request) → lawful_count (length lines) ≡ true → at_line (λ i _. crowded (converting s c p (take i lines))) 1 lines ≡ None → Roomy (converting s c p lines)
converting_roomy s c p [] n e = absurd (false≢true n)
converting_roomy s c p (l ∷ ls) n e =
    let t = last_passed (λ i. crowded (converting s c p (take i (l ∷ ls)))) 1 l ls e in
    grind (arith, ints, nat_tests, common_steps)

effect_roomy : (s : State) (call : Call) → Roomy s → AllByRecursion Unmet (grounds s call) → Roomy (effect s call).1
effect_roomy s (posting c n) h t = record { lines = h.lines; rights = h.rights; numbers = h.numbers }
effect_roomy s (returning c n) h t = record { lines = h.lines; rights = h.rights; numbers = h.numbers }
effect_roomy s (charge c n) h t = record { lines = h.lines; rights = h.rights; numbers = h.numbers }
effect_roomy s (invoice c) h t = record { lines = h.lines; rights = h.rights; numbers = h.numbers }
effect_roomy s (payment c) h t = record { lines = h.lines; rights = h.rights; numbers = h.numbers }
effect_roomy s (opening p) h t = record { lines = h.lines; rights = h.rights; numbers = h.numbers }
effect_roomy s (submission w c lines) h t = submitted_roomy c w.period lines s (standing_passed (stand c w.period) _ 1 s lines t.1.1.1.1.1.1.0) h
effect_roomy s (conversion_of w c lines) h t = converting_roomy s c w.period lines (not_passed _ t.1.1.0) t.1.1.1.1.0
effect_roomy s (closing w) h t = record { lines = h.lines; rights = h.rights; numbers = h.numbers }
effect_roomy s (award w k q x) h t =
    let t13 = and_parts (stands s k) _ (not_passed _ t.1.0) in
    awarded_by Roomy s k q x (settled_roomy s k t13.0 h) (λ _. cleared_roomy s k q x (item_at k s.items).body refl t13.0 h)
effect_roomy s (ending w) h t = let a = h.rights in let b = h.numbers in record { lines = omega arith; rights = omega arith; numbers = omega arith }
effect_roomy s (transfer seller buyer k q) h t = not_crowded (transferred s buyer k q) (call_passed _ t.1.1.1.1.0)
effect_roomy s month_turn h t =
    let a = length-filter (λ r. unfinished (s.month + 1) r.key.slot.period) s.rights in
    let b = count_by-le-length (λ r. unfinished (s.month + 1) r.key.slot.period) s.rights in
    let c = h.rights in
    record { lines = h.lines; rights = omega arith; numbers = h.numbers }
effect_roomy s (new_book p) h t = let a = length-map s.rights (repriced p) in let c = h.rights in record { lines = h.lines; rights = omega arith; numbers = h.numbers }

pub step_roomy : (s : State) (call : Call) → Roomy s → Roomy (step s call).1
step_roomy s call h = decided_keeps (λ n _. Roomy n) (grounds s call) s (effect s call) h (effect_roomy s call h)

pub new_roomy : (p : Prices) → Roomy (new p)
new_roomy p = grind (arith, ints, nat_tests, common_steps)

-- accounts
abbrev AllSane : (ℕ → Account) → Type 0
AllSane accounts = AllByRecursion (λ c. Sane (accounts c)) customers

changed_sane : (accounts : ℕ → Account) (c : ℕ) (change : Account → Account) → (Sane (accounts c) → Sane (change (accounts c))) → AllSane accounts → AllSane (changed accounts c change)
changed_sane accounts c change f h = grind (arith, ints, nat_tests)

untouched : (a b : Account) → b.security ≡ a.security → b.invoiced ≡ a.invoiced → b.calculated ≡ a.calculated → Sane a → Sane b
untouched a b e1 e2 e3 h = record {
  security = subst (λ x. x ≤ 10 ^ 13) (sym e1) h.security;
  invoiced = subst (λ x. within (10 ^ 17) x ≡ true) (sym e2) h.invoiced;
  calculated = subst (λ x. within (10 ^ 17) x ≡ true) (sym e3) h.calculated;
}

stands_too_sane : (s : State) (i : Item) → AllSane s.accounts → AllSane (stands_too s i).accounts
stands_too_sane s i h = grind (arith, ints, nat_tests)

submitted_sane : (c : ℕ) (p : Period) (ls : List Line) (s : State) → AllSane s.accounts → AllSane (submitted s c p ls).accounts
submitted_sane c p [] s h = h
submitted_sane c p (l ∷ ls) s h = submitted_sane c p ls (stand c p s l) (stands_too_sane s (item_of s c p l) h)

settled_sane : (s : State) (k : ℕ) → AllSane s.accounts → AllSane (settled s k).accounts
settled_sane s k h = grind (arith, ints, nat_tests)

costed_sane : (accounts : ℕ → Account) (c : ℕ) (p : Period) (z : ℤ) → AllSane accounts → AllSane (changed accounts c (costed p z))
costed_sane accounts c p z h = grind (arith, ints, nat_tests)

cleared_sane : (s : State) (c : ℕ) (b : Body) (w : ℕ) (x : ℤ) → AllSane s.accounts → AllSane (cleared s c b w x).accounts
cleared_sane s c (bid key points price) w x h = costed_sane s.accounts c _ _ h
cleared_sane s c (offer n points) w x h = costed_sane s.accounts c _ _ h
cleared_sane s c (conversion parts) w x h = h

secured_sane : (s : State) (c : ℕ) (n : ℤ) → outside (after_cents s c n) ≡ false → AllSane s.accounts → AllSane (with_account s c (secured (cents (after_cents s c n)))).accounts
secured_sane s c n t h =
    let t2 = or_parts (lt_z (after_cents s c n) (pos 0)) _ t in
    let l : cents (after_cents s c n) ≤ 10 ^ 13 = let z = abs_is (after_cents s c n) in omega (arith, ints) in
    grind (arith, ints, nat_tests)

effect_sane : (s : State) (call : Call) → AllSane s.accounts → AllByRecursion Unmet (grounds s call) → AllSane (effect s call).1.accounts
effect_sane s (posting c n) h t = secured_sane s c n (or_parts (lt_z n (pos 1)) _ (call_passed _ t.1.0)).1 h
effect_sane s (returning c n) h t = secured_sane s c (neg_ℤ n) (or_parts (lt_z n (pos 1)) _ (call_passed _ t.1.0)).1 h
effect_sane s (charge c n) h t =
    let u = not-false _ (or_parts (not (within (10 ^ 15) n)) _ (call_passed _ t.1.0)).1 in
    changed_sane s.accounts c (λ a. charged a.invoiced (a.calculated +ℤ n) a) (λ a. record { security = a.security; invoiced = a.invoiced; calculated = u }) h
effect_sane s (invoice c) h t =
    let u = not_passed _ t.1.0 in
    changed_sane s.accounts c (λ a. charged (a.invoiced +ℤ a.calculated) (pos 0) a) (λ a. record { security = a.security; invoiced = u; calculated = refl }) h
effect_sane s (payment c) h t = changed_sane s.accounts c (λ a. charged (pos 0) a.calculated a) (λ a. record { security = a.security; invoiced = refl; calculated = a.calculated }) h
effect_sane s (opening p) h t = h
effect_sane s (submission w c lines) h t = submitted_sane c w.period lines s h
effect_sane s (conversion_of w c lines) h t = stands_too_sane s (conversion_item (length s.items + 1) c (map (part_of s w.period) lines)) h
effect_sane s (closing w) h t = h
effect_sane s (award w k q x) h t =
    awarded_by (λ n. AllSane n.accounts) s k q x (settled_sane s k h) (λ _. cleared_sane (settled s k) (item_at k s.items).owner (item_at k s.items).body q x (settled_sane s k h))
effect_sane s (ending w) h t = All-weaker (λ c. Sane (s.accounts c)) (λ c. Sane (unstood (s.accounts c))) (λ c a. record { security = a.security; invoiced = a.invoiced; calculated = a.calculated }) customers h
effect_sane s (transfer seller buyer k q) h t = h
effect_sane s month_turn h t =
    let u = lines_passed (λ c. not (within (10 ^ 17) ((s.accounts c).calculated +ℤ (s.accounts c).costs s.month))) 1 customers t.0 in
    all_both (λ c. Sane (s.accounts c)) (λ c. not (within (10 ^ 17) ((s.accounts c).calculated +ℤ (s.accounts c).costs s.month)) ≡ false) (λ c. Sane (month_charged s.month (s.accounts c)))
    (λ c a l. record { security = a.security; invoiced = a.invoiced; calculated = not-false _ l }) customers h u
effect_sane s (new_book p) h t = h

pub step_sane : (s : State) (call : Call) → AllByRecursion (λ c. Sane (s.accounts c)) customers → AllByRecursion (λ c. Sane ((step s call).1.accounts c)) customers
step_sane s call h = decided_keeps (λ n _. AllSane n.accounts) (grounds s call) s (effect s call) h (effect_sane s call h)

pub new_sane : (p : Prices) → AllByRecursion (λ c. Sane ((new p).accounts c)) customers
new_sane p = grind (arith, ints, nat_tests)

-- numbers
rising-append : (xs ys : List Right) (n : ℕ) → Rising xs → Rising ys → AllByRecursion (λ x. x.number ≤ n) xs → AllByRecursion (λ y. n < y.number) ys → Rising (xs ++ ys)
rising-append [] ys n h g a b = g
rising-append (x ∷ xs) ys n h g a b =
    let l = a.0 in (
      All-append (λ t. x.number < t.number) xs ys h.0 (All-weaker (λ y. n < y.number) (λ t. x.number < t.number) (λ y m. omega arith) ys b),
      rising-append xs ys n h.1 g a.1 b,
    )

rising_lessened : (k w : ℕ) (rs : List Right) → Rising rs → Rising (lessened k w rs)
rising_lessened k w [] h = tt
rising_lessened k w (r ∷ rs) h =
    let i = rising_lessened k w rs h.1 in
    elim (right_numbered k r) as (λ b. Rising (cond b (rest w r ++ rs) (r ∷ lessened k w rs))) [
      | true ↦ cond_both (ltb w r.megawatts) (less w r ∷ []) [] (λ xs. Rising (xs ++ rs)) (λ _. (h.0, h.1)) (λ _. h.1)
      | false ↦ (all_lessened (λ t. r.number < t.number) k w rs (λ _ l. l) h.0, i)
    ]

rising_kept : (p : Right → Bool) (rs : List Right) → Rising rs → Rising (filter p rs)
rising_kept p [] h = tt
rising_kept p (r ∷ rs) h =
    let i = rising_kept p rs h.1 in
    elim (p r) as (λ b. Rising (cond b (r ∷ filter p rs) (filter p rs))) [ true ↦ (all_kept_by p (λ t. r.number < t.number) rs h.0, i) | false ↦ i ]

rising-repriced : (p : Prices) (rs : List Right) → Rising rs → Rising (map (repriced p) rs)
rising-repriced p [] h = tt
rising-repriced p (r ∷ rs) h = (All-map (λ t. r.number < t.number) (repriced p) rs h.0, rising-repriced p rs h.1)

numbers_of : (given c : ℕ) (parts : List Part) → Rising (rights_of given c parts) × AllByRecursion (λ y. given < y.number) (rights_of given c parts) × AllByRecursion (λ y. y.number ≤ given + length parts) (rights_of given c parts)
numbers_of given c [] = (tt, tt, tt)
numbers_of given c (l ∷ ls) =
    let r = numbers_of (given + 1) c ls in (
      (r.1, r.0),
      (omega arith, All-weaker (λ y. given + 1 < y.number) (λ y. given < y.number) (λ y m. omega arith) (rights_of (given + 1) c ls) r.1),
      (omega arith, All-weaker (λ y. y.number ≤ (given + 1) + length ls) (λ y. y.number ≤ given + suc (length ls)) (λ y m. omega arith) (rights_of (given + 1) c ls) r.2),
    )

one_numbered : (rs : List Right) (n : ℕ) (r : Right) → r.number ≡ n + 1 → Rising rs → AllByRecursion (λ x. x.number ≤ n) rs → Rising (rs ++ r ∷ []) × AllByRecursion (λ x. x.number ≤ n + 1) (rs ++ r ∷ [])
one_numbered rs n r e h a = (
  rising-append rs (r ∷ []) n h (tt, tt) a (omega arith, tt),
  All-append (λ x. x.number ≤ n + 1) rs (r ∷ []) (All-weaker (λ x. x.number ≤ n) (λ x. x.number ≤ n + 1) (λ x l. omega arith) rs a) (omega arith, tt),
)

cleared_numbered : (s : State) (c : ℕ) (b : Body) (w : ℕ) (x : ℤ) → Numbered s → Numbered (cleared s c b w x)
cleared_numbered s c (bid key points price) w x h = let g = one_numbered s.rights s.given (right_for (s.given + 1) c key w price x) refl h.rising h.given in record { rising = g.0; given = g.1 }
cleared_numbered s c (offer n points) w x h = record { rising = rising_lessened n w s.rights h.rising; given = all_lessened (λ r. r.number ≤ s.given) n w s.rights (λ _ l. l) h.given }
cleared_numbered s c (conversion parts) w x h =
    let g = numbers_of s.given c parts in
    record {
      rising = rising-append s.rights (rights_of s.given c parts) s.given h.rising g.0 h.given g.1;
      given = All-append (λ x. x.number ≤ s.given + length parts) s.rights (rights_of s.given c parts) (All-weaker (λ x. x.number ≤ s.given) (λ x. x.number ≤ s.given + length parts) (λ x l. omega arith) s.rights h.given) g.2;
    }

submitted_numbered : (c : ℕ) (p : Period) (ls : List Line) (s : State) → Numbered s → Numbered (submitted s c p ls)
submitted_numbered c p [] s h = h
submitted_numbered c p (l ∷ ls) s h = submitted_numbered c p ls (stand c p s l) record { rising = h.rising; given = h.given }

effect_numbered : (s : State) (call : Call) → Numbered s → Numbered (effect s call).1
effect_numbered s (posting c n) h = record { rising = h.rising; given = h.given }
effect_numbered s (returning c n) h = record { rising = h.rising; given = h.given }
effect_numbered s (charge c n) h = record { rising = h.rising; given = h.given }
effect_numbered s (invoice c) h = record { rising = h.rising; given = h.given }
effect_numbered s (payment c) h = record { rising = h.rising; given = h.given }
effect_numbered s (opening p) h = record { rising = h.rising; given = h.given }
effect_numbered s (submission w c lines) h = submitted_numbered c w.period lines s h
effect_numbered s (conversion_of w c lines) h = record { rising = h.rising; given = h.given }
effect_numbered s (closing w) h = record { rising = h.rising; given = h.given }
effect_numbered s (award w k q x) h =
    awarded_by Numbered s k q x record { rising = h.rising; given = h.given }
    (λ _. cleared_numbered (settled s k) (item_at k s.items).owner (item_at k s.items).body q x record { rising = h.rising; given = h.given })
effect_numbered s (ending w) h = record { rising = h.rising; given = h.given }
effect_numbered s (transfer seller buyer k q) h =
    let r = right_at k s.rights in
    let g = one_numbered (lessened k q s.rights) s.given (right_for (s.given + 1) buyer r.key q r.price (pos 0)) refl (rising_lessened k q s.rights h.rising) (all_lessened (λ r. r.number ≤ s.given) k q s.rights (λ _ l. l) h.given) in
    record { rising = g.0; given = g.1 }
effect_numbered s month_turn h = record { rising = rising_kept _ s.rights h.rising; given = all_kept_by _ (λ r. r.number ≤ s.given) s.rights h.given }
effect_numbered s (new_book p) h = record { rising = rising-repriced p s.rights h.rising; given = All-map (λ r. r.number ≤ s.given) (repriced p) s.rights h.given }

pub step_numbered : (s : State) (call : Call) → Numbered s → Numbered (step s call).1
step_numbered s call h = decided_keeps (λ n _. Numbered n) (grounds s call) s (effect s call) h (λ _. effect_numbered s call h)

pub new_numbered : (p : Prices) → Numbered (new p)
new_numbered p = record { rising = tt; given = tt }

-- megawatts of rights
abbrev Sized : State → Type 0
Sized s = AllByRecursion (λ r. lawful_megawatts r.megawatts ≡ true) s.rights

sized : (q : ℕ) → 1 ≤ q → q ≤ 20_000 → lawful_megawatts q ≡ true
sized q a b = and_from (leb 1 q) (leb q 20_000) (le-leb 1 q a) (le-leb q 20_000 b)

lessened_sized : (k w : ℕ) (rs : List Right) → AllByRecursion (λ r. lawful_megawatts r.megawatts ≡ true) rs → AllByRecursion (λ r. lawful_megawatts r.megawatts ≡ true) (lessened k w rs)
lessened_sized k w rs h = all_replaced (λ r. lawful_megawatts r.megawatts ≡ true) (right_numbered k) (rest w) rs
    (λ r q. cond_both (ltb w r.megawatts) (less w r ∷ []) [] (AllByRecursion (λ r. lawful_megawatts r.megawatts ≡ true))
    (λ t. let l = ltb-true w r.megawatts t in let m = leb-true r.megawatts 20_000 (and_parts (leb 1 r.megawatts) _ q).1 in (sized (r.megawatts - w) (omega arith) (omega arith), tt)) (λ _. tt)) h

parts_sized : (p : Prices) (o given c : ℕ) (parts : List Part) → AllByRecursion (PartBacked p o) parts → AllByRecursion (λ r. lawful_megawatts r.megawatts ≡ true) (rights_of given c parts)
parts_sized p o given c [] h = tt
parts_sized p o given c (l ∷ ls) h = (h.0.size, parts_sized p o (given + 1) c ls h.1)

cleared_sized : (s : State) (k w : ℕ) (x : ℤ) (b : Body) → BodyBacked s.prices s.month s.rights (item_at k s.items) b → lawful_on b w x ≡ true → eqb w 0 ≡ false → Sized s → Sized (cleared (settled s k) (item_at k s.items).owner b w x)
cleared_sized s k w x (bid key points price) b l z h =
    let m = bid_block points w x b.curve l in
    grind (arith, ints, nat_tests, common_steps)
cleared_sized s k w x (offer n points) b l z h = lessened_sized n w s.rights h
cleared_sized s k w x (conversion parts) b l z h =
    All-append (λ r. lawful_megawatts r.megawatts ≡ true) s.rights (rights_of s.given (item_at k s.items).owner parts) h (parts_sized s.prices s.month s.given (item_at k s.items).owner parts b.each)

submitted_sized : (c : ℕ) (p : Period) (ls : List Line) (s : State) → Sized s → Sized (submitted s c p ls)
submitted_sized c p [] s h = h
submitted_sized c p (l ∷ ls) s h = submitted_sized c p ls (stand c p s l) h

effect_sized : (s : State) (call : Call) → Sound s → Sized s → AllByRecursion Unmet (grounds s call) → Sized (effect s call).1
effect_sized s (posting c n) g h t = h
effect_sized s (returning c n) g h t = h
effect_sized s (charge c n) g h t = h
effect_sized s (invoice c) g h t = h
effect_sized s (payment c) g h t = h
effect_sized s (opening p) g h t = h
effect_sized s (submission w c lines) g h t = submitted_sized c w.period lines s h
effect_sized s (conversion_of w c lines) g h t = h
effect_sized s (closing w) g h t = h
effect_sized s (award w k q x) g h t =
    let t13 = and_parts (stands s k) _ (not_passed _ t.1.0) in
    awarded_by Sized s k q x h (λ z. cleared_sized s k q x (item_at k s.items).body (item_backed s k t13.0 g) (lawful_some (item_at k s.items) q x t13.1 z) z h)
effect_sized s (ending w) g h t = h
effect_sized s (transfer seller buyer k q) g h t =
    let r = right_at k s.rights in
    All-append (λ r. lawful_megawatts r.megawatts ≡ true) (lessened k q s.rights) (right_for (s.given + 1) buyer r.key q r.price (pos 0) ∷ []) (lessened_sized k q s.rights h) (not_passed _ t.1.0, tt)
effect_sized s month_turn g h t = all_kept_by _ (λ r. lawful_megawatts r.megawatts ≡ true) s.rights h
effect_sized s (new_book p) g h t = All-map (λ r. lawful_megawatts r.megawatts ≡ true) (repriced p) s.rights h

pub step_sized : (s : State) (call : Call) → Sound s → AllByRecursion (λ r. lawful_megawatts r.megawatts ≡ true) s.rights → AllByRecursion (λ r. lawful_megawatts r.megawatts ≡ true) (step s call).1.rights
step_sized s call g h = decided_keeps (λ n _. Sized n) (grounds s call) s (effect s call) h (effect_sized s call g h)
