-- What an award in a block of a curve comes to, against what the curve requires.
use Rattle.std.proofs.lemmas.Bool.Decides.{nat_tests}
use Rattle.std.proofs.Common.{◌≡◌, ℕ, ◌*◌, ◌≤◌, Bool, true, ◌&&◌, ltb, leb, List, [], ◌∷◌, length, ℤ, pos, negsuc, ◌+ℤ◌, ◌-ℤ◌, ◌*ℤ◌, neg_ℤ, ◌≤ℤ◌, refl, ap, ⊎_elim, arith}
use borrow.Author.Differences.{sum_is_lem, neg_is}
use lib.Signed.{le_z}
use Rattle.std.proofs.lemmas.Int.{ints, clamps}
use Rattle.std.proofs.lemmas.Bool.{or_cases, and_parts, leb-true, false≢true}
use Rattle.gate_model.specs.Money.{max0}
use Rattle.gate_model.proofs.Money.{max0_is, scaled, proved}
use Rattle.gate_model.specs.Sums.{sum_z}
use Rattle.gate_model.specs.Measures.{lawful_megawatts}
use Rattle.gate_model.specs.Curves.{lawful_point, ordered, lawful_bid, lawful_offer, top, in_block, most, bid_at, bid_requirement, offer_at, offer_requirement, worth, min0, gain, loss, conversion_requirement, greatest_cost, greatest_loss}
use Rattle.gate_model.specs.declared.point.Point.{Point}
use Rattle.gate_model.specs.declared.conversion.Part.{Part}

-- a sum and a difference under a product, for omega
pub times_plus : (w : ℕ) (a b : ℤ) → (pos w *ℤ (a +ℤ b)) ≡ ((pos w *ℤ a) +ℤ (pos w *ℤ b))
times_plus w a b = let s = ap (λ n. w * n) (sum_is_lem a b) in omega (arith, ints)

pub times_minus : (w : ℕ) (a b : ℤ) → (pos w *ℤ (a -ℤ b)) ≡ ((pos w *ℤ a) -ℤ (pos w *ℤ b))
times_minus w a b =
    let s = times_plus w a (neg_ℤ b) in
    let u = ap (λ n. w * n) (neg_is b).0 in
    let d = ap (λ n. w * n) (neg_is b).1 in
    omega (arith, ints)

pub most_above : (f : Point → ℤ) (ps : List Point) → pos 0 ≤ℤ most f ps
most_above f [] = omega (arith, ints)
most_above f (p ∷ ps) = let r = most_above f ps in omega (arith, ints, clamps)

pub most_reaches : (f : Point → ℤ) (v : ℤ) (accepts : ℤ → Bool) (w : ℕ) → ((p : Point) → w ≤ p.megawatts → accepts p.price ≡ true → v ≤ℤ max0 (f p))
    → (below : ℕ) (ps : List Point) → in_block accepts w below ps ≡ true → v ≤ℤ most f ps
most_reaches f v accepts w k below [] h = absurd (false≢true h)
most_reaches f v accepts w k below (p ∷ ps) h =
    let r = most_reaches f v accepts w k p.megawatts ps in
    let a = most_above f ps in
    grind (arith, ints, nat_tests)

-- an award on a bid adds no more than the bid requires
pub bid_award : (r : ℤ) (points : List Point) (w : ℕ) (x : ℤ) → in_block (λ c. le_z x c) w 0 points ≡ true
    → ((pos 12 *ℤ (pos w *ℤ max0 x)) -ℤ (pos 12 *ℤ (pos w *ℤ r))) ≤ℤ bid_requirement r points
bid_award r points w x h =
    let s = most_reaches (bid_at r) (pos (12 * w) *ℤ (max0 x -ℤ r)) (λ c. le_z x c) w
    (λ p l e. scaled (12 * w) (12 * p.megawatts) (max0 x -ℤ r) (max0 p.price -ℤ r) (omega arith) (let e2 : x ≤ℤ p.price = omega (arith, ints) in omega (arith, ints, max0_is)))
    0 points h in
    let d = times_minus (12 * w) (max0 x) r in
    omega (arith, ints)

-- an award on an offer adds no more than the offer requires
pub offer_award : (r a : ℤ) (points : List Point) (w : ℕ) (x : ℤ) → in_block (λ c. le_z c x) w 0 points ≡ true
    → ((pos 12 *ℤ (pos w *ℤ (max0 (a -ℤ x) -ℤ max0 a))) +ℤ (pos 12 *ℤ (pos w *ℤ r))) ≤ℤ offer_requirement r a points
offer_award r a points w x h =
    let s = most_reaches (offer_at r a) (pos (12 * w) *ℤ (r +ℤ (max0 (a -ℤ x) -ℤ max0 a))) (λ c. le_z c x) w
    (λ p l e. scaled (12 * w) (12 * p.megawatts) (r +ℤ (max0 (a -ℤ x) -ℤ max0 a)) (max0 r +ℤ max0 (a -ℤ p.price)) (omega arith) (let e2 : p.price ≤ℤ x = omega (arith, ints) in omega (arith, ints, max0_is)))
    0 points h in
    let d = times_plus (12 * w) r (max0 (a -ℤ x) -ℤ max0 a) in
    omega (arith, ints)

min0_is : (z : ℤ) → (max0 z +ℤ min0 z) ≡ z
min0_is (pos n) = omega (arith, ints)
min0_is (negsuc n) = omega (arith, ints)

min0_below : (z : ℤ) → min0 z ≤ℤ pos 0
min0_below (pos n) = omega (arith, ints)
min0_below (negsuc n) = omega (arith, ints)

halves : (parts : List Part) → ((sum_z gain parts +ℤ sum_z loss parts) ≡ sum_z (λ l. worth l.megawatts l.price) parts) × (pos 0 ≤ℤ sum_z gain parts) × (sum_z loss parts ≤ℤ pos 0)
halves [] = (refl, omega (arith, ints), omega (arith, ints))
halves (l ∷ ls) =
    let r = halves ls in
    let z = worth l.megawatts l.price in
    let b : loss l ≤ℤ pos 0 = min0_below z in
    grind (arith, ints, nat_tests)

-- a conversion that clears adds no more than it requires
pub conversion_award : (parts : List Part) → neg_ℤ (sum_z (λ l. worth l.megawatts l.price) parts) ≤ℤ conversion_requirement parts
conversion_award parts =
    let h = halves parts in
    let k = proved.conversion (sum_z gain parts) (sum_z loss parts) h.1 h.2 in
    omega (arith, ints)

pub conversion_above : (parts : List Part) → pos 0 ≤ℤ conversion_requirement parts
conversion_above parts = grind (arith, ints, nat_tests)

top_rises : (follows : ℤ → ℤ → Bool) (p : Point) (ps : List Point) → ordered follows p ps ≡ true → (1 ≤ p.megawatts) × (p.megawatts ≤ top p.megawatts ps)
top_rises follows p [] h = (leb-true _ _ (and_parts (leb 1 p.megawatts) _ (and_parts (lawful_megawatts p.megawatts) _ h).0).0, omega arith)
top_rises follows p (q ∷ ps) h =
    let h2 = and_parts (lawful_point p) _ h in
    let h3 = and_parts (ltb p.megawatts q.megawatts && follows p.price q.price) _ h2.1 in
    let r = top_rises follows q ps h3.1 in
    grind (arith, ints, nat_tests)

block_top : (follows : ℤ → ℤ → Bool) (accepts : ℤ → Bool) (w below : ℕ) (p : Point) (ps : List Point) → ordered follows p ps ≡ true → in_block accepts w below (p ∷ ps) ≡ true → w ≤ top p.megawatts ps
block_top follows accepts w below p [] o h =
    ⊎_elim (λ e. leb-true _ _ (and_parts (leb w p.megawatts) _ (and_parts (ltb below w) _ e).1).0) (λ e. absurd (false≢true e)) (or_cases (ltb below w && (leb w p.megawatts && accepts p.price)) _ h)
block_top follows accepts w below p (q ∷ ps) o h =
    let t = top_rises follows p (q ∷ ps) o in
    let o2 = and_parts (lawful_point p) _ o in
    let o3 = and_parts (ltb p.megawatts q.megawatts && follows p.price q.price) _ o2.1 in
    let r = block_top follows accepts w p.megawatts q ps o3.1 in
    grind (arith, ints, nat_tests)

-- what an offer clears is not above its top point, and the top point is not zero
pub offer_top : (points : List Point) → lawful_offer points ≡ true → 1 ≤ top 0 points
offer_top [] h = absurd (false≢true h)
offer_top (p ∷ ps) h = let t = top_rises (λ before after. le_z before after) p ps (and_parts (leb (length ps) 3) _ h).1 in omega arith

pub offer_block : (points : List Point) (w : ℕ) (x : ℤ) → lawful_offer points ≡ true → in_block (λ c. le_z c x) w 0 points ≡ true → w ≤ top 0 points
offer_block [] w x h b = absurd (false≢true h)
offer_block (p ∷ ps) w x h b = block_top (λ before after. le_z before after) (λ c. le_z c x) w 0 p ps (and_parts (leb (length ps) 3) _ h).1 b

-- an award on a bid adds no more to the cost than the greatest cost of the bid, and one on an offer no more than its greatest loss
pub bid_cost : (points : List Point) (w : ℕ) (x : ℤ) → in_block (λ c. le_z x c) w 0 points ≡ true → (pos 12 *ℤ (pos w *ℤ max0 x)) ≤ℤ greatest_cost points
bid_cost points w x h =
    let s = most_reaches (λ p. pos (12 * p.megawatts) *ℤ max0 p.price) (pos (12 * w) *ℤ max0 x) (λ c. le_z x c) w
    (λ p l e. scaled (12 * w) (12 * p.megawatts) (max0 x) (max0 p.price) (omega arith) (let e2 : x ≤ℤ p.price = omega (arith, ints) in omega (arith, ints, max0_is)))
    0 points h in
    omega (arith, ints)

pub offer_cost : (a : ℤ) (points : List Point) (w : ℕ) (x : ℤ) → in_block (λ c. le_z c x) w 0 points ≡ true → (pos 12 *ℤ (pos w *ℤ (max0 (a -ℤ x) -ℤ max0 a))) ≤ℤ greatest_loss a points
offer_cost a points w x h =
    let s = most_reaches (λ p. pos (12 * p.megawatts) *ℤ max0 (a -ℤ p.price)) (pos (12 * w) *ℤ (max0 (a -ℤ x) -ℤ max0 a)) (λ c. le_z c x) w
    (λ p l e. scaled (12 * w) (12 * p.megawatts) (max0 (a -ℤ x) -ℤ max0 a) (max0 (a -ℤ p.price)) (omega arith) (let e2 : p.price ≤ℤ x = omega (arith, ints) in omega (arith, ints, max0_is)))
    0 points h in
    omega (arith, ints)

top_small : (follows : ℤ → ℤ → Bool) (p : Point) (ps : List Point) → ordered follows p ps ≡ true → top p.megawatts ps ≤ 20_000
top_small follows p [] h = leb-true _ _ (and_parts (leb 1 p.megawatts) _ (and_parts (lawful_megawatts p.megawatts) _ h).0).1
top_small follows p (q ∷ ps) h = top_small follows q ps (and_parts (ltb p.megawatts q.megawatts && follows p.price q.price) _ (and_parts (lawful_point p) _ h).1).1

-- what a bid clears is at most 20,000
pub bid_block : (points : List Point) (w : ℕ) (x : ℤ) → lawful_bid points ≡ true → in_block (λ c. le_z x c) w 0 points ≡ true → w ≤ 20_000
bid_block [] w x h b = absurd (false≢true h)
bid_block (p ∷ ps) w x h b =
    let o = (and_parts (leb (length ps) 3) _ h).1 in
    let l = block_top (λ before after. le_z after before) (λ c. le_z x c) w 0 p ps o b in
    let m = top_small (λ before after. le_z after before) p ps o in
    omega arith
