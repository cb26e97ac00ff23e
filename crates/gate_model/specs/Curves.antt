-- The curves of bids and offers: their order, their blocks, and what they may come to cost.
use Rattle.std.specs.Prelude.{ℕ, ◌*◌, Bool, false, ◌&&◌, ◌||◌, List, [], ◌∷◌, length, ℤ, pos, negsuc, ◌+ℤ◌, ◌-ℤ◌, ◌*ℤ◌, neg_ℤ, int_le, nat_le, nat_lt}
use Rattle.std.specs.Int.{int_max}
use Rattle.gate_model.specs.Money.{max0, floor_z}
use Rattle.gate_model.specs.Sums.{sum_z}
use Rattle.gate_model.specs.Measures.{lawful_megawatts, lawful_price}
use Rattle.gate_model.specs.declared.point.Point.{Point}
use Rattle.gate_model.specs.declared.conversion.Part.{Part}

abbrev pub lawful_point : Point → Bool
lawful_point p = lawful_megawatts p.megawatts && lawful_price p.price

-- each point has more megawatts than the one before, and its price follows as it must
abbrev pub ordered : (ℤ → ℤ → Bool) → Point → List Point → Bool
ordered follows p [] = lawful_point p
ordered follows p (q ∷ ps) = lawful_point p && ((nat_lt p.megawatts q.megawatts && follows p.price q.price) && ordered follows q ps)

-- 1 to 4 points in order
abbrev pub lawful_curve : (ℤ → ℤ → Bool) → List Point → Bool
lawful_curve follows [] = false
lawful_curve follows (p ∷ ps) = nat_le (length ps) 3 && ordered follows p ps

-- prices of a bid never rise, those of an offer never fall
abbrev pub lawful_bid : List Point → Bool
lawful_bid points = lawful_curve (λ before after. int_le after before) points

abbrev pub lawful_offer : List Point → Bool
lawful_offer points = lawful_curve (λ before after. int_le before after) points

-- the megawatts of the last point, which are the most (below, where there is none)
abbrev pub top : ℕ → List Point → ℕ
top below [] = below
top below (p ∷ ps) = top p.megawatts ps

-- w lies in a block, from above the point before up to its own point, whose price accepts
abbrev pub in_block : (ℤ → Bool) → ℕ → ℕ → List Point → Bool
in_block accepts w below [] = false
in_block accepts w below (p ∷ ps) = (nat_lt below w && (nat_le w p.megawatts && accepts p.price)) || in_block accepts w p.megawatts ps

-- the greatest over the points, at least zero
abbrev pub most : (Point → ℤ) → List Point → ℤ
most f [] = pos 0
most f (p ∷ ps) = int_max (f p) (most f ps)

-- a bid at the book price r
abbrev pub bid_at : ℤ → Point → ℤ
bid_at r p = pos (12 * p.megawatts) *ℤ (max0 p.price -ℤ r)

abbrev pub bid_requirement : ℤ → List Point → ℤ
bid_requirement r points = most (bid_at r) points

-- an offer at the book price r on a right with the original price a
abbrev pub offer_at : ℤ → ℤ → Point → ℤ
offer_at r a p = pos (12 * p.megawatts) *ℤ (max0 r +ℤ max0 (a -ℤ p.price))

abbrev pub offer_requirement : ℤ → ℤ → List Point → ℤ
offer_requirement r a points = most (offer_at r a) points

-- the most that an award of a bid or an offer may add to the unsettled cost
abbrev pub greatest_cost : List Point → ℤ
greatest_cost points = most (λ p. pos (12 * p.megawatts) *ℤ max0 p.price) points

abbrev pub greatest_loss : ℤ → List Point → ℤ
greatest_loss a points = most (λ p. pos (12 * p.megawatts) *ℤ max0 (a -ℤ p.price)) points

-- megawatts at a price for the whole period, in twelfths
abbrev pub worth : ℕ → ℤ → ℤ
worth q price = pos 12 *ℤ (pos q *ℤ price)

abbrev pub min0 : ℤ → ℤ
min0 (pos n) = pos 0
min0 (negsuc n) = negsuc n

abbrev pub gain : Part → ℤ
gain l = max0 (worth l.megawatts l.price)

abbrev pub loss : Part → ℤ
loss l = min0 (worth l.megawatts l.price)

-- minus (nine tenths of the positive values, rounded down, plus the negative ones), at least zero
abbrev pub conversion_requirement : List Part → ℤ
conversion_requirement parts = max0 (neg_ℤ (floor_z (pos 9 *ℤ sum_z gain parts) 10 +ℤ sum_z loss parts))
