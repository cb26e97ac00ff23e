-- What is written of numbers in a row, one after another. Assumes nothing.
use Rattle.std.proofs.Common.{◌≡◌, ℕ, zero, suc, ◌+◌, ◌-◌, ◌<◌, ◌≤◌, List, [], ◌++◌, ℤ, string_bytes, sym, refl, ap, ◌∙◌, append_assoc, append-nil, arith}
use Rattle.hours.specs.RecordedFormat.{Records, records_of}
use Rattle.tcr_hours.specs.declared.listing.Written.{Written}
use Rattle.tcr_hours.specs.Listings.{Adds}
use Rattle.tcr_hours.specs.Report.{in_order}

in_order_none : (shown : ℕ → List ℕ) (n k : ℕ) → n ≡ 0 → in_order shown n k ≡ []
unfolding in_order
in_order_none shown zero k e = refl
in_order_none shown (suc n) k e = let no : ⊥ = omega arith in absurd no

in_order_more : (shown : ℕ → List ℕ) (n m k : ℕ) → n ≡ suc m → in_order shown n k ≡ shown k ++ in_order shown m (k + 1)
unfolding in_order
in_order_more shown n m k e = ap (λ (j : ℕ). in_order shown j k) e

-- a loop's step: `before` is written, k is next, and the numbers go up to but not including `end`
pub more_in_order : (shown : ℕ → List ℕ) (before after all : List ℕ) (end k : ℕ) → k < end → after ≡ before ++ shown k → before ++ in_order shown (end - k) k ≡ all → after ++ in_order shown (end - (k + 1)) (k + 1) ≡ all
more_in_order shown before after all end k h e i =
    ap (λ (bs : List ℕ). bs ++ in_order shown (end - (k + 1)) (k + 1)) e
    ∙ append_assoc before (shown k) (in_order shown (end - (k + 1)) (k + 1))
    ∙ ap (λ (bs : List ℕ). before ++ bs) (sym (in_order_more shown (end - k) (end - (k + 1)) k (omega arith)))
    ∙ i

-- a loop's end
pub all_in_order : (shown : ℕ → List ℕ) (before all : List ℕ) (end k : ℕ) → end ≤ k → before ++ in_order shown (end - k) k ≡ all → before ≡ all
all_in_order shown before all end k h i =
    sym (ap (λ (bs : List ℕ). before ++ bs) (in_order_none shown (end - k) k (omega arith)) ∙ append-nil before) ∙ i

-- two things that are written, one behind the other
pub adds_then : (a b c : Written) (one two : Records → List ℕ) → Adds a b one → Adds b c two → Adds a c (λ r. one r ++ two r)
adds_then a b c one two x y =
    (y.0 ∙ x.0, y.1 ∙ ap (λ (m : List ℤ). string_bytes b.out ++ two (records_of m)) x.0 ∙ ap (λ (bs : List ℕ). bs ++ two (records_of a.recorded.now)) x.1 ∙ append_assoc (string_bytes a.out) (one (records_of a.recorded.now)) (two (records_of a.recorded.now)))

-- in a loop that began at a: b is written, k is next, and the numbers go up to but not including `end`
abbrev pub Adding : Written → Written → (Records → ℕ → List ℕ) → ℕ → ℕ → (Records → List ℕ) → Type 0
Adding a b shown end k all = (b.recorded.now ≡ a.recorded.now) × (string_bytes b.out ++ in_order (shown (records_of a.recorded.now)) (end - k) k ≡ string_bytes a.out ++ all (records_of a.recorded.now))

pub adding_more : (a b c : Written) (shown : Records → ℕ → List ℕ) (end k : ℕ) (all : Records → List ℕ) → Adding a b shown end k all → k < end → Adds b c (λ r. shown r k) → Adding a c shown end (k + 1) all
adding_more a b c shown end k all i h x = (
  x.0 ∙ i.0,
  ap (λ (bs : List ℕ). bs ++ in_order (shown (records_of a.recorded.now)) (end - (k + 1)) (k + 1)) (x.1 ∙ ap (λ (m : List ℤ). string_bytes b.out ++ shown (records_of m) k) i.0)
      ∙ append_assoc (string_bytes b.out) (shown (records_of a.recorded.now) k) (in_order (shown (records_of a.recorded.now)) (end - (k + 1)) (k + 1))
      ∙ ap (λ (bs : List ℕ). string_bytes b.out ++ bs) (sym (in_order_more (shown (records_of a.recorded.now)) (end - k) (end - (k + 1)) k (omega arith)))
      ∙ i.1,
)

pub adding_all : (a b : Written) (shown : Records → ℕ → List ℕ) (end k : ℕ) (all : Records → List ℕ) → Adding a b shown end k all → end ≤ k → Adds a b all
adding_all a b shown end k all i h =
    (i.0, sym (ap (λ (bs : List ℕ). string_bytes b.out ++ bs) (in_order_none (shown (records_of a.recorded.now)) (end - k) k (omega arith)) ∙ append-nil (string_bytes b.out)) ∙ i.1)
