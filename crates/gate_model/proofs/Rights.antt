-- The right with a number, after a right lost megawatts and after new rights.
use Rattle.std.proofs.lemmas.Bool.{cond_both}
use Rattle.std.specs.List.{AllByRecursion}
use Rattle.std.proofs.lemmas.Bool.Decides.{nat_tests}
use Rattle.std.proofs.Common.{◌≡◌, ℕ, ◌-◌, ◌<◌, ◌≤◌, true, List, [], ◌∷◌, ◌++◌, ℤ, pos, ◌+ℤ◌, sym, refl, ap, ◌∙◌, arith, ltb}
use Rattle.std.proofs.lemmas.Int.{ints}
use Rattle.gate_model.specs.Sums.{sum_z}
use Rattle.gate_model.specs.State.{right_at, right_numbered, any}
use Rattle.gate_model.specs.Effects.{less, rest, lessened}
use Rattle.gate_model.proofs.Firsts.{replaced_sum, all_replaced}
use Rattle.gate_model.specs.declared.right.Right.{Right}

pub right_known : (k : ℕ) (rs : List Right) → 1 ≤ (right_at k rs).megawatts → any (right_numbered k) rs ≡ true
right_known k [] h = absurd (omega arith)
right_known k (r ∷ rs) h =
    let i = right_known k rs in
    grind (arith, ints, nat_tests)

pub right_append : (k : ℕ) (rs ys : List Right) → 1 ≤ (right_at k rs).megawatts → right_at k (rs ++ ys) ≡ right_at k rs
right_append k [] ys h = absurd (omega arith)
right_append k (r ∷ rs) ys h =
    let i = right_append k rs ys in
    grind (arith, ints, nat_tests)

pub lessened_same : (k w : ℕ) (rs : List Right) → w < (right_at k rs).megawatts → right_at k (lessened k w rs) ≡ less w (right_at k rs)
lessened_same k w [] h = absurd (omega arith)
lessened_same k w (r ∷ rs) h =
    let i = lessened_same k w rs in
    grind (arith, ints, nat_tests)

pub lessened_other : (k w j : ℕ) (rs : List Right) → (j ≡ k → ⊥) → right_at j (lessened k w rs) ≡ right_at j rs
lessened_other k w j [] h = refl
lessened_other k w j (r ∷ rs) h =
    let i = lessened_other k w j rs h in
    grind (arith, ints, nat_tests)

-- what is left of a right counts as h says of its megawatts
rest_sum : (f : Right → ℤ) (h : ℕ → ℤ) (w : ℕ) (r : Right) → w ≤ r.megawatts → h 0 ≡ pos 0 → f (less w r) ≡ h (r.megawatts - w) → sum_z f (rest w r) ≡ h (r.megawatts - w)
rest_sum f h w r l z e = grind (arith, ints, nat_tests)

-- a right loses w: the sum loses what w counts
pub lessened_sum : (f : Right → ℤ) (h : ℕ → ℤ) (k w : ℕ) (rs : List Right) → 1 ≤ (right_at k rs).megawatts → w ≤ (right_at k rs).megawatts → h 0 ≡ pos 0
    → f (right_at k rs) ≡ h (right_at k rs).megawatts → f (less w (right_at k rs)) ≡ h ((right_at k rs).megawatts - w)
    → (sum_z f (lessened k w rs) +ℤ h (right_at k rs).megawatts) ≡ (sum_z f rs +ℤ h ((right_at k rs).megawatts - w))
lessened_sum f h k w rs g l z e1 e2 =
    let s = replaced_sum f (right_numbered k) (rest w) _ rs (right_known k rs g) in
    let t = rest_sum f h w (right_at k rs) l z e2 in
    sym (ap (λ v. sum_z f (lessened k w rs) +ℤ v) e1) ∙ s ∙ ap (λ v. sum_z f rs +ℤ v) t

-- what holds of each right, and of a right with fewer megawatts, holds after one lost some
pub all_lessened : (P : Right → Type 0) (k w : ℕ) (rs : List Right) → ((r : Right) → P r → P (less w r)) → AllByRecursion P rs → AllByRecursion P (lessened k w rs)
all_lessened P k w rs f h = all_replaced P (right_numbered k) (rest w) rs
    (λ r q. cond_both (ltb w r.megawatts) (less w r ∷ []) [] (AllByRecursion P) (λ _. (f r q, tt)) (λ _. tt)) h
