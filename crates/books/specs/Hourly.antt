-- Differences taken hour by hour, and what bounds them.
use Rattle.std.specs.Prelude.{◌≡◌, ℕ, suc, ◌+◌, ◌*◌, ◌<◌, ◌≤◌, List, [], ◌∷◌, ◌++◌, length, get_or, take, drop, set, ℤ, pos, ◌+ℤ◌, ◌-ℤ◌, neg_ℤ, ◌≤ℤ◌, slice_index_or, slice_set, refl}
use Rattle.std.proofs.Common.{sym, ap, ◌∙◌, mul-suc, arith, to_z, of_z}
use Rattle.std.specs.Int.{w32, w64}
use Rattle.std.proofs.ByRecursion.{All-from_get_or, All-get_or, All-append}
use Rattle.std.proofs.lemmas.List.{append_assoc, drop_more, get_or_at, length-map, length-take-le, map_push, set_at, take_more}
use Rattle.std.proofs.lemmas.Int.{ints}
use Rattle.std.specs.List.{AllByRecursion}
use Rattle.hours.specs.Bounds.{Within}
use Rattle.books.specs.Differences.{differences, total, losses, summed, Small, YearSum}

-- numbers that are all small
pub small_all : (b : ℕ) (xs : List ℤ) → Small b xs → AllByRecursion (Within b) xs
small_all b xs h = All-from_get_or (Within b) xs (pos 0) h

pub all_small : (b : ℕ) (xs : List ℤ) → AllByRecursion (Within b) xs → Small b xs
all_small b xs h k below = All-get_or (Within b) xs k (pos 0) below h

pub small-append : (b : ℕ) (xs ys : List ℤ) → Small b xs → Small b ys → Small b (xs ++ ys)
small-append b xs ys h k = all_small b (xs ++ ys) (All-append (Within b) xs ys (small_all b xs h) (small_all b ys k))

pub small_wider : (b d : ℕ) (xs : List ℤ) → b ≤ d → Small b xs → Small d xs
small_wider b d xs h k i below = let x = k i below in (omega (arith, ints), omega (arith, ints))

-- one hour more
differences-push : (xs ys : List ℤ) (x y : ℤ) → length xs ≡ length ys → differences (xs ++ x ∷ []) (ys ++ y ∷ []) ≡ differences xs ys ++ (x -ℤ y) ∷ []
differences-push [] [] x y h = refl
differences-push [] (b ∷ ys) x y h = absurd (omega arith)
differences-push (a ∷ xs) [] x y h = absurd (omega arith)
differences-push (a ∷ xs) (b ∷ ys) x y h = ap (λ (ds : List ℤ). (a -ℤ b) ∷ ds) (differences-push xs ys x y (omega arith))

total-push : (ds : List ℤ) (d : ℤ) → total (ds ++ d ∷ []) ≡ total ds +ℤ d
total-push [] d = omega (arith, ints)
total-push (e ∷ ds) d = let more = total-push ds d in omega (arith, ints)

pub length_differences : (xs ys : List ℤ) → length xs ≡ length ys → length (differences xs ys) ≡ length xs
length_differences [] ys h = refl
length_differences (x ∷ xs) [] h = absurd (omega arith)
length_differences (x ∷ xs) (y ∷ ys) h = omega (arith, length_differences xs ys (omega arith))

-- the first i hours of two lists that are long enough
module _ (xs ys : List ℤ) (i : ℕ) (long : i < length xs) (tall : i < length ys) where
  abbrev front : List ℤ
  front = differences (take i xs) (take i ys)

  abbrev x : ℤ
  x = slice_index_or xs i (pos 0)

  abbrev y : ℤ
  y = slice_index_or ys i (pos 0)

  front_more : differences (take (i + 1) xs) (take (i + 1) ys) ≡ front ++ (x -ℤ y) ∷ []
  front_more =
      ap (λ (zs : List ℤ). differences zs (take (i + 1) ys)) (take_more xs i (pos 0) long)
      ∙ ap (λ (zs : List ℤ). differences (take i xs ++ x ∷ []) zs) (take_more ys i (pos 0) tall)
      ∙ differences-push (take i xs) (take i ys) x y (length-take-le i xs (omega arith) ∙ sym (length-take-le i ys (omega arith)))

  pub total_more : total (differences (take (i + 1) xs) (take (i + 1) ys)) ≡ total front +ℤ (x -ℤ y)
  total_more = ap total front_more ∙ total-push front (x -ℤ y)

  front_long : length (losses front) ≡ i
  front_long =
      length-map front neg_ℤ ∙ length_differences (take i xs) (take i ys) (length-take-le i xs (omega arith) ∙ sym (length-take-le i ys (omega arith))) ∙ length-take-le i xs (omega arith)

  -- the losses so far stand in front of what stood there, so the next number is as it was
  pub next_is : (out : List ℤ) → out ≡ losses front ++ drop i ys → slice_index_or out i (pos 0) ≡ y
  next_is out same =
      ap (λ (o : List ℤ). get_or o i (pos 0)) same
      ∙ ap (λ (d : List ℤ). get_or (losses front ++ d) i (pos 0)) (drop_more ys i (pos 0) tall)
      ∙ get_or_at (losses front) y (drop (i + 1) ys) (pos 0) i front_long

  pub loss_more : (out : List ℤ) (z : ℤ) → out ≡ losses front ++ drop i ys → z ≡ neg_ℤ (x -ℤ y) → slice_set out i z ≡ losses (differences (take (i + 1) xs) (take (i + 1) ys)) ++ drop (i + 1) ys
  loss_more out z same value =
      ap (λ (o : List ℤ). set o i z) same
      ∙ ap (λ (d : List ℤ). set (losses front ++ d) i z) (drop_more ys i (pos 0) tall)
      ∙ set_at (losses front) y (drop (i + 1) ys) z i front_long
      ∙ ap (λ (w : ℤ). losses front ++ w ∷ drop (i + 1) ys) value
      ∙ sym (append_assoc (losses front) (neg_ℤ (x -ℤ y) ∷ []) (drop (i + 1) ys))
      ∙ ap (λ (t : List ℤ). t ++ drop (i + 1) ys) (sym (map_push neg_ℤ front (x -ℤ y)))
      ∙ ap (λ (t : List ℤ). losses t ++ drop (i + 1) ys) (sym front_more)

-- one hour in the machine's numbers: the price v is y, and d is the difference
pub price_kept : (y v : ℤ) → Within 200000 y → v ≡ y → Within 200000 (to_z w32 (of_z w32 v))
price_kept y v b e = (omega (arith, ints), omega (arith, ints))

module _ (x y v d : ℤ) (a : Within 200000 x) (b : Within 200000 y) (e : v ≡ y) (value : d ≡ to_z w32 (of_z w32 x) -ℤ to_z w32 (of_z w32 v)) where
  pub difference_is : d ≡ x -ℤ y
  difference_is = omega (arith, ints)

  pub difference_kept : to_z w32 (of_z w32 d) ≡ x -ℤ y
  difference_kept = omega (arith, ints)

  pub loss_is : to_z w32 (of_z w32 (pos 0 -ℤ to_z w32 (of_z w32 d))) ≡ neg_ℤ (x -ℤ y)
  loss_is = omega (arith, ints)

-- the sum with one hour more, in the machine's numbers
pub sum_more : (d sum wide front next : ℤ) (i : ℕ) → i < 9000 → Within 400000 d → neg_ℤ (pos (400000 * i)) ≤ℤ sum → sum ≤ℤ pos (400000 * i) → wide ≡ d → sum ≡ front → next ≡ front +ℤ d →
    (to_z w64 (of_z w64 (sum +ℤ to_z w64 (of_z w64 wide))) ≡ next) × (neg_ℤ (pos (400000 * (i + 1))) ≤ℤ to_z w64 (of_z w64 (sum +ℤ to_z w64 (of_z w64 wide)))) × (to_z w64 (of_z w64 (sum +ℤ to_z w64 (of_z w64 wide))) ≤ℤ pos (400000 * (i + 1)))
sum_more d sum wide front next i few small low high same so then = (omega (arith, ints), omega (arith, ints), omega (arith, ints))

-- differences of prices within b are within twice that, and so are the losses and, hour by hour, the sum
all_differences : (b : ℕ) (xs ys : List ℤ) → AllByRecursion (Within b) xs → AllByRecursion (Within b) ys → AllByRecursion (Within (2 * b)) (differences xs ys)
all_differences b [] ys h k = tt
all_differences b (x ∷ xs) [] h k = tt
all_differences b (x ∷ xs) (y ∷ ys) h k = (here h.0 k.0, all_differences b xs ys h.1 k.1)
  where
    here : Within b x → Within b y → Within (2 * b) (x -ℤ y)
    here a c = (omega (arith, ints), omega (arith, ints))

all_losses : (b : ℕ) (ds : List ℤ) → AllByRecursion (Within b) ds → AllByRecursion (Within b) (losses ds)
all_losses b [] h = tt
all_losses b (d ∷ ds) h = (here h.0, all_losses b ds h.1)
  where
    here : Within b d → Within b (neg_ℤ d)
    here a = (omega (arith, ints), omega (arith, ints))

total_within : (b : ℕ) (ds : List ℤ) → AllByRecursion (Within b) ds → Within (b * length ds) (total ds)
total_within b [] h = (omega (arith, ints), omega (arith, ints))
total_within b (d ∷ ds) h = more h.0 (total_within b ds h.1)
  where
    more : Within b d → Within (b * length ds) (total ds) → Within (b * suc (length ds)) (d +ℤ total ds)
    more a c = let m = mul-suc b (length ds) in (omega (arith, ints), omega (arith, ints))

-- what is known of the differences of a year
pub record Differ (ds : List ℤ) : Type 0 where
  pub sum : YearSum (summed ds)
  pub few : length ds ≤ 9000
  pub lost : AllByRecursion (Within 400000) (losses ds)

pub differ : (n : ℕ) (xs ys : List ℤ) → 0 < n → n ≤ 9000 → length xs ≡ n → length ys ≡ n → Small 200000 xs → Small 200000 ys → Differ (differences xs ys)
differ n xs ys some few a b sx sy =
    let all = all_differences 200000 xs ys (small_all 200000 xs sx) (small_all 200000 ys sy) in
    let long = length_differences xs ys (a ∙ sym b) ∙ a in
    record { sum = (omega arith, omega arith, total_within 400000 (differences xs ys) all); few = omega arith; lost = all_losses 400000 (differences xs ys) all }
