-- The years of a path, read from a source that keeps its laws.
use Rattle.std.specs.Prelude.{◌≡◌, ℕ, ◌*◌, ◌<◌, ◌≤◌, Bool, true, false, cond, ◌&&◌, List, ◌++◌, length, take, drop, ℤ, pos, ◌-ℤ◌, ◌*ℤ◌, neg_ℤ, IfOk, Some, None, Ok, Err, Option, Result, ◌==◌, slice_index_or, refl, replicate}
use Rattle.std.proofs.Common.{sym, ap, subst, ◌∙◌, arith}
use Rattle.std.proofs.ByRecursion.{All-append, All-drop}
use Rattle.std.proofs.lemmas.List.{map-append, take_at, get_or-replicate, length-map, length-replicate}
use Rattle.std.proofs.lemmas.Int.{ints}
use Rattle.std.specs.List.{AllByRecursion}
use Rattle.hours.specs.Years.{clash, asked, some_hours_lem}
use Rattle.hours.specs.Bounds.{Within}
use Rattle.hours.specs.Faults.{unlawful_question}
use Rattle.hours.specs.Periods.{lawful_slot, lawful_year}
use Rattle.hours.specs.Questions.{year_of, how_many, written}
use Rattle.hours.specs.declared.fault.Fault.{Fault}
use Rattle.hours.specs.declared.period.Slot.{Slot}
use Rattle.books.specs.BookFaults.{unlawful_key, no_hours}
use Rattle.books.specs.Differences.{differences, summed, losses, gained, summed_years, LostIn, LeftIn, Small, lost, YearSum}
use Rattle.books.specs.Histories.{numerator, denominator, floored, percent, mean_ahead, stress_of, price_from, path_price, some_hours, path_years, priced_years, history_price}
use Rattle.books.specs.Keys.{lawful_key}
use Rattle.books.specs.Percentiles.{percentile_of}
use Rattle.books.specs.Results.{bind, done}
use Rattle.books.specs.declared.key.Key.{Key}
use Rattle.books.specs.declared.key.Path.{Path}
use Rattle.books.specs.Fractions.{ahead_within}
use Rattle.books.specs.Hourly.{Differ, differ, length_differences, all_small, small_all, small-append}
use Rattle.books.specs.Least.{stress_within}
use Rattle.books.specs.Products.{within_times}

-- the answers of `fill`, and of a year that is read
pub filled_err : (y : Result (List ℤ) Fault) (e : Fault) → Err e ≡ how_many y → y ≡ Err e
filled_err (Err x) e q = let same : x ≡ e = cc in ap Err same
filled_err (Ok zs) e q = clash (length zs) e (sym q)

pub filled_ok : (y : Result (List ℤ) Fault) (n : ℕ) → Ok n ≡ how_many y → (zs : List ℤ) × (y ≡ Ok zs) × (n ≡ length zs)
filled_ok (Err e) n q = clash n e q
filled_ok (Ok zs) n q = (zs, refl, cc)

pub done_ok : (y : Result (List ℤ) Fault) (u : Unit {0}) → Ok u ≡ done y → (zs : List ℤ) × (y ≡ Ok zs)
done_ok (Err e) u q = absurd (clash u e q)
done_ok (Ok zs) u q = (zs, refl)

-- the answers of a year's differences
pub gained_err : (y : Result (List ℤ) Fault) (sources : List ℤ) (e : Fault) → Err e ≡ gained y sources → y ≡ Err e
gained_err (Err x) sources e q = let same : x ≡ e = cc in ap Err same
gained_err (Ok zs) sources e q = clash (summed (differences zs (take (length zs) sources))) e (sym q)

pub gained_ok : (y : Result (List ℤ) Fault) (sources : List ℤ) (q : ℤ × ℕ) → Ok q ≡ gained y sources → (zs : List ℤ) × (y ≡ Ok zs) × (q ≡ summed (differences zs (take (length zs) sources)))
gained_ok (Err e) sources q h = clash q e h
gained_ok (Ok zs) sources q h = (zs, refl, cc)

-- one step after another
pub bound_err : {A B : Type 0} (r : Result A Fault) (f : A → B) (e : Fault) → Err e ≡ bind r (λ x. Ok (f x)) → r ≡ Err e
bound_err (Err x) f e q = let same : x ≡ e = cc in ap Err same
bound_err (Ok x) f e q = clash (f x) e (sym q)

pub bound_ok : {A B : Type 0} (r : Result A Fault) (f : A → B) (y : B) → Ok y ≡ bind r (λ x. Ok (f x)) → (x : A) × (r ≡ Ok x) × (y ≡ f x)
bound_ok (Err e) f y q = clash y e q
bound_ok (Ok x) f y q = (x, refl, cc)

-- nothing is said of the buffers after a fault
pub lost_none : (r : Result (List ℤ × List ℤ) Fault) (e : Fault) (recent distant : List ℤ) → r ≡ Err e → LostIn r recent distant
lost_none (Err x) e recent distant h = tt
lost_none (Ok x) e recent distant h = clash x e h

pub lost_both : (r : Result (List ℤ × List ℤ) Fault) (a b recent distant : List ℤ) → r ≡ Ok (a, b) → take (length a) recent ≡ losses a → take (length b) distant ≡ losses b → LostIn r recent distant
lost_both r a b recent distant h p q = subst (λ (s : Result (List ℤ × List ℤ) Fault). LostIn s recent distant) (sym h) (p, q)

made_bind : {A B : Type 0} (r : Result A Fault) (f : A → Result B Fault) (P : B → Type 0) → ((x : A) → r ≡ Ok x → IfOk (f x) P) → IfOk (bind r f) P
made_bind (Err e) f P h = tt
made_bind (Ok x) f P h = h x refl

-- four years, one after another
abbrev joined : Result (List ℤ) Fault → Result (List ℤ) Fault → Result (List ℤ) Fault → Result (List ℤ) Fault → Result (List ℤ × List ℤ) Fault
joined a b c d = bind a (λ x. bind b (λ y. bind c (λ z. bind d (λ w. Ok (differences z x, differences w y)))))

module _ (year : ℕ → Slot → ℕ → Result (List ℤ) Fault) (p : Path) (s : Slot) where
  abbrev A : Result (List ℤ) Fault
  A = year p.source s 0

  abbrev B : Result (List ℤ) Fault
  B = year p.source s 1

  abbrev C : Result (List ℤ) Fault
  C = year p.sink s 0

  abbrev D : Result (List ℤ) Fault
  D = year p.sink s 1

  after_one : (a : Result (List ℤ) Fault) → A ≡ a → path_years year p s ≡ joined a B C D
  after_one a h = ap (λ (r : Result (List ℤ) Fault). joined r B C D) h

  after_two : (x : List ℤ) (b : Result (List ℤ) Fault) → A ≡ Ok x → B ≡ b → path_years year p s ≡ joined (Ok x) b C D
  after_two x b h k = after_one (Ok x) h ∙ ap (λ (r : Result (List ℤ) Fault). joined (Ok x) r C D) k

  after_three : (x y : List ℤ) (c : Result (List ℤ) Fault) → A ≡ Ok x → B ≡ Ok y → C ≡ c → path_years year p s ≡ joined (Ok x) (Ok y) c D
  after_three x y c h k l = after_two x (Ok y) h k ∙ ap (λ (r : Result (List ℤ) Fault). joined (Ok x) (Ok y) r D) l

  pub first_missing : (e : Fault) → A ≡ Err e → path_years year p s ≡ Err e
  first_missing e h = after_one (Err e) h

  pub second_missing : (x : List ℤ) (e : Fault) → A ≡ Ok x → B ≡ Err e → path_years year p s ≡ Err e
  second_missing x e h k = after_two x (Err e) h k

  pub third_missing : (x y : List ℤ) (e : Fault) → A ≡ Ok x → B ≡ Ok y → C ≡ Err e → path_years year p s ≡ Err e
  third_missing x y e h k l = after_three x y (Err e) h k l

  pub fourth_missing : (x y z : List ℤ) (e : Fault) → A ≡ Ok x → B ≡ Ok y → C ≡ Ok z → D ≡ Err e → path_years year p s ≡ Err e
  fourth_missing x y z e h k l m = after_three x y (Ok z) h k l ∙ ap (joined (Ok x) (Ok y) (Ok z)) m

  pub all_there : (x y z w : List ℤ) → A ≡ Ok x → B ≡ Ok y → C ≡ Ok z → D ≡ Ok w → path_years year p s ≡ Ok (differences z x, differences w y)
  all_there x y z w h k l m = after_three x y (Ok z) h k l ∙ ap (joined (Ok x) (Ok y) (Ok z)) m

-- the laws of a source that are needed here, of its hours and its prices
pub record Laws (hours : Slot → ℕ → ℕ) (prices : ℕ → Slot → ℕ → Option (List ℤ)) : Type 0 where
  pub few : (s : Slot) (y : ℕ) → hours s y ≤ 9000
  pub whole : (l : ℕ) (s : Slot) (y : ℕ) (zs : List ℤ) → prices l s y ≡ Some zs → length zs ≡ hours s y
  pub empty : (l : ℕ) (s : Slot) (y : ℕ) → hours s y ≡ 0 → prices l s y ≡ None
  pub small : (l : ℕ) (s : Slot) (y : ℕ) (zs : List ℤ) (h : ℕ) → prices l s y ≡ Some zs → Within 200000 (slice_index_or zs h (pos 0))

-- a year of n hours that is there
pub record There (n : ℕ) (zs : List ℤ) : Type 0 where
  pub long : length zs ≡ n
  pub some : 0 < n
  pub few : n ≤ 9000
  pub small : Small 200000 zs

-- the differences of two such years
pub differ_there : (n : ℕ) (xs ys : List ℤ) → There n xs → There n ys → Differ (differences xs ys) × (length (differences xs ys) ≡ n)
differ_there n xs ys a b = (differ n xs ys a.some a.few a.long b.long a.small b.small, length_differences xs ys (a.long ∙ sym b.long) ∙ a.long)

pub there : (hours : Slot → ℕ → ℕ) (locations : ℕ) (prices : ℕ → Slot → ℕ → Option (List ℤ)) → Laws hours prices → (l : ℕ) (s : Slot) (y : ℕ) (zs : List ℤ) → year_of locations prices l s y ≡ Ok zs → There (hours s y) zs
there hours locations prices laws l s y zs e =
    let a = asked locations prices l s y zs e in
    let h = some_hours_lem (hours s y) (prices l s y) zs (laws.whole l s y zs) (laws.empty l s y) a.there in
    record { long = h.0; some = h.1; few = laws.few s y; small = λ k below. laws.small l s y zs k a.there }

-- a buffer of zeros, and one with a year written into it
pub small_zeros : (b n : ℕ) → Small b (replicate n (pos 0))
small_zeros b n k below = let e = get_or-replicate n k (pos 0) (pos 0) (omega (arith, length-replicate n (pos 0))) in (omega (arith, ints), omega (arith, ints))

pub small_written : (b : ℕ) (y : Result (List ℤ) Fault) (buffer : List ℤ) → ((zs : List ℤ) → y ≡ Ok zs → Small b zs) → Small b buffer → Small b (written y buffer)
small_written b (Err e) buffer h k = k
small_written b (Ok zs) buffer h k = small-append b zs (drop (length zs) buffer) (h zs refl) (all_small b (drop (length zs) buffer) (All-drop (Within b) (length zs) buffer (small_all b buffer k)))

-- the year stands at the front of the buffer
pub front_of : (y : Result (List ℤ) Fault) (zs buffer out : List ℤ) (n : ℕ) → y ≡ Ok zs → out ≡ written y buffer → n ≡ length zs → take n out ≡ zs
front_of y zs buffer out n e same long =
    ap (take n) (same ∙ ap (λ (r : Result (List ℤ) Fault). written r buffer) e) ∙ take_at zs (drop (length zs) buffer) n (sym long)

-- the losses stand at the front of the buffer
pub losses_at_front : (y : Result (List ℤ) Fault) (zs sources prices out : List ℤ) → y ≡ Ok zs → out ≡ lost y sources → take (length zs) sources ≡ prices → take (length (differences zs prices)) out ≡ losses (differences zs prices)
losses_at_front y zs sources prices out e same front =
    let ds = differences zs prices in
    ap (take (length ds)) (same ∙ ap (λ (r : Result (List ℤ) Fault). lost r sources) e ∙ ap (λ (ps : List ℤ). losses (differences zs ps) ++ drop (length zs) sources) front) ∙ take_at (losses ds) (drop (length zs) sources) (length ds) (length-map ds neg_ℤ)

-- what is known of the differences of both years
pub path_facts : (hours : Slot → ℕ → ℕ) (locations : ℕ) (prices : ℕ → Slot → ℕ → Option (List ℤ)) → Laws hours prices → (p : Path) (s : Slot) (ds : List ℤ × List ℤ) → path_years (year_of locations prices) p s ≡ Ok ds → Differ ds.0 × Differ ds.1
path_facts hours locations prices laws p s ds h = go (year p.source 0) (year p.source 1) (year p.sink 0) (year p.sink 1) (known p.source 0) (known p.source 1) (known p.sink 0) (known p.sink 1) h
  where
    year : ℕ → ℕ → Result (List ℤ) Fault
    year l y = year_of locations prices l s y

    known : (l y : ℕ) (zs : List ℤ) → year_of locations prices l s y ≡ Ok zs → There (hours s y) zs
    known l y = there hours locations prices laws l s y

    both : (n : ℕ) (x z : List ℤ) → There n x → There n z → Differ (differences z x)
    both n x z a b = (differ_there n z x b a).0

    go : (a b c d : Result (List ℤ) Fault) → ((zs : List ℤ) → a ≡ Ok zs → There (hours s 0) zs) → ((zs : List ℤ) → b ≡ Ok zs → There (hours s 1) zs) → ((zs : List ℤ) → c ≡ Ok zs → There (hours s 0) zs) → ((zs : List ℤ) → d ≡ Ok zs → There (hours s 1) zs) → joined a b c d ≡ Ok ds → Differ ds.0 × Differ ds.1
    go (Err e) b c d ka kb kc kd q = clash ds e (sym q)
    go (Ok x) (Err e) c d ka kb kc kd q = clash ds e (sym q)
    go (Ok x) (Ok y) (Err e) d ka kb kc kd q = clash ds e (sym q)
    go (Ok x) (Ok y) (Ok z) (Err e) ka kb kc kd q = clash ds e (sym q)
    go (Ok x) (Ok y) (Ok z) (Ok w) ka kb kc kd q =
        let same : (differences z x, differences w y) ≡ ds = cc in
        (subst Differ (ap (λ (t : List ℤ × List ℤ). t.0) same) (both (hours s 0) x z (ka x refl) (kc z refl)), subst Differ (ap (λ (t : List ℤ × List ℤ). t.1) same) (both (hours s 1) y w (kb y refl) (kd w refl)))

-- some hours are those of the slot and year
pub hours_are : (hours : Slot → ℕ → ℕ) (s : Slot) (y n : ℕ) → Ok n ≡ some_hours hours s y → n ≡ hours s y
hours_are hours s y n h = lawful (lawful_slot s && lawful_year y) (sym h)
  where
    some : (b : Bool) → cond b (Err (no_hours y)) (Ok (hours s y)) ≡ Ok n → n ≡ hours s y
    some true q = clash n (no_hours y) (sym q)
    some false q = cc

    lawful : (b : Bool) → bind (cond b (Ok (hours s y)) (Err unlawful_question)) (λ n. cond (n == 0) (Err (no_hours y)) (Ok n)) ≡ Ok n → n ≡ hours s y
    lawful true q = some (hours s y == 0) q
    lawful false q = clash n unlawful_question (sym q)

-- a price from differences that are known
pub price_within : (h : ℕ) (d1 d2 : List ℤ) → h ≤ 9000 → Differ d1 → Differ d2 → Within 8000000000 (path_price h d1 d2)
price_within h d1 d2 few a b =
    let all = subst (AllByRecursion (Within 400000)) (sym (map-append neg_ℤ d1 d2)) (All-append (Within 400000) (losses d1) (losses d2) a.lost b.lost) in
    let stress = stress_of (percentile_of (percent (numerator (summed d1) (summed d2))) (losses (d1 ++ d2))) in
    let hourly : Within 400000 stress = stress_within 400000 (percent (numerator (summed d1) (summed d2))) (losses (d1 ++ d2)) all in
    let mean : Within 3600000000 (mean_ahead h (summed d1) (summed d2)) = ahead_within (summed d1).0 (summed d2).0 (summed d1).1 (summed d2).1 a.sum b.sum h few in
    apart (mean_ahead h (summed d1) (summed d2)) (stress *ℤ pos h) mean (within_times 400000 h stress hourly)
  where
    apart : (m t : ℤ) → Within 3600000000 m → Within (400000 * h) t → Within 8000000000 (m -ℤ t)
    apart m t a b = (omega (arith, ints), omega (arith, ints))

pub history_bounded : (hours : Slot → ℕ → ℕ) (locations : ℕ) (prices : ℕ → Slot → ℕ → Option (List ℤ)) → Laws hours prices → (k : Key) → IfOk (history_price hours locations prices k) (Within 8000000000)
history_bounded hours locations prices laws k = go (lawful_key k)
  where
    at : (h : ℕ) → some_hours hours k.slot 2 ≡ Ok h → IfOk (priced_years h (path_years (year_of locations prices) k.path k.slot)) (Within 8000000000)
    at h e =
        made_bind (path_years (year_of locations prices) k.path k.slot) _ (Within 8000000000)
        (λ years q. let f = path_facts hours locations prices laws k.path k.slot years q in price_within h years.0 years.1 (omega (arith, hours_are hours k.slot 2 h (sym e), laws.few k.slot 2)) f.0 f.1)

    go : (b : Bool) → IfOk (cond b (bind (some_hours hours k.slot 0) (λ _. bind (some_hours hours k.slot 1) (λ _. bind (some_hours hours k.slot 2) (λ h. priced_years h (path_years (year_of locations prices) k.path k.slot))))) (Err unlawful_key)) (Within 8000000000)
    go false = tt
    go true =
        made_bind (some_hours hours k.slot 0) _ (Within 8000000000) (λ _ p. made_bind (some_hours hours k.slot 1) _ (Within 8000000000) (λ _ q. made_bind (some_hours hours k.slot 2) _ (Within 8000000000) (λ h e. at h e)))

-- what is known once both years of a path are read: their sums, and the losses at the front of the buffers
pub record Read (r : Result (List ℤ × List ℤ) Fault) (first second : ℤ × ℕ) (recent distant : List ℤ) : Type 0 where
  pub years : List ℤ × List ℤ
  pub is : r ≡ Ok years
  pub first_is : first ≡ summed years.0
  pub second_is : second ≡ summed years.1
  pub first_sum : YearSum first
  pub second_sum : YearSum second
  pub recent_is : take first.1 recent ≡ losses years.0
  pub distant_is : take second.1 distant ≡ losses years.1
  pub recent_small : Small 400000 (take first.1 recent)
  pub distant_small : Small 400000 (take second.1 distant)
  pub recent_long : length (take first.1 recent) ≤ 9000
  pub distant_long : length (take second.1 distant) ≤ 9000

pub read_both : (hours : Slot → ℕ → ℕ) (locations : ℕ) (prices : ℕ → Slot → ℕ → Option (List ℤ)) → Laws hours prices → (p : Path) (s : Slot) (first second : ℤ × ℕ) (recent distant : List ℤ) →
    ◌≡◌ {A = Result ((ℤ × ℕ) × (ℤ × ℕ)) Fault} (Ok (first, second)) (summed_years (path_years (year_of locations prices) p s)) → LostIn (path_years (year_of locations prices) p s) recent distant →
    Read (path_years (year_of locations prices) p s) first second recent distant
read_both hours locations prices laws p s first second recent distant answer after =
    let r = path_years (year_of locations prices) p s in
    let b = bound_ok {B = (ℤ × ℕ) × (ℤ × ℕ)} r (λ (years : List ℤ × List ℤ). (summed years.0, summed years.1)) (first, second) answer in
    let ds = b.0 in
    let f = path_facts hours locations prices laws p s ds b.1 in
    let lost = subst (λ (t : Result (List ℤ × List ℤ) Fault). LostIn t recent distant) b.1 after in
    let e : first ≡ summed ds.0 = ap (λ (t : (ℤ × ℕ) × (ℤ × ℕ)). t.0) b.2 in
    let g : second ≡ summed ds.1 = ap (λ (t : (ℤ × ℕ) × (ℤ × ℕ)). t.1) b.2 in
    let h : take first.1 recent ≡ losses ds.0 = ap (λ (t : ℤ × ℕ). take t.1 recent) e ∙ lost.0 in
    let k : take second.1 distant ≡ losses ds.1 = ap (λ (t : ℤ × ℕ). take t.1 distant) g ∙ lost.1 in
    record {
      years = ds;
      is = b.1;
      first_is = e;
      second_is = g;
      first_sum = subst YearSum (sym e) f.0.sum;
      second_sum = subst YearSum (sym g) f.1.sum;
      recent_is = h;
      distant_is = k;
      recent_small = subst (Small 400000) (sym h) (all_small 400000 (losses ds.0) f.0.lost);
      distant_small = subst (Small 400000) (sym k) (all_small 400000 (losses ds.1) f.1.lost);
      recent_long = omega (arith, ap length h, length-map ds.0 neg_ℤ, f.0.few);
      distant_long = omega (arith, ap length k, length-map ds.1 neg_ℤ, f.1.few);
    }

-- the price of what was read
pub read_price_lem : (h : ℕ) (r : Result (List ℤ × List ℤ) Fault) (first second : ℤ × ℕ) (recent distant : List ℤ) (z : ℤ) → Read r first second recent distant → z ≡ price_from h first second (take first.1 recent ++ take second.1 distant) → Ok z ≡ priced_years h r
read_price_lem h r first second recent distant z read value =
    let ds = read.years in
    ap Ok (value
    ∙ ap (λ (t : ℤ × ℕ). price_from h t second (take first.1 recent ++ take second.1 distant)) read.first_is
    ∙ ap (λ (t : ℤ × ℕ). price_from h (summed ds.0) t (take first.1 recent ++ take second.1 distant)) read.second_is
    ∙ ap (λ (xs : List ℤ). price_from h (summed ds.0) (summed ds.1) (xs ++ take second.1 distant)) read.recent_is
    ∙ ap (λ (xs : List ℤ). price_from h (summed ds.0) (summed ds.1) (losses ds.0 ++ xs)) read.distant_is
    ∙ ap (price_from h (summed ds.0) (summed ds.1)) (sym (map-append neg_ℤ ds.0 ds.1)))
    ∙ sym (ap (priced_years h) read.is)

-- the same of years that hold their losses and no more
pub record YearsRead (r : Result (List ℤ × List ℤ) Fault) (first second : ℤ × ℕ) (recent distant : List ℤ) : Type 0 where
  pub years : List ℤ × List ℤ
  pub is : r ≡ Ok years
  pub first_is : first ≡ summed years.0
  pub second_is : second ≡ summed years.1
  pub recent_is : recent ≡ losses years.0
  pub distant_is : distant ≡ losses years.1

pub years_read : (r : Result (List ℤ × List ℤ) Fault) (first second : ℤ × ℕ) (recent distant : List ℤ) →
    ◌≡◌ {A = Result ((ℤ × ℕ) × (ℤ × ℕ)) Fault} (Ok (first, second)) (summed_years r) → LeftIn r recent distant → YearsRead r first second recent distant
years_read r first second recent distant answer after =
    let b = bound_ok {B = (ℤ × ℕ) × (ℤ × ℕ)} r (λ (years : List ℤ × List ℤ). (summed years.0, summed years.1)) (first, second) answer in
    let lost = subst (λ (t : Result (List ℤ × List ℤ) Fault). LeftIn t recent distant) b.1 after in
    record {
      years = b.0;
      is = b.1;
      first_is = ap (λ (t : (ℤ × ℕ) × (ℤ × ℕ)). t.0) b.2;
      second_is = ap (λ (t : (ℤ × ℕ) × (ℤ × ℕ)). t.1) b.2;
      recent_is = lost.0;
      distant_is = lost.1;
    }

-- the price of what was read, from the mean as a fraction
pub years_price : (h : ℕ) (r : Result (List ℤ × List ℤ) Fault) (first second : ℤ × ℕ) (recent distant : List ℤ) (a : ℤ) (d : ℕ) (z : ℤ) → YearsRead r first second recent distant → a ≡ numerator first second → d ≡ denominator first second →
    z ≡ floored (a *ℤ pos h) d -ℤ stress_of (percentile_of (percent a) (recent ++ distant)) *ℤ pos h → Ok z ≡ priced_years h r
years_price h r first second recent distant a d z read above below value =
    let ds = read.years in
    ap Ok (value
    ∙ ap (λ (t : ℤ). floored (t *ℤ pos h) d -ℤ stress_of (percentile_of (percent t) (recent ++ distant)) *ℤ pos h) above
    ∙ ap (λ (n : ℕ). floored (numerator first second *ℤ pos h) n -ℤ stress_of (percentile_of (percent (numerator first second)) (recent ++ distant)) *ℤ pos h) below
    ∙ ap (λ (t : ℤ × ℕ). price_from h t second (recent ++ distant)) read.first_is
    ∙ ap (λ (t : ℤ × ℕ). price_from h (summed ds.0) t (recent ++ distant)) read.second_is
    ∙ ap (λ (xs : List ℤ). price_from h (summed ds.0) (summed ds.1) (xs ++ distant)) read.recent_is
    ∙ ap (λ (xs : List ℤ). price_from h (summed ds.0) (summed ds.1) (losses ds.0 ++ xs)) read.distant_is
    ∙ ap (price_from h (summed ds.0) (summed ds.1)) (sym (map-append neg_ℤ ds.0 ds.1)))
    ∙ sym (ap (priced_years h) read.is)
