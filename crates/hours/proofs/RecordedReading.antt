-- One entry more of a section: taken in, or refused at its line.
use Rattle.std.proofs.Common.{◌≡◌, ℕ, zero, suc, ◌+◌, ◌-◌, ◌<◌, ◌≤◌, Bool, true, false, cond, leb, List, [], ◌∷◌, length, take, drop, ℤ, Some, None, Ok, Err, Option, Result, sym, refl, ap, ◌∙◌, subst, sub-one, arith}
use Rattle.std.proofs.lemmas.List.{take_all, length-drop, drop-drop}
use Rattle.std.proofs.lemmas.Bool.Decides.{nat_tests}
use Rattle.std.proofs.lemmas.Option.{same_Some, none-some, cond_some}
use Rattle.std.specs.Prelude.{◌&&◌, IfSome}
use Rattle.std.specs.Option.{option_map}
use Rattle.std.specs.Bool.{then_some}
use Rattle.std.specs.List.{list_all}
use Rattle.hours.specs.declared.unlawful.Unlawful.{Unlawful}
use Rattle.hours.specs.declared.rows.CountRow.{CountRow}
use Rattle.hours.specs.declared.recorded.entry.Head.{Head}
use Rattle.hours.specs.declared.recorded.tables.Tables.{Tables}
use Rattle.hours.specs.RecordedEntries.{and_then, head_from, fitting, lawful_price}
use Rattle.hours.specs.RecordedFormat.{or_refused, Left, Prices, Taken, entry_at, read_entries, read_prices, prices_after, head_at, year_at, read_years, checked}
use Rattle.hours.specs.RecordedTables.{tabled_counts, has_start, with_entry, with_series, in_tables, refused_at, came_out}
use Rattle.hours.specs.Years.{clash}
use Rattle.hours.specs.RecordedLawful.{through}

-- what a slice from a place on has
from : (n : ℕ) (xs : List ℤ) → take (length xs - n) (drop n xs) ≡ drop n xs
from n xs = take_all (length xs - n) (drop n xs) (simp length-drop (omega arith))

-- the first section

one_entry : (n : ℕ) (t : Tables) (line : ℕ) (xs : List ℤ) → 0 < n → read_entries in_tables n t line xs ≡ or_refused (entry_at in_tables t xs) line (λ e. read_entries in_tables (n - 1) (with_entry t e) (line + 1) (drop 6 xs))
one_entry zero t line xs h = absurd (omega arith)
one_entry (suc n) t line xs h = simp sub-one

-- an entry that is refused
pub entry_refused : (start end line : ℕ) (t : Tables) (xs : List ℤ) (all : Result (Left Tables) ℕ) →
    0 < end - start → line ≡ start → entry_at in_tables t xs ≡ None → read_entries in_tables (end - start) t start xs ≡ all → Err line ≡ all
entry_refused start end line t xs all some l o held =
    ap (λ (j : ℕ). Err j) l
    ∙ sym (one_entry (end - start) t start xs some ∙ ap (λ (o : Option (CountRow ℕ)). or_refused o start (λ e. read_entries in_tables (end - start - 1) (with_entry t e) (start + 1) (drop 6 xs))) o)
    ∙ held

-- one that is taken in
pub entry_read : (start end : ℕ) (t : Tables) (xs : List ℤ) (e : CountRow ℕ) (start' end' : ℕ) (u : Tables) (all : Result (Left Tables) ℕ) →
    0 < end - start → end' ≡ end → start' ≡ start + 1 → entry_at in_tables t xs ≡ Some e → u ≡ with_entry t e → read_entries in_tables (end - start) t start xs ≡ all →
    read_entries in_tables (end' - start') u start' (take (length xs - 6) (drop 6 xs)) ≡ all
entry_read start end t xs e start' end' u all some p q o w held =
    let n : end' - start' ≡ end - start - 1 = omega (arith, p, q) in
    ap (λ (k : ℕ). read_entries in_tables k u start' (take (length xs - 6) (drop 6 xs))) n
    ∙ ap (λ (u : Tables). read_entries in_tables (end - start - 1) u start' (take (length xs - 6) (drop 6 xs))) w
    ∙ ap (λ (j : ℕ). read_entries in_tables (end - start - 1) (with_entry t e) j (take (length xs - 6) (drop 6 xs))) q
    ∙ ap (read_entries in_tables (end - start - 1) (with_entry t e) (start + 1)) (from 6 xs)
    ∙ sym (one_entry (end - start) t start xs some ∙ ap (λ (o : Option (CountRow ℕ)). or_refused o start (λ e. read_entries in_tables (end - start - 1) (with_entry t e) (start + 1) (drop 6 xs))) o)
    ∙ held

-- the second section

prices_at : (k : ℕ) (xs : List ℤ) → read_prices k xs ≡ cond (leb k (length xs) && list_all lawful_price (take k xs)) (Some (record { these = take k xs; rest = drop k xs })) None
prices_at zero xs = ap (λ (b : Bool). cond (b && true) (Some (record { these = []; rest = xs })) None) (let w : true ≡ leb 0 (length xs) = grind (arith, nat_tests) in w)
prices_at (suc k) [] = ap (λ (b : Bool). cond (b && true) (Some (record { these = []; rest = [] })) None) (let w : false ≡ leb (suc k) 0 = grind (arith, nat_tests) in w)
prices_at (suc k) (x ∷ xs) =
    ap (λ (o : Option Prices). cond (lawful_price x) (and_then {B = Prices} o (λ p. Some (record { these = x ∷ p.these; rest = p.rest }))) None) (prices_at k xs)
    ∙ step (lawful_price x) (leb k (length xs)) (list_all lawful_price (take k xs))
    ∙ ap (λ (b : Bool). cond (b && (lawful_price x && list_all lawful_price (take k xs))) (Some (record { these = x ∷ take k xs; rest = drop k xs })) None)
    (let w : leb k (length xs) ≡ leb (suc k) (suc (length xs)) = grind (arith, nat_tests) in w)
  where
    step : (p a b : Bool) → cond p (and_then {B = Prices} (cond (a && b) (Some (record { these = take k xs; rest = drop k xs })) None) (λ (p : Prices). Some (record { these = x ∷ p.these; rest = p.rest }))) None
        ≡ cond (a && (p && b)) (Some (record { these = x ∷ take k xs; rest = drop k xs })) None
    step true true true = refl
    step true true false = refl
    step true false b = refl
    step false true b = refl
    step false false b = refl

-- the entry of the second section at the front, by its six numbers and what follows them
module _ (t : Tables) (xs : List ℤ) (h : Head) (six rest : List ℤ) (front : six ≡ take 6 xs) (back : rest ≡ drop 6 xs) (long : length rest + 6 ≡ length xs) (e : Some h ≡ head_from six) where
  headed : head_at in_tables t xs ≡ cond (fitting (tabled_counts t h.series.slot) (has_start t h.series) h) (Some h) None
  headed =
      let whole : leb 6 (length xs) ≡ true = grind (arith, nat_tests) in
      ap (λ (b : Bool). cond b (and_then (head_from (take 6 xs)) (λ h. cond (fitting (tabled_counts t h.series.slot) (has_start t h.series) h) (Some h) None)) None) whole
      ∙ ap (λ (o : Option Head). and_then o (λ h. cond (fitting (tabled_counts t h.series.slot) (has_start t h.series) h) (Some h) None)) (ap head_from (sym front) ∙ sym e)

  year_fit : true ≡ fitting (tabled_counts t h.series.slot) (has_start t h.series) h → year_at in_tables t xs ≡ cond (leb h.hours (length rest) && list_all lawful_price (take h.hours rest)) (Some (record { head = h; prices = take h.hours rest; rest = drop h.hours rest })) None
  year_fit f =
      ap (λ (o : Option Head). prices_after o (drop 6 xs)) (headed ∙ ap (λ (b : Bool). cond b (Some h) None) (sym f))
      ∙ ap (λ (ys : List ℤ). and_then {B = Taken} (read_prices h.hours ys) (λ p. Some (record { head = h; prices = p.these; rest = p.rest }))) (sym back)
      ∙ ap (λ (o : Option Prices). and_then {B = Taken} o (λ p. Some (record { head = h; prices = p.these; rest = p.rest }))) (prices_at h.hours rest)
      ∙ under (leb h.hours (length rest) && list_all lawful_price (take h.hours rest))
    where
      under : (b : Bool) → and_then {B = Taken} (cond b (Some (record { these = take h.hours rest; rest = drop h.hours rest })) None) (λ (p : Prices). Some (record { head = h; prices = p.these; rest = p.rest })) ≡ cond b (Some (record { head = h; prices = take h.hours rest; rest = drop h.hours rest })) None
      under true = refl
      under false = refl

  pub year_cut : true ≡ fitting (tabled_counts t h.series.slot) (has_start t h.series) h → length rest < h.hours → year_at in_tables t xs ≡ None
  year_cut f short =
      year_fit f ∙ ap (λ (b : Bool). cond (b && list_all lawful_price (take h.hours rest)) (Some (record { head = h; prices = take h.hours rest; rest = drop h.hours rest })) None)
      (let w : leb h.hours (length rest) ≡ false = grind (arith, nat_tests) in w)

  pub year_told : true ≡ fitting (tabled_counts t h.series.slot) (has_start t h.series) h → (prices : List ℤ) (b : Bool) → h.hours ≤ length rest → prices ≡ take (h.hours - 0) rest → b ≡ list_all lawful_price prices →
      option_map (λ (y : Taken). y.head) (year_at in_tables t xs) ≡ then_some b h
  year_told f prices b there p q =
      ap (option_map (λ (y : Taken). y.head)) (year_fit f
      ∙ ap (λ (v : Bool). cond (v && list_all lawful_price (take h.hours rest)) (Some (record { head = h; prices = take h.hours rest; rest = drop h.hours rest })) None)
      (let w : leb h.hours (length rest) ≡ true = grind (arith, nat_tests) in w)
      ∙ ap (λ (v : Bool). cond v (Some (record { head = h; prices = take h.hours rest; rest = drop h.hours rest })) None) (ap (list_all lawful_price) (sym (p ∙ ap (λ (n : ℕ). take n rest) (let w : h.hours - 0 ≡ h.hours = omega arith in w))) ∙ sym q))
      ∙ by_test b
    where
      by_test : (b : Bool) → option_map (λ (y : Taken). y.head) (cond b (Some (record { head = h; prices = take h.hours rest; rest = drop h.hours rest })) None) ≡ then_some b h
      by_test true = refl
      by_test false = refl

-- what holds of a value holds of it where it is kept
pub some_only : {A : Type 0} (P : A → Type 0) (b : Bool) (a : A) → P a → IfSome (then_some b a) P
some_only P true a h = h
some_only P false a h = tt

-- what follows the entry of the second section at the front
prices_rest : (k : ℕ) (xs : List ℤ) (p : Prices) → read_prices k xs ≡ Some p → p.rest ≡ drop k xs
prices_rest k xs p e =
    ap (λ (p : Prices). p.rest) (sym (cond_some (leb k (length xs) && list_all lawful_price (take k xs)) (record { these = take k xs; rest = drop k xs }) p (sym (prices_at k xs) ∙ e)).1)

year_rest : (t : Tables) (xs : List ℤ) (y : Taken) → year_at in_tables t xs ≡ Some y → y.rest ≡ drop (6 + y.head.hours) xs
year_rest t xs y e =
    let a = through (head_at in_tables t xs) _ y e in
    let b = through (read_prices a.0.hours (drop 6 xs)) _ y a.2 in
    let p = prices_rest a.0.hours (drop 6 xs) b.0 b.1 in
    subst (λ (y : Taken). y.rest ≡ drop (6 + y.head.hours) xs) (same_Some _ _ b.2) (p ∙ drop-drop a.0.hours 6 xs)

headed_by : (o : Option Taken) (h : Head) → option_map (λ (y : Taken). y.head) o ≡ Some h → (y : Taken) × (o ≡ Some y) × (y.head ≡ h)
headed_by None h e = absurd (none-some h e)
headed_by (Some y) h e = (y, refl, same_Some _ _ e)

one_year : (n : ℕ) (t : Tables) (line : ℕ) (xs : List ℤ) → 0 < n → read_years in_tables n t line xs ≡ or_refused (year_at in_tables t xs) line (λ y. read_years in_tables (n - 1) (with_series t y.head y.prices) (line + 1) y.rest)
one_year zero t line xs h = absurd (omega arith)
one_year (suc n) t line xs h = simp sub-one

none_headed : (o : Option Taken) → option_map (λ (y : Taken). y.head) o ≡ None → o ≡ None
none_headed None e = refl
none_headed (Some y) e = absurd (none-some y.head (sym e))

-- an entry that is refused
pub year_refused : (start end line : ℕ) (t : Tables) (xs : List ℤ) (all : Result (Left Tables) ℕ) →
    0 < end - start → line ≡ start → option_map (λ (y : Taken). y.head) (year_at in_tables t xs) ≡ None → read_years in_tables (end - start) t start xs ≡ all → Err line ≡ all
year_refused start end line t xs all some l o held =
    ap (λ (j : ℕ). Err j) l
    ∙ sym (one_year (end - start) t start xs some ∙ ap (λ (o : Option Taken). or_refused o start (λ y. read_years in_tables (end - start - 1) (with_series t y.head y.prices) (start + 1) y.rest)) (none_headed (year_at in_tables t xs) o))
    ∙ held

-- one that is taken in
pub year_read : (start end : ℕ) (t : Tables) (xs : List ℤ) (h : Head) (start' end' : ℕ) (u : Tables) (all : Result (Left Tables) ℕ) →
    0 < end - start → end' ≡ end → start' ≡ start + 1 → option_map (λ (y : Taken). y.head) (year_at in_tables t xs) ≡ Some h → u ≡ with_series t h [] → read_years in_tables (end - start) t start xs ≡ all →
    read_years in_tables (end' - start') u start' (take (length xs - (6 + h.hours)) (drop (6 + h.hours) xs)) ≡ all
year_read start end t xs h start' end' u all some p q o w held =
    let n : end' - start' ≡ end - start - 1 = omega (arith, p, q) in
    let a = headed_by (year_at in_tables t xs) h o in
    ap (λ (k : ℕ). read_years in_tables k u start' (take (length xs - (6 + h.hours)) (drop (6 + h.hours) xs))) n
    ∙ ap (λ (u : Tables). read_years in_tables (end - start - 1) u start' (take (length xs - (6 + h.hours)) (drop (6 + h.hours) xs))) w
    ∙ ap (λ (j : ℕ). read_years in_tables (end - start - 1) (with_series t h []) j (take (length xs - (6 + h.hours)) (drop (6 + h.hours) xs))) q
    ∙ ap (read_years in_tables (end - start - 1) (with_series t h []) (start + 1)) (from (6 + h.hours) xs)
    ∙ ap (λ (h : Head). read_years in_tables (end - start - 1) (with_series t h []) (start + 1) (drop (6 + h.hours) xs)) (sym a.2)
    ∙ ap (read_years in_tables (end - start - 1) (with_series t a.0.head []) (start + 1)) (sym (year_rest t xs a.0 a.1))
    ∙ sym (one_year (end - start) t start xs some ∙ ap (λ (o : Option Taken). or_refused o start (λ y. read_years in_tables (end - start - 1) (with_series t y.head y.prices) (start + 1) y.rest)) a.1)
    ∙ held

-- how the check comes out of a reading that answers its tables; the code's own fills tables that are lent, as below
pub checked_err : (r : Result Tables ℕ) (e : Unlawful) → Err e ≡ refused_at r → Err e ≡ checked r
checked_err (Ok t) e h = clash t e (sym h)
checked_err (Err line) e h = cc

pub checked_ok : (r : Result Tables ℕ) (t : Tables) → Ok t ≡ refused_at r → Ok tt ≡ checked r
checked_ok (Ok u) t h = refl
checked_ok (Err line) t h = clash t (record { line = line }) h

-- and of one that is lent them
pub checked_by : (x : Result Unit Unlawful) (t : Tables) (r : Result Tables ℕ) → came_out x t ≡ r → x ≡ checked r
checked_by (Ok u) t r e = ap checked e
checked_by (Err bad) t r e = ap checked e
