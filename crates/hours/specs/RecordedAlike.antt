-- The reader ends alike with tables and with lists: at the same line, or with what says the same.
use Rattle.std.specs.Prelude.{◌≡◌, ℕ, zero, suc, ◌+◌, ◌<◌, Bool, true, false, cond, List, [], ◌∷◌, ◌++◌, length, take, drop, ℤ, pos, is_some, Some, None, Ok, Err, Option, Result, int_le, nat_le, nat_lt, unsigned_abs, refl}
use Rattle.std.proofs.Common.{sym, ap, ◌∙◌, subst, arith}
use Rattle.std.proofs.lemmas.List.{drop_at, drop-drop}
use Rattle.std.proofs.lemmas.Bool.{lt-ltb, le-ltb}
use Rattle.std.proofs.lemmas.Bool.Decides.{nat_tests}
use Rattle.std.proofs.lemmas.Option.{none-some, cond_some}
use Rattle.hours.specs.declared.counts.Counts.{Counts}
use Rattle.hours.specs.declared.rows.CountRow.{CountRow}
use Rattle.hours.specs.declared.recorded.entry.Head.{Head}
use Rattle.hours.specs.declared.recorded.tables.Tables.{Tables}
use Rattle.hours.specs.RecordedEntries.{and_then, entry_from, head_from, fitting, hours_by, lawful_price, LawfulSeries}
use Rattle.hours.specs.RecordedFormat.{and_then_ok, or_refused, Prices, Taken, Records, lists, no_records, counts_among, prices_among, unlisted, entry_at, read_entries, read_prices, head_at, prices_after, year_at, read_years, nothing_more, second_section, onward, both_sections, records, checked, or_instead, records_of}
use Rattle.hours.specs.RecordedTables.{tabled_counts, has_start, with_entry, with_series, in_tables, empty_tables, tables_read, tables_of}
use Rattle.hours.specs.RecordedLawful.{through, entry_lawful, entry_few, head_lawful}
use Rattle.hours.specs.RecordedTablesLemmas.{Stands, Near, Same, same_none, same_entry, same_year}

-- an entry of the first section is the same to both

same_entry_at : (all : List ℤ) (t : Tables) (r : Records) (xs : List ℤ) → Same all t r → entry_at in_tables t xs ≡ entry_at lists r xs
same_entry_at all t r xs same = go (entry_from (take 6 xs)) (λ e h. same.looks e.slot (entry_lawful (take 6 xs) e h))
  where
    go : (o : Option (CountRow ℕ)) → ((e : CountRow ℕ) → o ≡ Some e → tabled_counts t e.slot ≡ counts_among r.listed e.slot) →
        cond (nat_le 6 (length xs)) (and_then o (λ e. unlisted (tabled_counts t e.slot) (Some e))) None ≡ cond (nat_le 6 (length xs)) (and_then o (λ e. unlisted (counts_among r.listed e.slot) (Some e))) None
    go None h = refl
    go (Some e) h = ap (λ (l : Option (Counts ℕ)). cond (nat_le 6 (length xs)) (unlisted l (Some e)) None) (h e refl)

entry_found : (r : Records) (xs : List ℤ) (e : CountRow ℕ) → entry_at lists r xs ≡ Some e → entry_from (take 6 xs) ≡ Some e
entry_found r xs e h = at_test (nat_le 6 (length xs)) h
  where
    old : (o : Option (Counts ℕ)) (d : CountRow ℕ) → unlisted o (Some d) ≡ Some e → d ≡ e
    old None d p = cc
    old (Some x) d p = absurd (none-some e p)

    at_test : (b : Bool) → cond b (and_then (entry_from (take 6 xs)) (λ d. unlisted (counts_among r.listed d.slot) (Some d))) None ≡ Some e → entry_from (take 6 xs) ≡ Some e
    at_test true p =
        let q = through (entry_from (take 6 xs)) _ e p in
        q.1 ∙ ap Some (old (counts_among r.listed q.0.slot) q.0 q.2)
    at_test false p = absurd (none-some e p)

-- an entry of the second section is the same to both

same_there : (all : List ℤ) (s n : ℕ) (o : Option (List ℤ)) → Stands all s n o → nat_lt 0 s ≡ is_some o
unfolding Stands
same_there all s n None h = le-ltb 0 s (omega arith)
same_there all s n (Some vs) h = lt-ltb 0 s h.0

same_year_at : (all : List ℤ) (t : Tables) (r : Records) (xs : List ℤ) → Same all t r → year_at in_tables t xs ≡ year_at lists r xs
same_year_at all t r xs same =
    ap (λ (o : Option Head). prices_after o (drop 6 xs))
    (go (head_from (take 6 xs)) (λ h e.
    let s = head_lawful (take 6 xs) h e in
    (same.looks h.series.slot s.0.0, same_there all _ _ (prices_among r.years h.series) (same.stands h.series s.0))))
  where
    go : (o : Option Head) → ((h : Head) → o ≡ Some h → (tabled_counts t h.series.slot ≡ counts_among r.listed h.series.slot) × (has_start t h.series ≡ is_some (prices_among r.years h.series))) →
        cond (nat_le 6 (length xs)) (and_then o (λ h. cond (fitting (tabled_counts t h.series.slot) (has_start t h.series) h) (Some h) None)) None ≡ cond (nat_le 6 (length xs)) (and_then o (λ h. cond (fitting (counts_among r.listed h.series.slot) (is_some (prices_among r.years h.series)) h) (Some h) None)) None
    go None f = refl
    go (Some h) f =
        ap (λ (l : Option (Counts ℕ)). cond (nat_le 6 (length xs)) (cond (fitting l (has_start t h.series) h) (Some h) None) None) (f h refl).0
        ∙ ap (λ (b : Bool). cond (nat_le 6 (length xs)) (cond (fitting (counts_among r.listed h.series.slot) b h) (Some h) None) None) (f h refl).1

-- what the prices at the front are

pub record PriceFacts (k : ℕ) (xs : List ℤ) (p : Prices) : Type 0 where
  pub split : xs ≡ p.these ++ p.rest
  pub long : length p.these ≡ k
  pub near : Near p.these

price_facts : (k : ℕ) (xs : List ℤ) (p : Prices) → read_prices k xs ≡ Some p → PriceFacts k xs p
price_facts zero xs p e =
    let q : ◌≡◌ {A = Prices} (record { these = []; rest = xs }) p = cc in
    subst (PriceFacts 0 xs) q (record { split = refl; long = refl; near = λ n. refl })
price_facts (suc k) [] p e = absurd (none-some p e)
price_facts (suc k) (x ∷ xs) p e = at_test (lawful_price x) refl (price_facts k xs) e
  where
    more : (ys : List ℤ) → lawful_price x ≡ true → Near ys → Near (x ∷ ys)
    more ys h f zero = h
    more ys h f (suc n) = f n

    at_test : (b : Bool) → lawful_price x ≡ b → ((p : Prices) → read_prices k xs ≡ Some p → PriceFacts k xs p) →
        cond b (and_then (read_prices k xs) (λ p. Some (record { these = x ∷ p.these; rest = p.rest }))) None ≡ Some p → PriceFacts (suc k) (x ∷ xs) p
    at_test false i again h = absurd (none-some p h)
    at_test true i again h =
        let a = through (read_prices k xs) _ p h in
        let w = a.2 in
        let q : ◌≡◌ {A = Prices} (record { these = x ∷ a.0.these; rest = a.0.rest }) p = cc in
        let f = again a.0 a.1 in
        subst (PriceFacts (suc k) (x ∷ xs)) q (record { split = ap (λ (ys : List ℤ). x ∷ ys) f.split; long = ap suc f.long; near = more a.0.these i f.near })

-- what an entry of the second section is

Fits : Records → Head → Type 0
Fits r h = LawfulSeries h.series × (h.hours ≡ hours_by (counts_among r.listed h.series.slot) h.series.year) × (0 < h.hours)

head_facts : (r : Records) (xs : List ℤ) (h : Head) → head_at lists r xs ≡ Some h → Fits r h
unfolding Fits
head_facts r xs h e = at_test (nat_le 6 (length xs)) e
  where
    fits : (o : Option (Counts ℕ)) (b : Bool) (d : Head) → fitting o b d ≡ true → (d.hours ≡ hours_by o d.series.year) × (0 < d.hours)
    fits o b d q = (grind (arith, nat_tests), grind (arith, nat_tests))

    at_test : (b : Bool) → cond b (and_then (head_from (take 6 xs)) (λ h. cond (fitting (counts_among r.listed h.series.slot) (is_some (prices_among r.years h.series)) h) (Some h) None)) None ≡ Some h → LawfulSeries h.series × (h.hours ≡ hours_by (counts_among r.listed h.series.slot) h.series.year) × (0 < h.hours)
    at_test false p = absurd (none-some h p)
    at_test true p =
        let a = through (head_from (take 6 xs)) _ h p in
        let w = cond_some (fitting (counts_among r.listed a.0.series.slot) (is_some (prices_among r.years a.0.series)) a.0) a.0 h a.2 in
        let f = fits (counts_among r.listed a.0.series.slot) (is_some (prices_among r.years a.0.series)) a.0 w.0 in
        subst (λ (h : Head). LawfulSeries h.series × (h.hours ≡ hours_by (counts_among r.listed h.series.slot) h.series.year) × (0 < h.hours)) w.1 ((head_lawful (take 6 xs) a.0 a.1).0, f.0, f.1)

pub record YearFacts (r : Records) (xs : List ℤ) (y : Taken) : Type 0 where
  pub lawful : LawfulSeries y.head.series
  pub split : drop 6 xs ≡ y.prices ++ y.rest
  pub long : length y.prices ≡ y.head.hours
  pub near : Near y.prices
  pub count : y.head.hours ≡ hours_by (counts_among r.listed y.head.series.slot) y.head.series.year
  pub some : 0 < length y.prices

year_facts : (r : Records) (xs : List ℤ) (y : Taken) → year_at lists r xs ≡ Some y → YearFacts r xs y
unfolding Fits
year_facts r xs y e =
    let a = through (head_at lists r xs) _ y e in
    let b = through (read_prices a.0.hours (drop 6 xs)) _ y a.2 in
    let w = b.2 in
    let q : ◌≡◌ {A = Taken} (record { head = a.0; prices = b.0.these; rest = b.0.rest }) y = cc in
    let h = head_facts r xs a.0 a.1 in
    let p = price_facts a.0.hours (drop 6 xs) b.0 b.1 in
    subst (YearFacts r xs) q (record { lawful = h.0; split = p.split; long = p.long; near = p.near; count = h.1; some = subst (λ (n : ℕ). 0 < n) (sym p.long) h.2 })

-- both readings end alike

pub Alike : List ℤ → Result Tables ℕ → Result Records ℕ → Type 0
Alike all (Ok t) (Ok r) = Same all t r
Alike all (Ok t) (Err m) = ⊥
Alike all (Err l) (Ok r) = ⊥
Alike all (Err l) (Err m) = l ≡ m

-- the entries of the second section, the next of them where the tables say
years_alike : (all : List ℤ) (n : ℕ) (t : Tables) (r : Records) (line : ℕ) (xs : List ℤ) → Same all t r → drop t.next all ≡ xs → Alike all (and_then_ok (read_years in_tables n t line xs) nothing_more) (and_then_ok (read_years lists n r line xs) nothing_more)
unfolding Alike
years_alike all zero t r line [] same d = same
years_alike all zero t r line (x ∷ xs) same d = refl
years_alike all (suc n) t r line xs same d =
    subst (λ (o : Option Taken). Alike all (and_then_ok (or_refused o line (λ y. read_years in_tables n (with_series t y.head y.prices) (line + 1) y.rest)) nothing_more) (and_then_ok (or_refused (year_at lists r xs) line (λ y. read_years lists n (lists.put r y.head y.prices) (line + 1) y.rest)) nothing_more)) (sym (same_year_at all t r xs same))
    (go (year_at lists r xs) (λ y h.
    let f = year_facts r xs y h in
    let here : drop (t.next + 6) all ≡ y.prices ++ y.rest = sym (drop-drop 6 t.next all) ∙ ap (drop 6) d ∙ f.split in
    years_alike all n (with_series t y.head y.prices) (lists.put r y.head y.prices) (line + 1) y.rest
    (same_year all t r y.head y.prices y.rest f.lawful here (f.long ∙ f.count) f.some f.near same)
    (sym (drop-drop y.head.hours (t.next + 6) all) ∙ ap (drop y.head.hours) here ∙ drop_at y.prices y.rest y.head.hours f.long)))
  where
    go : (o : Option Taken) → ((y : Taken) → o ≡ Some y → Alike all (and_then_ok (read_years in_tables n (with_series t y.head y.prices) (line + 1) y.rest) nothing_more) (and_then_ok (read_years lists n (lists.put r y.head y.prices) (line + 1) y.rest) nothing_more)) →
        Alike all (and_then_ok (or_refused o line (λ y. read_years in_tables n (with_series t y.head y.prices) (line + 1) y.rest)) nothing_more) (and_then_ok (or_refused o line (λ y. read_years lists n (lists.put r y.head y.prices) (line + 1) y.rest)) nothing_more)
    go None h = refl
    go (Some y) h = h y refl

-- the second section, whose count stands just before the place that the tables say
second_alike : (all : List ℤ) (t : Tables) (r : Records) (line : ℕ) (xs : List ℤ) → Same all t r → drop t.next all ≡ drop 1 xs → Alike all (second_section in_tables t line xs) (second_section lists r line xs)
unfolding Alike
second_alike all t r line [] same d = refl
second_alike all t r line (c ∷ xs) same d = go (int_le (pos 0) c)
  where
    go : (b : Bool) → Alike all (cond b (and_then_ok (read_years in_tables (unsigned_abs c) t line xs) nothing_more) (Err 0)) (cond b (and_then_ok (read_years lists (unsigned_abs c) r line xs) nothing_more) (Err 0))
    go true = years_alike all (unsigned_abs c) t r line xs same d
    go false = refl

entries_alike : (all : List ℤ) (n : ℕ) (t : Tables) (r : Records) (line : ℕ) (xs : List ℤ) → Same all t r → r.years ≡ [] → drop t.next all ≡ drop 1 xs → Alike all (and_then_ok (read_entries in_tables n t line xs) (onward in_tables)) (and_then_ok (read_entries lists n r line xs) (onward lists))
unfolding Alike
entries_alike all zero t r line xs same none d = second_alike all t r line xs same d
entries_alike all (suc n) t r line xs same none d =
    subst (λ (o : Option (CountRow ℕ)). Alike all (and_then_ok (or_refused o line (λ e. read_entries in_tables n (with_entry t e) (line + 1) (drop 6 xs))) (onward in_tables)) (and_then_ok (or_refused (entry_at lists r xs) line (λ e. read_entries lists n (lists.list r e) (line + 1) (drop 6 xs))) (onward lists))) (sym (same_entry_at all t r xs same))
    (go (entry_at lists r xs) (λ e h.
    let w = entry_found r xs e h in
    entries_alike all n (with_entry t e) (lists.list r e) (line + 1) (drop 6 xs) (same_entry all t r e (entry_lawful (take 6 xs) e w) (entry_few (take 6 xs) e w) none same) none
    (sym (drop-drop 6 t.next all) ∙ ap (drop 6) d ∙ drop-drop 6 1 xs ∙ sym (drop-drop 1 6 xs))))
  where
    go : (o : Option (CountRow ℕ)) → ((e : CountRow ℕ) → o ≡ Some e → Alike all (and_then_ok (read_entries in_tables n (with_entry t e) (line + 1) (drop 6 xs)) (onward in_tables)) (and_then_ok (read_entries lists n (lists.list r e) (line + 1) (drop 6 xs)) (onward lists))) →
        Alike all (and_then_ok (or_refused o line (λ e. read_entries in_tables n (with_entry t e) (line + 1) (drop 6 xs))) (onward in_tables)) (and_then_ok (or_refused o line (λ e. read_entries lists n (lists.list r e) (line + 1) (drop 6 xs))) (onward lists))
    go None h = refl
    go (Some e) h = h e refl

sections_alike : (xs : List ℤ) → Alike xs (both_sections in_tables empty_tables xs) (both_sections lists no_records xs)
unfolding Alike
sections_alike [] = refl
sections_alike (c ∷ xs) = go (int_le (pos 0) c)
  where
    go : (b : Bool) → Alike (c ∷ xs) (cond b (and_then_ok (read_entries in_tables (unsigned_abs c) empty_tables 1 xs) (onward in_tables)) (Err 0)) (cond b (and_then_ok (read_entries lists (unsigned_abs c) no_records 1 xs) (onward lists)) (Err 0))
    go true = entries_alike (c ∷ xs) (unsigned_abs c) empty_tables no_records 1 xs (same_none (c ∷ xs)) refl refl
    go false = refl

all_alike : (xs : List ℤ) → Alike xs (tables_read xs) (records xs)
unfolding Alike
all_alike xs = go (nat_le (length xs) 1000000)
  where
    go : (b : Bool) → Alike xs (cond b (both_sections in_tables empty_tables xs) (Err 0)) (cond b (both_sections lists no_records xs) (Err 0))
    go true = sections_alike xs
    go false = refl

-- the check comes out alike
pub checked_alike : (xs : List ℤ) → checked (tables_read xs) ≡ checked (records xs)
unfolding Alike
checked_alike xs = go (tables_read xs) (records xs) (all_alike xs)
  where
    go : (a : Result Tables ℕ) (b : Result Records ℕ) → Alike xs a b → checked a ≡ checked b
    go (Ok t) (Ok r) h = refl
    go (Ok t) (Err m) h = absurd h
    go (Err l) (Ok r) h = absurd h
    go (Err l) (Err m) h = ap (λ (line : ℕ). checked {A = Tables} (Err line)) h

-- what is kept says the same
pub kept_alike : (xs : List ℤ) (t : Tables) → t ≡ tables_of xs → Same xs t (records_of xs)
unfolding Alike
kept_alike xs t e = subst (λ (t : Tables). Same xs t (records_of xs)) (sym e) (go (tables_read xs) (records xs) (all_alike xs))
  where
    go : (a : Result Tables ℕ) (b : Result Records ℕ) → Alike xs a b → Same xs (or_instead empty_tables a) (or_instead no_records b)
    go (Ok t) (Ok r) h = h
    go (Ok t) (Err m) h = absurd h
    go (Err l) (Ok r) h = absurd h
    go (Err l) (Err m) h = same_none xs
