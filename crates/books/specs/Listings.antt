-- What is known of rows that are not refused.
use Rattle.std.specs.Prelude.{◌≡◌, ℕ, ◌+◌, Bool, true, false, cond, not, ◌||◌, List, [], ◌∷◌, ◌++◌, length, ℤ, is_some, IfOk, Some, Err, nat_le, refl}
use Rattle.std.proofs.Common.{arith}
use Rattle.std.proofs.lemmas.Int.{ints}
use Rattle.std.specs.List.{AllByRecursion, find}
use Rattle.std.proofs.lemmas.Bool.{and_parts}
use Rattle.hours.specs.Bounds.{Within, within}
use Rattle.hours.specs.Listings.{first_at_fault}
use Rattle.books.specs.BookFaults.{unlawful_key}
use Rattle.books.specs.Keys.{lawful_key}
use Rattle.books.specs.Postings.{listed, price_in, posted, lawful_row, row_at_fault, posting_refusal}
use Rattle.books.specs.declared.key.Key.{Key}
use Rattle.books.specs.declared.row.Row.{Row}

-- a test that is passed
pub within_true : (b : ℕ) (z : ℤ) → within b z ≡ true → Within b z
within_true b z h = (grind (arith, ints), grind (arith, ints))

never : {A : Type 0} → true ≡ false → A
never h = let z : ◌≡◌ {A = ℕ} 0 1 = cc in absurd (omega arith)

-- where no row is at fault, every row is lawful
all_lawful : (before rows : List Row) → is_some (first_at_fault row_at_fault before rows) ≡ false → AllByRecursion (λ r. lawful_row r ≡ true) rows
all_lawful before [] h = tt
all_lawful before (r ∷ rows) h = by (lawful_row r) (is_some (listed before r.key)) h (λ k. all_lawful (before ++ (r ∷ [])) rows k)
  where
    by : (a b : Bool) → is_some (cond (not a || b) (Some (length before + 1)) (first_at_fault row_at_fault (before ++ (r ∷ [])) rows)) ≡ false → (is_some (first_at_fault row_at_fault (before ++ (r ∷ [])) rows) ≡ false → AllByRecursion (λ r. lawful_row r ≡ true) rows) → (a ≡ true) × AllByRecursion (λ r. lawful_row r ≡ true) rows
    by true false k more = (refl, more k)
    by true true k more = never k
    by false b k more = never k

-- what holds of every row's price holds of the price that is found
found : (P : ℤ → Type 0) (p : Row → Bool) (rows : List Row) → AllByRecursion (λ r. lawful_row r ≡ true) rows → ((r : Row) → lawful_row r ≡ true → P r.price) → IfOk (price_in (find p rows)) P
found P p [] h each = tt
found P p (r ∷ rows) h each = by (p r) (found P p rows h.1 each)
  where
    by : (b : Bool) → IfOk (price_in (find p rows)) P → IfOk (price_in (cond b (Some r) (find p rows))) P
    by true rest = each r h.0
    by false rest = rest

-- prices of rows that are not refused are within bounds
pub posted_bounded : (rows : List Row) (k : Key) → is_some (posting_refusal rows) ≡ false → IfOk (posted rows k) (Within 8000000000)
posted_bounded rows k h = by (nat_le (length rows) 128) (lawful_key k) h
  where
    by : (a b : Bool) → is_some (cond a (first_at_fault row_at_fault [] rows) (Some 0)) ≡ false → IfOk (cond b (price_in (listed rows k)) (Err unlawful_key)) (Within 8000000000)
    by a false q = tt
    by false true q = never q
    by true true q = found (Within 8000000000) _ rows (all_lawful [] rows q) (λ r l. within_true 8000000000 r.price (and_parts (lawful_key r.key) (within 8000000000 r.price) l).1)
