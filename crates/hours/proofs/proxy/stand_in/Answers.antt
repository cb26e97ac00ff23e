use Rattle.std.proofs.Common.{◌≡◌, ℕ, ◌<◌, true, cond, ltb, List, length, ℤ, Some, None, Ok, Err, Option, sym, ap, ◌∙◌, arith, w32, to_z, of_z}
use Rattle.std.proofs.lemmas.Int.{ints}
use Rattle.std.proofs.lemmas.Bool.Decides.{nat_tests}
use Rattle.hours.specs.declared.period.Slot.{Slot}
use Rattle.hours.specs.Periods.{lawful_slot, past_year}
use Rattle.hours.specs.Questions.{counted, priced}
use Rattle.hours.specs.StandIns.{mean_down, sum_at, having, sum_of, number_of}
use Rattle.hours.specs.MeanPrices.{answers_are, stand_in_none, stand_in_past, stand_in_below}
use Rattle.hours.specs.Years.{counted_past, some_hours_lem}
use Rattle.hours.proofs.proxy.stand_in.Given as given
use Rattle.hours.proofs.proxy.stand_in.Goals as goal

-- an hour that stands in for another lies in every year that is there
inside : (hour count asked : ℕ) → asked ≡ cond (ltb hour count) hour 0 → (o : Option (List ℤ)) → ((zs : List ℤ) → o ≡ Some zs → length zs ≡ count) → (count ≡ 0 → o ≡ None) → (zs : List ℤ) → o ≡ Some zs → asked < length zs
inside hour count asked e o whole empty zs there =
    let f = some_hours_lem count o zs (whole zs) empty there in
    let long = f.0 in
    let some = f.1 in
    let q : asked < count = grind (arith, nat_tests) in
    omega arith

-- the prices of each location in the year that is asked for
abbrev years : (g : given.Over) → g.row.S.Denot → Slot → ℕ → ℕ → Option (List ℤ)
years g below s y l = g.S.HourSource.prices below l s y

answers : (g : given.Over) (below : g.row.S.Denot) (s : Slot) (y hour asked : ℕ) → lawful_slot s ≡ true → past_year y ≡ true → asked ≡ cond (ltb hour (g.S.HourSource.hours below s y)) hour 0 →
    (sum_of (λ l. priced g.S.HourSource.LOCATIONS (g.S.HourSource.prices below) l s y asked) g.S.HourSource.LOCATIONS ≡ sum_at (years g below s y) asked g.S.HourSource.LOCATIONS)
    × (number_of (λ l. priced g.S.HourSource.LOCATIONS (g.S.HourSource.prices below) l s y asked) g.S.HourSource.LOCATIONS ≡ having (years g below s y) g.S.HourSource.LOCATIONS)
answers g below s y hour asked lawful past e =
    answers_are g.S.HourSource.LOCATIONS (g.S.HourSource.prices below) s y asked (sym lawful) (sym past)
    (λ l zs there. inside hour (g.S.HourSource.hours below s y) asked e (g.S.HourSource.prices below l s y) (g.met.S.HourSource.whole_year below l s y) (g.met.S.HourSource.empty_year below l s y) zs there)
    g.S.HourSource.LOCATIONS (omega arith)

-- what the steps of the function found, in terms of the years below
pub record Found (g : given.Over) (below : g.row.S.Denot) (s : Slot) (y hour asked count : ℕ) (sum : ℤ) (number : ℕ) : Type 0 where
  pub count_is : count ≡ g.S.HourSource.hours below s y
  pub sum_is : sum ≡ sum_at (years g below s y) asked g.S.HourSource.LOCATIONS
  pub number_is : number ≡ having (years g below s y) g.S.HourSource.LOCATIONS

found : (g : given.Over) (below : g.row.S.Denot) (s : Slot) (y hour asked count : ℕ) (sum : ℤ) (number : ℕ) → lawful_slot s ≡ true → past_year y ≡ true →
    Ok count ≡ counted (g.S.HourSource.hours below) s y → asked ≡ cond (ltb hour count) hour 0 →
    sum ≡ sum_of (λ l. priced g.S.HourSource.LOCATIONS (g.S.HourSource.prices below) l s y asked) g.S.HourSource.LOCATIONS →
    number ≡ number_of (λ l. priced g.S.HourSource.LOCATIONS (g.S.HourSource.prices below) l s y asked) g.S.HourSource.LOCATIONS →
    Found g below s y hour asked count sum number
found g below s y hour asked count sum number lawful past counts e total many =
    let c : count ≡ g.S.HourSource.hours below s y = let q = counted_past (g.S.HourSource.hours below) s y lawful past in cc in
    let a = answers g below s y hour asked lawful past (e ∙ ap (λ (n : ℕ). cond (ltb hour n) hour 0) c) in
    record { count_is = c; sum_is = total ∙ a.0; number_is = many ∙ a.1 }

pub returns-then-prices-eq0 : goal.returns-then-prices-eq0
returns-then-prices-eq0 g c =
    let below = c.args.below.now in
    let f = found g below c.args.series.slot c.args.series.year c.args.hour c.hour_or_first.result c.in_ok-count.count c.prices_at-prices.result.sum c.prices_at-prices.result.number
    c.requires.lawful c.requires.past c.in_ok-count.ensures c.hour_or_first.ensures c.prices_at-prices.ensures.sum c.prices_at-prices.ensures.number in
    ap Err c.lacking_year.ensures
    ∙ sym (stand_in_none (years g below c.args.series.slot c.args.series.year) g.S.HourSource.LOCATIONS (g.S.HourSource.hours below c.args.series.slot c.args.series.year) c.args.series.location c.args.series.year c.args.hour (sym f.number_is ∙ c.if-prices-eq0.true))

pub returns-then-hour-count : goal.returns-then-hour-count
returns-then-hour-count g c =
    let below = c.args.below.now in
    let f = found g below c.args.series.slot c.args.series.year c.args.hour c.hour_or_first.result c.in_ok-count.count c.prices_at-prices.result.sum c.prices_at-prices.result.number
    c.requires.lawful c.requires.past c.in_ok-count.ensures c.hour_or_first.ensures c.prices_at-prices.ensures.sum c.prices_at-prices.ensures.number in
    let number = f.number_is in
    let count = f.count_is in
    let some = c.if-prices-eq0.false in
    let over = c.if-hour-count.true in
    ap Err c.past_count.ensures
    ∙ sym (stand_in_past (years g below c.args.series.slot c.args.series.year) g.S.HourSource.LOCATIONS (g.S.HourSource.hours below c.args.series.slot c.args.series.year) c.args.series.location c.args.series.year c.args.hour (omega arith) (omega arith))

pub returns : goal.returns
returns g c =
    let below = c.args.below.now in
    let f = found g below c.args.series.slot c.args.series.year c.args.hour c.hour_or_first.result c.in_ok-count.count c.prices_at-prices.result.sum c.prices_at-prices.result.number
    c.requires.lawful c.requires.past c.in_ok-count.ensures c.hour_or_first.ensures c.prices_at-prices.ensures.sum c.prices_at-prices.ensures.number in
    let number = f.number_is in
    let count = f.count_is in
    let some = c.if-prices-eq0.false in
    let under = c.if-hour-count.false in
    let same : c.hour_or_first.result ≡ c.args.hour = let q = c.hour_or_first.ensures in grind (arith, nat_tests) in
    let low = c.prices_at-prices.result.small.0 in
    let high = c.prices_at-prices.result.small.1 in
    let few = c.prices_at-prices.result.few in
    let y : ℕ → Option (List ℤ) = years g below c.args.series.slot c.args.series.year in
    let fits = c.mean.type_inv in
    let back : to_z w32 (of_z w32 c.mean.result) ≡ c.mean.result = omega (arith, ints) in
    ap Ok (back ∙ c.mean.ensures
    ∙ ap (λ (z : ℤ). mean_down z c.prices_at-prices.result.number) (f.sum_is ∙ ap (λ (h : ℕ). sum_at y h g.S.HourSource.LOCATIONS) same)
    ∙ ap (mean_down (sum_at y c.args.hour g.S.HourSource.LOCATIONS)) number)
    ∙ sym (stand_in_below (years g below c.args.series.slot c.args.series.year) g.S.HourSource.LOCATIONS (g.S.HourSource.hours below c.args.series.slot c.args.series.year) c.args.series.location c.args.series.year c.args.hour (omega arith) (omega arith))
