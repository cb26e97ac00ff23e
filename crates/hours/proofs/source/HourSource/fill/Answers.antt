use Rattle.std.proofs.Common.{◌≡◌, ℕ, ◌<◌, List, ◌++◌, length, get_or, drop, ℤ, pos, Ok, Result, sym, ap, ◌∙◌, arith, rules, slice_set, w32, to_z, of_z}
use Rattle.std.proofs.lemmas.List.{take_all}
use Rattle.std.proofs.lemmas.Int.{ints}
use Rattle.hours.specs.declared.fault.Fault.{Fault}
use Rattle.hours.specs.declared.series.Series.{Series}
use Rattle.hours.specs.Questions.{counted, year_of, written}
use Rattle.hours.specs.Bounds.{Within}
use Rattle.hours.specs.Years.{asked, year_facts, hour_there, hour_at, no_fault, one_more}
use Rattle.hours.proofs.source.HourSource.fill.Given as given
use Rattle.hours.proofs.source.HourSource.fill.Goals as goal
use Rattle.hours.proofs.source.HourSource.fill.Goals.{in-Ok, in_default}

-- the prices that are asked for
abbrev year : (g : given.Over) → g.row.Self.Denot → Series → Result (List ℤ) Fault
year g self s = year_of g.Self.HourSource.LOCATIONS (g.Self.HourSource.prices self) s.location s.slot s.year

facts : (g : given.Over) (self : g.row.Self.Denot) (s : Series) (zs : List ℤ) → year g self s ≡ Ok zs →
    (length zs ≡ g.Self.HourSource.hours self s.slot s.year) × (0 < g.Self.HourSource.hours self s.slot s.year) × (counted (g.Self.HourSource.hours self) s.slot s.year ≡ Ok (g.Self.HourSource.hours self s.slot s.year))
facts g self s zs e =
    year_facts g.Self.HourSource.LOCATIONS (g.Self.HourSource.hours self) (g.Self.HourSource.prices self) (g.met.Self.HourSource.whole_year self) (g.met.Self.HourSource.empty_year self) s.location s.slot s.year zs e

-- one of them
priced_small : (g : given.Over) (self : g.row.Self.Denot) (s : Series) (zs : List ℤ) (h : ℕ) → year g self s ≡ Ok zs → Within 200000 (get_or zs h (pos 0))
priced_small g self s zs h e = g.met.Self.HourSource.small_prices self s.location s.slot s.year zs h (asked g.Self.HourSource.LOCATIONS (g.Self.HourSource.prices self) s.location s.slot s.year zs e).there

pub loop-hour-preserved : goal.loop-hour-preserved
loop-hour-preserved g c zs there =
    let s : Series = c.args.series in
    let y : Result (List ℤ) Fault = year g c.args.self.now s in
    let f = facts g c.args.self.now s zs there in
    let d = f.0 in
    let m = g.met.Self.HourSource.few_hours c.args.self.now s.slot s.year in
    elim c.match-mcc.branch [
      | in-Ok w ↦
          let h = hour_at y zs s.location s.year c.loop-hour.hour w.in-Ok.price there w.in-Ok.ensures in
          let small = priced_small g c.args.self.now s zs c.loop-hour.hour there in
          let low = small.0 in
          let high = small.1 in
          let value = h.1 in
          let room : length c.args.buffer.now ≡ 9000 = search rules in
          let below = h.0 in
          let place = w.from.ensures in
          w.buffer-is ∙ ap (λ (k : ℕ). slice_set c.loop-hour.buffer k (to_z w32 (of_z w32 w.in-Ok.price))) {y = c.loop-hour.hour} (omega arith)
          ∙ one_more zs c.args.buffer.now c.loop-hour.buffer c.loop-hour.hour (to_z w32 (of_z w32 w.in-Ok.price)) h.0 (omega arith) (c.loop-hour.invariant zs there) (omega (arith, ints))
      | in_default w ↦ no_fault y zs s.location s.year c.loop-hour.hour _ there (let q = c.in_ok-n.ensures in let r = f.2 in let n : c.in_ok-n.n ≡ length zs = cc in omega arith) w.in_default.ensures
    ]

pub returns-clause-after : goal.returns-clause-after
returns-clause-after g c =
    let s : Series = c.args.series in
    let y : Result (List ℤ) Fault = year g c.args.self.now s in
    let h = hour_there y s.location s.year 0 c.in_ok-mcc.field-0 c.in_ok-mcc.ensures in
    let f = facts g c.args.self.now s h.0 h.1 in
    let q = c.in_ok-n.ensures in
    let r = f.2 in
    let n : c.in_ok-n.n ≡ g.Self.HourSource.hours c.args.self.now s.slot s.year = cc in
    let i = c.loop-hour.invariant h.0 h.1 in
    let long = f.0 in
    let last = c.loop-hour-test.false in
    i ∙ ap (λ (t : List ℤ). t ++ drop c.loop-hour.hour c.args.buffer.now) (take_all c.loop-hour.hour h.0 (omega arith))
    ∙ ap (λ (k : ℕ). h.0 ++ drop k c.args.buffer.now) {y = length h.0} (omega arith) ∙ sym (ap (λ (r : Result (List ℤ) Fault). written r c.args.buffer.now) h.1)
