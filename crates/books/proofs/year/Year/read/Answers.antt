use Rattle.std.proofs.Common.{◌≡◌, ◌≤◌, ℕ, List, ℤ, Ok, Result, take, sym, subst, arith}
use Rattle.hours.specs.Questions.{how_many, written, year_of}
use Rattle.hours.specs.declared.fault.Fault.{Fault}
use Rattle.hours.specs.declared.period.Slot.{Slot}
use Rattle.books.specs.Hourly.{small_wider}
use Rattle.books.specs.PathYears.{There, filled_ok, front_of, there}
use Rattle.books.proofs.year.Year.read.Given as given
use Rattle.books.proofs.year.Year.read.Goals as goal

-- what is known of a year that was filled in
filled : (g : given.Over) (source : g.row.S.Denot) (l : ℕ) (s : Slot) (y n : ℕ) (buffer out : List ℤ) → ◌≡◌ {A = Result ℕ Fault} (Ok n) (how_many (year_of g.S.HourSource.LOCATIONS (g.S.HourSource.prices source) l s y)) →
    out ≡ written (year_of g.S.HourSource.LOCATIONS (g.S.HourSource.prices source) l s y) buffer → (n ≤ 9000) × There (g.S.HourSource.hours source s y) (take n out)
filled g source l s y n buffer out answer after =
    let m = g.met.S.HourSource in
    let hours = g.S.HourSource.hours source in
    let prices = g.S.HourSource.prices source in
    let year = year_of g.S.HourSource.LOCATIONS prices l s y in
    let f = filled_ok year n answer in
    let known = there hours g.S.HourSource.LOCATIONS prices (record { few = m.few_hours source; whole = m.whole_year source; empty = m.empty_year source; small = m.small_prices source }) l s y f.0 f.1 in
    let long = f.2 in
    (omega arith, subst (There (hours s y)) (sym (front_of year f.0 buffer out n f.1 after f.2)) known)

pub invariant_of-self-2 : goal.invariant_of-self-2
invariant_of-self-2 g c =
    let known = filled g c.args.source.now c.args.series.location c.args.series.slot c.args.series.year _ c.self.inside.numbers c.fill.new.buffer c.in_ok-self-inside.ensures.answer c.in_ok-self-inside.ensures.after in
    (known.0, small_wider 200000 400000 _ (omega arith) known.1.small)

pub returns-clause-known : goal.returns-clause-known
returns-clause-known g c =
    (filled g c.args.source.now c.args.series.location c.args.series.slot c.args.series.year _ c.self.inside.numbers c.fill.new.buffer c.in_ok-self-inside.ensures.answer c.in_ok-self-inside.ensures.after).1
