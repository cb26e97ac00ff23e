use Rattle.std.proofs.Common.{ℕ, ℤ, Ok, Err, Result, arith}
use Rattle.std.proofs.lemmas.Int.{ints}
use Rattle.hours.specs.declared.fault.Fault.{Fault}
use Rattle.hours.specs.Questions.{priced}
use Rattle.hours.specs.MeanPrices.{sum_more, number_more}
use Rattle.hours.specs.Years.{priced_small}
use Rattle.hours.proofs.proxy.prices_at.Goals as goal
use Rattle.hours.proofs.proxy.prices_at.Goals.{in-Ok, in_default}

pub loop-location-preserved : goal.loop-location-preserved
loop-location-preserved g c =
    let answers : ℕ → Result ℤ Fault = λ k. priced g.S.HourSource.LOCATIONS (g.S.HourSource.prices c.args.below.now) k c.args.slot c.args.year c.args.hour in
    elim c.match-mcc.branch [
      | in-Ok w ↦
          let s = sum_more answers c.loop-location.location (Ok w.in-Ok.price) w.in-Ok.ensures in
          let n = number_more answers c.loop-location.location (Ok w.in-Ok.price) w.in-Ok.ensures in
          let b = priced_small g.S.HourSource.LOCATIONS (g.S.HourSource.prices c.args.below.now) (g.met.S.HourSource.small_prices c.args.below.now) c.loop-location.location c.args.slot c.args.year c.args.hour w.in-Ok.price w.in-Ok.ensures in
          let low = b.0 in
          let high = b.1 in
          (omega (arith, ints), omega (arith, ints), (omega (arith, ints), omega (arith, ints)), omega (arith, ints))
      | in_default w ↦
          let s = sum_more answers c.loop-location.location (Err w.in_default.field-0) w.in_default.ensures in
          let n = number_more answers c.loop-location.location (Err w.in_default.field-0) w.in_default.ensures in
          (omega (arith, ints), omega (arith, ints), (omega (arith, ints), omega (arith, ints)), omega (arith, ints))
    ]
