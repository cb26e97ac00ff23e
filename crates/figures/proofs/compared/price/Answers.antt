use Rattle.std.proofs.Common.{◌≡◌, List, ℤ, Ok, sym, ap, ◌∙◌, arith, w64, to_z, of_z}
use Rattle.std.proofs.lemmas.Int.{ints}
use Rattle.books.specs.Histories.{history_price}
use Rattle.hours.specs.RecordedFormat.{recorded_hours, recorded_prices}
use Rattle.figures.proofs.compared.price.Goals as goal

pub returns : goal.returns
returns c =
    let same : c.args.numbers.now ≡ c.new.result = sym (c.new.ensures ∙ c.in_ok-to_vec.ensures.items_if_clones_equal (λ x y e. e)) in
    let price : to_z w64 (of_z w64 c.in-Ok.price) ≡ c.in-Ok.price = omega (arith, ints) in
    ap (λ (ns : List ℤ). history_price (recorded_hours ns) 64 (recorded_prices ns) c.args.key) same ∙ sym c.price.ensures ∙ c.in-Ok.is ∙ ap Ok (sym price)
