use Rattle.std.proofs.Common.{ℤ, SFits, subst, rules}
use Rattle.std.specs.Int.{w128}
use Rattle.std.proofs.lemmas.Int.{to_z-of_z}
use Rattle.journal.specs.Words.{signed_of}
use Rattle.journal.proofs.Words.{converted}
use Rattle.journal.proofs.word.Word.signed.Goals as goal

pub returns : goal.returns
returns g c =
    let f : SFits w128 c.in_ok-number.field-0 = search rules in
    converted _ (signed_of c.args.self) c.in_ok-number.field-0 c.try_from.result _ (cc) (subst (λ (z : ℤ). g.T.TryFrom.try_from_gives z c.try_from.result) (to_z-of_z w128 c.in_ok-number.field-0 f) c.try_from.ensures) c.ok.ensures.value
