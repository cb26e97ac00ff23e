use Rattle.journal.specs.Words.{unsigned_of}
use Rattle.journal.proofs.Words.{converted}
use Rattle.journal.proofs.word.Word.unsigned.Goals as goal

pub returns : goal.returns
returns g c = converted _ (unsigned_of c.args.self) c.in_ok-size.field-0 c.try_from.result _ (cc) c.try_from.ensures c.ok.ensures.value
