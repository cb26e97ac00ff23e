use Rattle.text.proofs.Bytes.{words_are_all_lem}
use Rattle.text.proofs.laws.words_are_all.Goals as goal

pub returns : goal.returns
returns c = words_are_all_lem
