use Rattle.text.proofs.Places.{words_stand_lem}
use Rattle.text.proofs.laws.words_stand.Goals as goal

pub returns : goal.returns
returns c = words_stand_lem
