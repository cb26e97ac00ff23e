use Rattle.text.proofs.Back.{numbers_read_back_lem}
use Rattle.text.proofs.laws.numbers_read_back.Goals as goal

pub returns : goal.returns
returns c = numbers_read_back_lem
