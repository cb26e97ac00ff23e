use Rattle.gate_model.proofs.Law.{law}
use Rattle.gate_model.proofs.theorem.law_stands.Goals as goal

pub returns : goal.returns
returns c = law
