use Rattle.std.proofs.Common.{rules, tests}
use Rattle.std.proofs.lemmas.Iterator.{YieldsList-from_slice}
use Rattle.std.proofs.lemmas.Iterator.Search.{position_from_yields_List}
use Rattle.journal.specs.Words.{starts_comment}
use Rattle.journal.proofs.Lists.{cut_at, cut_nowhere}
use Rattle.journal.proofs.word.before_comment.Goals as goal

pub returns-in-Some : goal.returns-in-Some
returns-in-Some c = cut_at starts_comment c.args.line.now _ c.in-Some.end (position_from_yields_List starts_comment _ _ _ c.position.ensures.ran (YieldsList-from_slice c.args.line.now cc) (λ x b q k. search (rules, tests))) c.in-Some.is

pub returns-in-None : goal.returns-in-None
returns-in-None c = cut_nowhere starts_comment c.args.line.now _ (position_from_yields_List starts_comment _ _ _ c.position.ensures.ran (YieldsList-from_slice c.args.line.now cc) (λ x b q k. search (rules, tests))) c.in-None.is
