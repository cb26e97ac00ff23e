use Rattle.std.proofs.Common.{sym, ap, codes, arith, rules}
use Rattle.std.proofs.lemmas.Slice.Eq.{text_from_reads}
use Rattle.journal.specs.Words.{verb_of}
use Rattle.journal.proofs.word.verb_of.Goals as goal

pub returns-in-posted : goal.returns-in-posted
returns-in-posted c = sym (ap verb_of (text_from_reads c.args.word.now (codes "posted") (omega arith) (search rules)))

pub returns-in-average : goal.returns-in-average
returns-in-average c = sym (ap verb_of (text_from_reads c.args.word.now (codes "average") (omega arith) (search rules)))

pub returns-in-numbers : goal.returns-in-numbers
returns-in-numbers c = sym (ap verb_of (text_from_reads c.args.word.now (codes "numbers") (omega arith) (search rules)))

pub returns-in-history : goal.returns-in-history
returns-in-history c = sym (ap verb_of (text_from_reads c.args.word.now (codes "history") (omega arith) (search rules)))

pub returns-in-recorded : goal.returns-in-recorded
returns-in-recorded c = sym (ap verb_of (text_from_reads c.args.word.now (codes "recorded") (omega arith) (search rules)))
