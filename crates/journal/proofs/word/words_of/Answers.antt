use Rattle.std.proofs.Common.{not, eqb, length, rules, tests}
use Rattle.std.proofs.lemmas.Iterator.{items_from_collect, YieldsList-from_map}
use Rattle.std.proofs.lemmas.Iterator.Consumers.{YieldsList-at, YieldsList-from_filter}
use Rattle.std.proofs.lemmas.Iterator.Splits.{YieldsList-from_slice_split}
use Rattle.text.specs.Pieces.{is_blank}
use Rattle.journal.specs.Words.{word_of}
use Rattle.journal.proofs.Words.{words_by_filter}
use Rattle.journal.proofs.word.words_of.Goals as goal

pub returns : goal.returns
returns c =
    let e = items_from_collect _ c.collect.ensures.ran (YieldsList-from_map _ word_of (YieldsList-at c.map.ensures.source (YieldsList-from_filter _ (λ l. not (eqb (length l) 0)) (YieldsList-at c.filter.ensures.source (YieldsList-from_slice_split _ is_blank c.before_comment.result.now (cc) (cc) (cc) (λ x b q k. search (rules, tests)))) c.filter.ensures.closure (λ x b q k. search (rules, tests)))) c.map.ensures.closure (λ x r q k. search (rules, tests))) in
    simp (words_by_filter, c.before_comment.ensures) at e
