use Rattle.std.proofs.Common.{◌+◌, length, drop, vec_items, append-nil, arith, rules, tests}
use Rattle.std.specs.List.{slice_split}
use Rattle.std.proofs.lemmas.List.{length_push}
use Rattle.std.proofs.lemmas.Result.{err_from_is_err_and}
use Rattle.text.specs.Pieces.{is_blank}
use Rattle.text.specs.Words.{word_at, words_from}
use Rattle.text.proofs.Joins.{part_read, part_unread}
use Rattle.text.proofs.Parts.{spans_split, part_turn, part_end}
use Rattle.text.proofs.words.push_line.Goals as goal

pub loop-word-init : goal.loop-word-init
loop-word-init c =
    let s = spans_split is_blank c.args.bytes.now in
    (grind arith, omega arith)

pub loop-word-preserved : goal.loop-word-preserved
loop-word-preserved c =
    let d = part_turn _ is_blank c.args.bytes.now (λ x b q k. search (rules, tests)) _ (cc) (cc) (cc) c.loop-word.yielded _ c.loop-word.yielded_by _ _ c.in-Some.word c.in-Some.is c.next.ensures.steps in
    let n = length_push c.loop-word.yielded c.in-Some.word in
    let p = part_read (vec_items c.loop-word.numbers) (vec_items c.push_word.new.numbers) (word_at c.args.line c.loop-word.column c.in-Some.word.now) (words_from c.args.line (c.loop-word.column + (length c.in-Some.word.now + 1)) (drop (length c.loop-word.yielded + 1) (slice_split is_blank c.args.bytes.now))) (cc c.in_ok-push_word.ensures) in
    (grind arith, grind arith)

pub overflow_add-column-in-loop-word : goal.overflow_add-column-in-loop-word
overflow_add-column-in-loop-word c =
    let d = part_turn _ is_blank c.args.bytes.now (λ x b q k. search (rules, tests)) _ (cc) (cc) (cc) c.loop-word.yielded _ c.loop-word.yielded_by _ _ c.in-Some.word c.in-Some.is c.next.ensures.steps in
    let i = rw d at c.loop-word.invariant.1 in
    omega arith

pub returns-in_err-push_word : goal.returns-in_err-push_word
returns-in_err-push_word c =
    let d = part_turn _ is_blank c.args.bytes.now (λ x b q k. search (rules, tests)) _ (cc) (cc) (cc) c.loop-word.yielded _ c.loop-word.yielded_by _ _ c.in-Some.word c.in-Some.is c.next.ensures.steps in
    let e = err_from_is_err_and c.from_residual.result c.from_residual.ensures.1 in
    part_unread _ (vec_items c.loop-word.numbers) (word_at c.args.line c.loop-word.column c.in-Some.word.now) (words_from c.args.line (c.loop-word.column + (length c.in-Some.word.now + 1)) (drop (length c.loop-word.yielded + 1) (slice_split is_blank c.args.bytes.now))) _ _ _ (cc) (rw d at c.loop-word.invariant.0) c.in_err-push_word.ensures

pub returns : goal.returns
returns c =
    let d = part_end _ is_blank c.args.bytes.now (λ x b q k. search (rules, tests)) _ (cc) (cc) (cc) c.loop-word.yielded _ c.loop-word.yielded_by _ _ c.in-None.is c.next.ensures.steps in
    let n = append-nil (vec_items c.loop-word.numbers) in
    grind arith
