use Rattle.std.proofs.Common.{◌+◌, drop, vec_items, append-nil, arith, rules, tests}
use Rattle.std.specs.List.{slice_split}
use Rattle.std.proofs.lemmas.List.{length_push}
use Rattle.std.proofs.lemmas.Result.{err_from_is_err_and}
use Rattle.text.specs.Pieces.{ends_line}
use Rattle.text.specs.Words.{line_words, lines_words}
use Rattle.text.proofs.Joins.{part_read, part_unread}
use Rattle.text.proofs.Parts.{number_turn, number_end}
use Rattle.text.proofs.words.numbers.Goals as goal

pub loop-place-preserved : goal.loop-place-preserved
loop-place-preserved c =
    let d = number_turn _ ends_line c.args.text.now (λ x b q k. search (rules, tests)) _ (cc) (cc) (cc) (cc) c.loop-place.yielded _ c.loop-place.yielded_by _ _ c.in-Some.place c.in-Some.line (cc) c.next.ensures.steps in
    let n = length_push c.loop-place.yielded (c.in-Some.place, c.in-Some.line) in
    let p = part_read (vec_items c.loop-place.numbers) (vec_items c.push_line.new.numbers) (line_words (c.in-Some.place + 1) c.in-Some.line.now) (lines_words (c.in-Some.place + 1 + 1) (drop (c.in-Some.place + 1) (slice_split ends_line c.args.text.now))) (cc c.in_ok-push_line.ensures) in
    grind arith

pub returns-in_err-push_line : goal.returns-in_err-push_line
returns-in_err-push_line c =
    let d = number_turn _ ends_line c.args.text.now (λ x b q k. search (rules, tests)) _ (cc) (cc) (cc) (cc) c.loop-place.yielded _ c.loop-place.yielded_by _ _ c.in-Some.place c.in-Some.line (cc) c.next.ensures.steps in
    let e = err_from_is_err_and c.from_residual.result c.from_residual.ensures.1 in
    part_unread _ (vec_items c.loop-place.numbers) (line_words (c.in-Some.place + 1) c.in-Some.line.now) (lines_words (c.in-Some.place + 1 + 1) (drop (c.in-Some.place + 1) (slice_split ends_line c.args.text.now))) _ _ _ (cc) (grind arith) c.in_err-push_line.ensures

pub returns : goal.returns
returns c =
    let d = number_end _ ends_line c.args.text.now (λ x b q k. search (rules, tests)) _ (cc) (cc) (cc) (cc) c.loop-place.yielded _ c.loop-place.yielded_by _ _ c.in-None.is c.next.ensures.steps in
    let n = append-nil (vec_items c.loop-place.numbers) in
    grind arith
