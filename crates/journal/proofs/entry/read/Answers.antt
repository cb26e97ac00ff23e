use Rattle.std.proofs.Common.{◌+◌, map, length, drop, vec_items, append_assoc, append-nil, arith, rules, tests}
use Rattle.std.specs.List.{slice_split}
use Rattle.std.proofs.lemmas.List.{length_push}
use Rattle.text.specs.Pieces.{ends_line}
use Rattle.text.proofs.Parts.{number_turn, number_end}
use Rattle.journal.specs.Entries.{entries_from, one_entry, entry_of}
use Rattle.journal.proofs.entry.read.Goals as goal

pub loop-place-preserved : goal.loop-place-preserved
loop-place-preserved c =
    let d = number_turn _ ends_line c.args.text.now (λ x b q k. search (rules, tests)) _ (cc) (cc) (cc) (cc) c.loop-place.yielded _ c.loop-place.yielded_by _ _ c.in-Some.place c.in-Some.line (cc) c.next.ensures.steps in
    let n = length_push c.loop-place.yielded (c.in-Some.place, c.in-Some.line) in
    let p = c.in_ok-push_entry.ensures in
    let a = append_assoc (map entry_of (vec_items c.loop-place.entries)) (one_entry (length c.loop-place.yielded + 1) c.in-Some.line.now) (entries_from (length c.loop-place.yielded + 1 + 1) (drop (length c.loop-place.yielded + 1) (slice_split ends_line c.args.text.now))) in
    grind arith

pub returns : goal.returns
returns c =
    let d = number_end _ ends_line c.args.text.now (λ x b q k. search (rules, tests)) _ (cc) (cc) (cc) (cc) c.loop-place.yielded _ c.loop-place.yielded_by _ _ c.in-None.is c.next.ensures.steps in
    let n = append-nil (map entry_of (vec_items c.loop-place.entries)) in
    grind arith
