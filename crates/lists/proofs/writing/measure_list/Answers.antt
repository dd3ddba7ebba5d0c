-- A list that no check refuses is written as its count and its elements.
use Rattle.std.proofs.Common.{◌+◌, ◌≤◌, length, sym, arith}
use borrow.Author.Tests.{ltb-false}
use Rattle.byte_strings.proofs.Parts.{with_front}
use Rattle.number_lists.proofs.Lists.{not_refused}
use Rattle.lists.proofs.writing.measure_list.Goals as goal

pub overflow_add-result : goal.overflow_add-result
overflow_add-result c =
    let l = c.args.list in
    let w = not_refused c.args.kind.rule _ c.args.src.now l.count l.place (sym c.in_ok-check_list.ensures) in
    let inside : l.place.at + l.place.len ≤ length c.args.src.now = ltb-false _ _ w.0 in
    omega arith

pub returns : goal.returns
returns c =
    let l = c.args.list in
    let w = not_refused c.args.kind.rule _ c.args.src.now l.count l.place (sym c.in_ok-check_list.ensures) in
    rw (w.1, with_front 4 l.count c.args.src.now l.place w.0)
