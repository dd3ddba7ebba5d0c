-- By the count and the place, and then by the elements.
use Rattle.std.proofs.Common.{refl, arith, Err}
use Rattle.std.proofs.lemmas.Result.{err_from_is_err_and}
use Rattle.protocol.proofs.Refused.{some_number}
use Rattle.protocol.specs.Kinds.{element_row}
use Rattle.byte_strings.specs.Stops.{stop_at, told}
use Rattle.byte_strings.proofs.Parts.{lent}
use Rattle.number_lists.proofs.Lists.{before_refused, before_passed, elements_refused, elements_used}
use Rattle.lists.proofs.list.check_list.Goals as goal

pub returns-in_err-check_place : goal.returns-in_err-check_place
returns-in_err-check_place c =
    let p = err_from_is_err_and c.from_residual.result c.from_residual.ensures.1 in
    rw (p.1, p.2) (before_refused c.args.kind.rule _ _ _ _ _ c.in_err-check_place.ensures (some_number _))

pub overflow_add-end : goal.overflow_add-end
overflow_add-end c = omega (arith, (before_passed c.args.kind.rule (element_row c.args.kind.element) c.args.src.now c.args.list.count c.args.list.place 0 c.in_ok-check_place.ensures refl).0)

pub slice_bounds-elements_end-end : goal.slice_bounds-elements_end-end
slice_bounds-elements_end-end c = omega (arith, (before_passed c.args.kind.rule (element_row c.args.kind.element) c.args.src.now c.args.list.count c.args.list.place 0 c.in_ok-check_place.ensures refl).0)

pub returns-in_err-last : goal.returns-in_err-last
returns-in_err-last c =
    let l = c.args.list in
    let fault = c.in_err-last.field-0.0 in
    let read = rw (lent c.args.src.now l.place.at l.place.len) at c.in_err-last.ensures in
    let p = err_from_is_err_and c.from_residual-in_err-last.result c.from_residual-in_err-last.ensures.1 in
    rw (p.1, p.2) (elements_refused c.args.kind.rule _ _ _ _ 0 c.in_ok-check_place.ensures refl (told (Err fault)) read (some_number fault.refusal))

pub returns : goal.returns
returns c =
    let l = c.args.list in
    let read = rw (lent c.args.src.now l.place.at l.place.len) at c.in_ok-last.ensures in
    elements_used c.args.kind.rule _ _ _ _ 0 c.in_ok-check_place.ensures refl (stop_at c.in_ok-last.last 0) read _ refl c.check_left.ensures
