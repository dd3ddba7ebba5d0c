-- By each check, and then by the one asked for.
use Rattle.std.proofs.Common.{◌∙◌, sym, refl, arith, Ok, Err}
use Rattle.std.proofs.lemmas.Result.{err_from_is_err_and}
use Rattle.protocol.proofs.Refused.{some_number}
use Rattle.protocol.specs.Kinds.{element_row}
use Rattle.byte_strings.specs.Stops.{told}
use Rattle.byte_strings.proofs.Parts.{ends_inside, lent}
use Rattle.questions.proofs.Answers.{element_before, element_beyond, element_found, element_outside}
use Rattle.questions.proofs.asking.element.Goals as goal

pub returns-then-is_outside : goal.returns-then-is_outside
returns-then-is_outside c =
    let a = c.args in
    let r = element_outside (element_row a.kind) a.s.now a.list.count a.list.place a.index _ (sym c.is_outside.ensures ∙ c.if-is_outside.true) in
    record { value = r.0; slots_after = r.1 }

pub returns-then-list-index : goal.returns-then-list-index
returns-then-list-index c =
    let a = c.args in
    let r = element_beyond (element_row a.kind) a.s.now a.list.count a.list.place a.index (sym c.is_outside.ensures ∙ c.if-is_outside.false) _ c.if-list-index.true in
    record { value = r.0; slots_after = r.1 }

pub overflow_add-end : goal.overflow_add-end
overflow_add-end c = omega (arith, ends_inside c.args.s.now c.args.list.place _ c.is_outside.ensures c.if-is_outside.false)

pub slice_bounds-elements_end-end : goal.slice_bounds-elements_end-end
slice_bounds-elements_end-end c = omega (arith, ends_inside c.args.s.now c.args.list.place _ c.is_outside.ensures c.if-is_outside.false)

pub returns-in_err-before : goal.returns-in_err-before
returns-in_err-before c =
    let a = c.args in
    let read = rw (lent a.s.now a.list.place.at a.list.place.len) at c.in_err-before.ensures in
    let p = err_from_is_err_and c.from_residual.result c.from_residual.ensures.1 in
    let r = element_before (element_row a.kind) a.s.now a.list.count a.list.place a.index (sym c.is_outside.ensures ∙ c.if-is_outside.false) c.if-list-index.false (told (Err c.in_err-before.field-0.0)) read a.slots.now (some_number _) in
    record { value = rw (p.1, p.2) r.0; slots_after = r.1 }

pub returns-in_err-read_element : goal.returns-in_err-read_element
returns-in_err-read_element c =
    let a = c.args in
    let read = rw (lent a.s.now a.list.place.at a.list.place.len) at c.in_ok-before.ensures in
    let p = err_from_is_err_and c.from_residual-in_err-read_element.result c.from_residual-in_err-read_element.ensures.1 in
    let r = element_found (element_row a.kind) a.s.now a.list.count a.list.place a.index (sym c.is_outside.ensures ∙ c.if-is_outside.false) c.if-list-index.false (told (Ok c.in_ok-before.before)) read a.slots.now _ (told (Err c.in_err-read_element.field-0.0)) refl c.in_err-read_element.ensures.value c.in_err-read_element.ensures.slots_after in
    record { value = rw (p.1, p.2) r.0; slots_after = r.1 }

pub returns : goal.returns
returns c =
    let a = c.args in
    let read = rw (lent a.s.now a.list.place.at a.list.place.len) at c.in_ok-before.ensures in
    let r = element_found (element_row a.kind) a.s.now a.list.count a.list.place a.index (sym c.is_outside.ensures ∙ c.if-is_outside.false) c.if-list-index.false (told (Ok c.in_ok-before.before)) read a.slots.now _ (told (Ok c.in_ok-read_element.field-0)) refl c.in_ok-read_element.ensures.value c.in_ok-read_element.ensures.slots_after in
    record { value = r.0; slots_after = r.1 }
