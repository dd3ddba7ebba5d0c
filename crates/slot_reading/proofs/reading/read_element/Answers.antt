-- By the part, and then by where the fields end.
use Rattle.std.proofs.Common.{◌∙◌, sym}
use Rattle.std.proofs.lemmas.Result.{err_from_is_err_and}
use Rattle.slots.specs.Flat.{padded}
use Rattle.byte_strings.proofs.Parts.{lent}
use Rattle.slot_reading.proofs.RowSlots.{element_outside, element_read, element_refused}
use Rattle.slot_reading.proofs.reading.read_element.Goals as goal

pub returns-then-is_outside-clause-value : goal.returns-then-is_outside-clause-value
returns-then-is_outside-clause-value c = (element_outside c.args.kind c.args.s.now c.args.list c.args.at c.args.slots.now (sym c.is_outside.ensures ∙ c.if-is_outside.true)).0

pub returns-then-is_outside-clause-slots_after : goal.returns-then-is_outside-clause-slots_after
returns-then-is_outside-clause-slots_after c = (element_outside c.args.kind c.args.s.now c.args.list c.args.at _ (sym c.is_outside.ensures ∙ c.if-is_outside.true)).1

pub returns-in_err-last-clause-value : goal.returns-in_err-last-clause-value
returns-in_err-last-clause-value c =
    let a = c.args in
    let p = err_from_is_err_and c.from_residual.result c.from_residual.ensures.1 in
    let e = rw (lent a.s.now a.list.at a.list.len, c.element_fields.ensures.row) at c.in_err-last.ensures.value in
    rw (p.1, p.2) (element_refused a.kind a.s.now a.list a.at (sym c.is_outside.ensures ∙ c.if-is_outside.false) a.slots.now _ e).0

pub returns-in_err-last-clause-slots_after : goal.returns-in_err-last-clause-slots_after
returns-in_err-last-clause-slots_after c =
    let a = c.args in
    let e = rw (lent a.s.now a.list.at a.list.len, c.element_fields.ensures.row) at c.in_err-last.ensures.value in
    (element_refused a.kind a.s.now a.list a.at (sym c.is_outside.ensures ∙ c.if-is_outside.false) a.slots.now _ e).1

pub returns-clause-value : goal.returns-clause-value
unfolding padded
returns-clause-value c =
    let a = c.args in
    let e = rw (lent a.s.now a.list.at a.list.len, c.element_fields.ensures.row) at c.in_ok-last.ensures.value in
    let f = rw (lent a.s.now a.list.at a.list.len, c.element_fields.ensures.row) at c.read.ensures.filled in
    (element_read a.kind a.s.now a.list a.at (sym c.is_outside.ensures ∙ c.if-is_outside.false) _ e a.slots.now _ f).0

pub returns-clause-slots_after : goal.returns-clause-slots_after
unfolding padded
returns-clause-slots_after c =
    let a = c.args in
    let e = rw (lent a.s.now a.list.at a.list.len, c.element_fields.ensures.row) at c.in_ok-last.ensures.value in
    let f = rw (lent a.s.now a.list.at a.list.len, c.element_fields.ensures.row) at c.read.ensures.filled in
    (element_read a.kind a.s.now a.list a.at (sym c.is_outside.ensures ∙ c.if-is_outside.false) _ e a.slots.now _ f).1
