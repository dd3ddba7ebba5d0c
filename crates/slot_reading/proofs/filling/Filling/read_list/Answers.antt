-- By the count, which is there if the list is not refused, and by where the list ends.
use Rattle.std.proofs.Common.{arith}
use Rattle.protocol.specs.Kinds.{element_row, list_of}
use Rattle.slot_reading.proofs.FieldSlots.{list_ends, list_slots, slots_put}
use Rattle.slot_reading.proofs.filling.Filling.read_list.Goals as goal

pub overflow_add-first : goal.overflow_add-first
overflow_add-first g c =
    let a = c.args in
    omega (arith, list_ends a.s.now a.at a.self.now.base a.kind.rule (element_row a.kind.element) _ c.in_ok-end.ensures)

pub overflow_add-self : goal.overflow_add-self
overflow_add-self g c =
    let a = c.args in
    omega (arith, list_ends a.s.now a.at a.self.now.base a.kind.rule (element_row a.kind.element) _ c.in_ok-end.ensures)

pub overflow_sub-end : goal.overflow_sub-end
overflow_sub-end g c =
    let a = c.args in
    omega (arith, list_ends a.s.now a.at a.self.now.base a.kind.rule (element_row a.kind.element) _ c.in_ok-end.ensures)

pub returns-clause-slots_after : goal.returns-clause-slots_after
returns-clause-slots_after g c = slots_put (list_of c.args.kind) _ _ _ c.in_ok-end.ensures _ _ _ _ _ c.put.ensures.slots_after (list_slots _ _ _ c.args.kind.rule (element_row c.args.kind.element) _ _ c.count_at.ensures)
