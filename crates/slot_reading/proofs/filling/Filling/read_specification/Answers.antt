-- By the type; a number follows it unless the field ends there.
use Rattle.std.proofs.Common.{◌≡◌, ◌∙◌, ◌+◌, cond, eqb, arith}
use borrow.Author.Tests.{eq-eqb, ne_eqb}
use Rattle.wire.specs.Integers.{Bytes, number_or_zero}
use Rattle.protocol.specs.Kinds.{specification}
use Rattle.rules.specs.Reading.{read_field}
use Rattle.slot_reading.proofs.FieldSlots.{Typed, found, offset_slots, slots_put, slots_stay, typed}
use Rattle.slot_reading.proofs.filling.Filling.read_specification.Goals as goal
use Rattle.slot_reading.proofs.filling.Filling.read_specification.Goals.{then-end-first, else-end-first}

pub returns-in_err-end-clause-slots_after : goal.returns-in_err-end-clause-slots_after
unfolding read_field
returns-in_err-end-clause-slots_after g c =
    let a = c.args in
    slots_stay (specification a.admits_none) a.s.now a.at a.self.now.base _ _ _ c.in_err-end.ensures

pub overflow_add-first : goal.overflow_add-first
unfolding read_field Bytes
overflow_add-first g c =
    let a = c.args in
    let s = a.s.now in
    let b : Bytes s = λ i. omega (arith, c.type_inv.s i) in
    omega (arith, (found (specification a.admits_none) s a.at _ c.in_ok-end.ensures (Typed s a.at 0) (typed s a.at 0 a.admits_none b)).2.there)

pub returns-clause-slots_after : goal.returns-clause-slots_after
unfolding read_field Bytes
returns-clause-slots_after g c =
    let a = c.args in
    let s = a.s.now in
    let b : Bytes s = λ i. omega (arith, c.type_inv.s i) in
    let x : c.if-end-first.value ≡ cond (eqb c.in_ok-end.end (a.at + 2)) 0 (number_or_zero 8 s (a.at + 2)) = elim c.if-end-first.branch [
      | then-end-first w ↦ rw (eq-eqb _ _ w.if-end-first.true) w.value-is
      | else-end-first w ↦ rw (ne_eqb _ _ w.if-end-first.false) (w.value-is ∙ w.number_or_zero-value.ensures)
    ] in
    slots_put (specification a.admits_none) s a.at _ c.in_ok-end.ensures a.self.now.base _ _ _ _ c.put.ensures.slots_after (offset_slots s a.at a.self.now.base a.admits_none _ _ _ b c.number_or_zero-kind.ensures x)
