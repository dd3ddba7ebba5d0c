-- By the number, which is there if it is not refused.
use Rattle.wire.specs.Integers.{width_of}
use Rattle.protocol.specs.Kinds.{unsigned}
use Rattle.rules.specs.Reading.{read_field}
use Rattle.slot_reading.proofs.FieldSlots.{slots_put, slots_stay, unsigned_slots}
use Rattle.slot_reading.proofs.filling.Filling.read_unsigned.Goals as goal

pub returns-in_err-end-clause-slots_after : goal.returns-in_err-end-clause-slots_after
unfolding read_field
returns-in_err-end-clause-slots_after g c =
    let a = c.args in
    slots_stay (unsigned (width_of a.width) a.most) a.s.now a.at a.self.now.base _ _ _ c.in_err-end.ensures

pub returns-clause-slots_after : goal.returns-clause-slots_after
unfolding read_field
returns-clause-slots_after g c =
    let a = c.args in
    let s = a.s.now in
    slots_put (unsigned (width_of a.width) a.most) s a.at _ c.in_ok-end.ensures a.self.now.base _ _ _ _ c.put.ensures.slots_after (unsigned_slots s a.at a.self.now.base (width_of a.width) a.most _ _ c.number_or_zero.ensures)
