-- A signed number of eight bytes is read as its bits are.
use Rattle.std.proofs.Common.{arith}
use Rattle.wire.specs.Integers.{Bytes}
use Rattle.slot_reading.proofs.FieldSlots.{signed_read}
use Rattle.slot_reading.proofs.filling.Filling.read_field.Goals as goal

pub returns-in-Signed-clause-value : goal.returns-in-Signed-clause-value
unfolding Bytes
returns-in-Signed-clause-value g c =
    let b : Bytes c.args.s.now = λ i. omega (arith, c.type_inv.s i) in
    rw c.in-Signed.is (signed_read _ _ c.args.self.now.base _ _ _ _ b c.read_unsigned-in-Signed.ensures.value c.read_unsigned-in-Signed.ensures.slots_after).0

pub returns-in-Signed-clause-slots_after : goal.returns-in-Signed-clause-slots_after
unfolding Bytes
returns-in-Signed-clause-slots_after g c =
    let b : Bytes c.args.s.now = λ i. omega (arith, c.type_inv.s i) in
    rw c.in-Signed.is (signed_read _ _ c.args.self.now.base _ _ _ _ b c.read_unsigned-in-Signed.ensures.value c.read_unsigned-in-Signed.ensures.slots_after).1
