-- The cases with the most slots: one field after the other.
use mathlib.Core.Path.{refl, ap}
use Rattle.protocol.specs.Table.{table, row_in}
use Rattle.slots.specs.Flat.{flat_frame}
use Rattle.slot_builder.specs.Built.{started}
use Rattle.slot_builder.specs.declared.Builder.{Builder}
use Rattle.slot_builder.proofs.Built.{onto}
use Rattle.typed_slots.proofs.filled.Goals as goal

pub returns-in-Deliver-clause-slots_value : goal.returns-in-Deliver-clause-slots_value
unfolding started flat_frame table row_in
returns-in-Deliver-clause-slots_value c =
    rw c.in-Deliver.is
    (ap (λ (x : Builder). x.slots) (onto _ _ _ _ refl (onto _ _ _ _ refl c.headed-in-Deliver.ensures c.number-in-Deliver.ensures) c.chunk.ensures.value))

pub returns-in-DeliverV2-clause-slots_value : goal.returns-in-DeliverV2-clause-slots_value
unfolding started flat_frame table row_in
returns-in-DeliverV2-clause-slots_value c =
    rw c.in-DeliverV2.is
    (ap (λ (x : Builder). x.slots) (onto _ _ _ _ refl (onto _ _ _ _ refl (onto _ _ _ _ refl c.headed-in-DeliverV2.ensures c.number-in-DeliverV2.ensures) c.number-in-DeliverV2-2.ensures) c.chunk-in-DeliverV2.ensures.value))

pub returns-in-CreateSuperStream-clause-slots_value : goal.returns-in-CreateSuperStream-clause-slots_value
unfolding started flat_frame table row_in
returns-in-CreateSuperStream-clause-slots_value c =
    rw c.in-CreateSuperStream.is
    (ap (λ (x : Builder). x.slots)
    (onto _ _ _ _ refl (onto _ _ _ _ refl (onto _ _ _ _ refl (onto _ _ _ _ refl c.request-in-CreateSuperStream.ensures c.place-in-CreateSuperStream.ensures) c.list-in-CreateSuperStream.ensures) c.list-in-CreateSuperStream-2.ensures) c.list-in-CreateSuperStream-3.ensures))
