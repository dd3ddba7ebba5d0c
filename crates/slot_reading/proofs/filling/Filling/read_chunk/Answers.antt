-- By where the chunk ends.
use Rattle.std.proofs.Common.{refl}
use Rattle.protocol.specs.Kinds as K
use Rattle.rules.specs.Reading.{read_field}
use Rattle.byte_strings.specs.Stops.{stop_at}
use Rattle.chunks.proofs.Chunks.{whole}
use Rattle.slot_reading.proofs.FieldSlots.{chunk_found, slots_stay}
use Rattle.slot_reading.proofs.filling.Filling.read_chunk.Goals as goal

pub chunk_slots-values-requires : goal.chunk_slots-values-requires
unfolding read_field
chunk_slots-values-requires g c = ((whole _ _ (stop_at c.in_ok-end.end 0) c.in_ok-end.ensures refl).long, c.requires)

pub returns-in_err-end-clause-slots_after : goal.returns-in_err-end-clause-slots_after
unfolding read_field
returns-in_err-end-clause-slots_after g c =
    let a = c.args in
    slots_stay K.chunk a.s.now a.at a.self.now.base _ _ _ c.in_err-end.ensures

pub returns-clause-slots_after : goal.returns-clause-slots_after
unfolding read_field
returns-clause-slots_after g c = chunk_found _ _ _ _ _ _ _ _ (whole _ _ (stop_at c.in_ok-end.end 0) c.in_ok-end.ensures refl) c.chunk_slots-values.ensures c.put.ensures.slots_after
