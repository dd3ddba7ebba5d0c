-- The slots of an element that is found show the places that were read.
use Rattle.std.proofs.Common.{◌∙◌, arith, refl}
use Rattle.wire.specs.Integers.{Bytes}
use Rattle.protocol.specs.Kinds.{element_row}
use Rattle.element_parts.proofs.ShownPlaces.{shown_part}
use Rattle.element_parts.proofs.field_part.Goals as goal

pub returns-in-Ok : goal.returns-in-Ok
unfolding Bytes
returns-in-Ok c =
    let a = c.args in
    shown_part (element_row a.kind) a.s.now a.list.count a.list.place a.index a.field 0 c.in-Ok.ensures.value (λ i. omega (arith, c.type_inv.s i)) (omega arith) refl _ _ _ c.in-Ok.ensures.slots_after (c.part.ensures ∙ c.place_in.ensures a.s.now (omega arith))
