-- The numbers of eight bytes fit; the others are tested.
use Rattle.std.proofs.Common.{refl, ◌∙◌, ap, arith}
use mir.Facts.{to_z-of_z}
use mir.Syntax.{w8, w32, w64}
use Rattle.wire.specs.Signed.{signed}
use Rattle.slot_writing.proofs.Narrowing.{fits_as, below_as, header_tells}
use Rattle.slot_writing.proofs.chunk.header_fits.Goals as goal

pub returns : goal.returns
returns c =
    header_tells c.args.slots.now (λ i. omega (arith, c.type_inv.slots i))
    (fits_as w8 1 refl c.try_from.result _ _ _ c.try_from.ensures (to_z-of_z {w = w64} (record { sfits = c.signed-magic.type_inv }) ∙ c.signed-magic.ensures ∙ ap (signed 8) c.slot.ensures) c.is_ok.ensures.value)
    (fits_as w8 1 refl c.try_from-2.result _ _ _ c.try_from-2.ensures (to_z-of_z {w = w64} (record { sfits = c.signed-kind.type_inv }) ∙ c.signed-kind.ensures ∙ ap (signed 8) c.slot-2.ensures) c.is_ok-2.ensures.value)
    (below_as 0xffff c.is_number.ensures c.slot-entries.ensures)
    (below_as 0xffff_ffff c.is_number-2.ensures c.slot-records.ensures)
    (fits_as w32 4 refl c.try_from-3.result _ _ _ c.try_from-3.ensures (to_z-of_z {w = w64} (record { sfits = c.signed-checksum.type_inv }) ∙ c.signed-checksum.ensures ∙ ap (signed 8) c.slot-3.ensures) c.is_ok-3.ensures.value)
    (below_as 0xffff_ffff c.is_number-3.ensures c.slot-data_length.ensures)
    (below_as 0xffff_ffff c.is_number-4.ensures c.slot-trailer_length.ensures)
    (below_as 0xff c.is_number-5.ensures c.slot-bloom_size.ensures)
    (below_as 0xff_ffff c.is_number-6.ensures c.slot-reserved.ensures)
