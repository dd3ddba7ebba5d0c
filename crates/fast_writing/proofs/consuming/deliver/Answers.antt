-- The chunk's refusal is the frame's; without one the chunk is written, and its pieces are put behind the subscription id.
use Rattle.std.proofs.Common.{get_or, drop, refl, sym, ◌∙◌, arith}
use lib.Seq.{get_or-drop}
use borrow.Author.Tests.{leb-true}
use Rattle.protocol.specs.Fields.{place}
use Rattle.protocol.proofs.Refused.{some_number}
use Rattle.slots.specs.Unflat.{unflat_header}
use Rattle.slot_writing.proofs.ChunkChecks.{written}
use Rattle.fast_writing.proofs.Chain.{frame_put, put_next}
use Rattle.fast_writing.proofs.Delivered.{chunk_slots, deliver_row, deliver_refused, chunk_next}
use Rattle.fast_writing.proofs.consuming.deliver.Goals as goal

pub returns-in-Err : goal.returns-in-Err
returns-in-Err c =
    let s = c.args.slots.now in
    let id = leb-true _ _ (sym c.is_number.ensures ∙ c.if-not-is_number.false) in
    let refused = rw (chunk_slots s c.told-slots) at c.in-Err.ensures in
    (deliver_refused s c.args.src.now _ _ _ id refused (some_number c.in-Err.refusal), refl)

pub overflow_add-size : goal.overflow_add-size
overflow_add-size c =
    let s = c.args.slots.now in
    let passed = rw (chunk_slots s c.told-slots) at c.in_default.ensures in
    let w = written c.args.src.now (unflat_header (drop 3 s)) (place (get_or (drop 3 s) 12 0) (get_or (drop 3 s) 13 0)) _ passed refl in
    omega (arith, w.inside, get_or-drop 3 s 13 0)

pub returns : goal.returns
returns c =
    let s = c.args.slots.now in
    let p = place (get_or (drop 3 s) 12 0) (get_or (drop 3 s) 13 0) in
    let id = leb-true _ _ (sym c.is_number.ensures ∙ c.if-not-is_number.false) in
    let passed = rw (chunk_slots s c.told-slots) at c.in_default.ensures in
    let w = written c.args.src.now (unflat_header (drop 3 s)) p _ passed refl in
    let put = rw (chunk_slots s c.told-slots) at c.put_chunk.ensures in
    frame_put 0x0008 _ _ c.args.out.now _ _ _ _ (deliver_row s c.args.src.now id w) (c.fits.ensures.0 c.if-not-fits.false)
    (chunk_next c.args.src.now (unflat_header (drop 3 s)) p _ _ _ _ _ w.inside (put_next _ _ _ _ _ _ c.put_head-next.ensures c.put_number-next.ensures) put)
