-- A chunk that no check refuses is written as its header and its data.
use Rattle.std.proofs.Common.{get_or, refl, arith}
use Rattle.protocol.specs.Fields.{place}
use Rattle.slots.specs.Unflat.{unflat_header}
use Rattle.slot_writing.proofs.ChunkChecks.{chunk_length, written}
use Rattle.slot_writing.proofs.chunk.measure_chunk.Goals as goal

pub overflow_add-result : goal.overflow_add-result
overflow_add-result c =
    let t = c.args.slots.now in
    let w = written c.args.src.now (unflat_header t) (place (get_or t 12 0) (get_or t 13 0)) _ c.in_ok-check_chunk.ensures refl in
    omega (arith, w.inside, c.slot-len.ensures)

pub returns : goal.returns
returns c =
    let t = c.args.slots.now in
    let p = place (get_or t 12 0) (get_or t 13 0) in
    let w = written c.args.src.now (unflat_header t) p _ c.in_ok-check_chunk.ensures refl in
    rw (w.is, chunk_length c.args.src.now (unflat_header t) p w.inside, c.slot-len.ensures)
