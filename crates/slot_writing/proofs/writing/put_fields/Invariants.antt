-- What is left to put, behind what was put, ends as the whole does.
use Rattle.std.proofs.Common.{◌≡◌, drop}
use Rattle.wire.specs.Buffer.{holds}
use Rattle.protocol.specs.Layouts.{row_by}
use Rattle.slot_writing.proofs.Rows.{put_slots}
use Rattle.slot_writing.proofs.writing.put_fields.Given as goal

abbrev pub invariant-loop-field : goal.invariant-loop-field
invariant-loop-field g l =
    put_slots (row_by g.F.LayoutField.stands_for (drop l.field-index l.fields)) l.src l.rest (holds l.out l.at) ≡ put_slots (row_by g.F.LayoutField.stands_for l.fields) l.src l.fn.slots (holds l.fn.out l.fn.start)
