-- What is left to measure, behind what was counted, has the length of the whole, and stops where the whole does.
use Rattle.std.proofs.Common.{◌≡◌, ◌≤◌, drop}
use Rattle.protocol.specs.Layouts.{row_by}
use Rattle.fields.specs.Passes.{bound, measured_from}
use Rattle.slot_writing.proofs.Rows.{measure_slots, write_slots}
use Rattle.slot_writing.proofs.writing.measure_fields.Given as goal

abbrev pub invariant-loop-field : goal.invariant-loop-field
invariant-loop-field g l = record {
  short : l.size ≤ bound;
  length : measured_from l.size (write_slots (row_by g.F.LayoutField.stands_for (drop l.field-index l.fields)) l.src l.rest) ≡ measured_from l.fn.start (write_slots (row_by g.F.LayoutField.stands_for l.fields) l.src l.fn.slots);
  stops : measure_slots l.size (row_by g.F.LayoutField.stands_for (drop l.field-index l.fields)) l.src l.rest ≡ measure_slots l.fn.start (row_by g.F.LayoutField.stands_for l.fields) l.src l.fn.slots;
}
