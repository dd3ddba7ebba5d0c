-- What is left of the row stops where the row does, and what it puts fills the slots of the row.
use Rattle.std.proofs.Common.{◌≡◌, length, drop}
use Rattle.protocol.specs.Layouts.{row_by}
use Rattle.rules.specs.Reading.{read_row}
use Rattle.byte_strings.specs.Stops.{stop}
use Rattle.slot_reading.proofs.RowSlots.{Continues}
use Rattle.slot_reading.proofs.filling.Filling.read.Given as goal

abbrev pub invariant-loop-field : goal.invariant-loop-field
invariant-loop-field g l = record {
  base : l.self.base ≡ l.fn.self.base;
  long : length l.self.slots ≡ g.row.N;
  stops : stop (read_row (row_by g.F.LayoutField.stands_for (drop l.field-index l.fields)) l.s l.at) ≡ stop (read_row (row_by g.F.LayoutField.stands_for l.fields) l.s l.fn.start);
  fills : Continues l.fn.self.base l.s (row_by g.F.LayoutField.stands_for (drop l.field-index l.fields)) l.at l.self.slots l.self.next (row_by g.F.LayoutField.stands_for l.fields) l.fn.start l.fn.self.slots l.fn.self.next;
}
