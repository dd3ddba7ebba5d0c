-- What is left of the row stops where the row does.
use Rattle.std.proofs.Common.{◌≡◌, drop}
use Rattle.protocol.specs.Layouts.{row_from}
use Rattle.rules.specs.Reading.{read_row}
use Rattle.byte_strings.specs.Stops.{stop}
use Rattle.elements.proofs.element.row_end.Given as goal

abbrev pub invariant-loop-field : goal.invariant-loop-field
invariant-loop-field l = stop (read_row (row_from (drop l.field-index l.fields)) l.s l.at) ≡ stop (read_row (row_from l.fields) l.s l.start)
