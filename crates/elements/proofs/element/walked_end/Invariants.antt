-- What is left to read, from the place reached, stops where the whole does.
use Rattle.std.proofs.Common.{◌≡◌, ◌-◌}
use Rattle.protocol.specs.Layouts.{row_from}
use Rattle.rules.specs.Outcome.{repeated}
use Rattle.rules.specs.Reading.{read_row}
use Rattle.byte_strings.specs.Stops.{stop}
use Rattle.elements.proofs.element.walked_end.Given as goal

abbrev pub invariant-loop : goal.invariant-loop
invariant-loop l = stop (repeated (read_row (row_from l.fields)) (l.count - l.counter) l.s l.at) ≡ stop (repeated (read_row (row_from l.fields)) l.count l.s l.start)
