-- A byte, then messages that end with the content.
use Rattle.std.proofs.Common.{refl}
use Rattle.protocol.specs.Kinds.{element_row}
use Rattle.protocol.specs.Table.{table, row_in}
use Rattle.protocol.specs.declared.kind.Element.TheVariants.{Message}
use Rattle.fast_reading.proofs.publishing.publish.Goals as goal

pub returns : goal.returns
unfolding table row_in
returns c = c.byte_and_list.ensures (element_row Message) refl (rw c.plain_list.ensures at c.list_end-end.ensures)
