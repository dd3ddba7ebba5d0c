-- A byte, then publishing ids that end with the content.
use Rattle.std.proofs.Common.{refl}
use Rattle.protocol.specs.Kinds.{element_row}
use Rattle.protocol.specs.Table.{table, row_in}
use Rattle.protocol.specs.declared.kind.Element.TheVariants.{PublishingId}
use Rattle.fast_reading.proofs.publishing.publish_confirm.Goals as goal

pub returns : goal.returns
unfolding table row_in
returns c = c.byte_and_list.ensures (element_row PublishingId) refl c.numbers_end-end.ensures
