-- By the key.
use mathlib.Core.Path.{refl}
use borrow.Author.Rules.{rules}
use Rattle.protocol.specs.Decision.{versions_in, of_version, decide}
use Rattle.protocol.specs.Table.{table, row_in}
use Rattle.slot_taker.proofs.Listing.{listed, no_second_version}
use Rattle.slot_frames.proofs.second_version.Goals as goal

pub returns-in-2 : goal.returns-in-2
unfolding decide versions_in of_version table row_in
returns-in-2 c = listed _ 0x0002 2 _ _ c.in-2.is refl cc

pub returns-in-8 : goal.returns-in-8
unfolding decide versions_in of_version table row_in
returns-in-8 c = listed _ 0x0008 2 _ _ c.in-8.is refl cc

pub returns-in_default : goal.returns-in_default
returns-in_default c = no_second_version _ (search rules) _
