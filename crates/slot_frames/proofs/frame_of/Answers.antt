-- Only versions 1 and 2 have keys.
use borrow.Author.Rules.{rules}
use Rattle.slot_taker.proofs.Listing.{no_version}
use Rattle.slot_frames.proofs.frame_of.Goals as goal

pub returns-in_default : goal.returns-in_default
returns-in_default c = no_version _ _ (search rules) _
