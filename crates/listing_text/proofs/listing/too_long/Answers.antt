-- By the two tests.
use borrow.Author.Tests.{lt-ltb}
use Rattle.std.proofs.Common.{refl, ◌∙◌}
use Rattle.listing_text.proofs.Listings.{offset_long, frames_long}
use Rattle.listing_text.proofs.listing.too_long.Goals as goal

pub returns-then-offset-total : goal.returns-then-offset-total
returns-then-offset-total c = lt-ltb _ _ c.if-offset-total.true ∙ offset_long _ _ _ c.if-offset-total.true

pub returns-else-offset-total : goal.returns-else-offset-total
returns-else-offset-total c = frames_long _ _ _ _ c.ranges.offset.fits c.ranges.frames.fits c.if-offset-total.false refl
