-- All steps so far are one listing, which goes on.
use Rattle.std.proofs.Common.{◌≡◌, ◌-◌, length}
use Rattle.listing_text.specs.Steps.{begun, Lists}
use Rattle.listing_text.specs.declared.listing.State.TheVariants.{Going}
use Rattle.listing_text.proofs.listing.list.Given as goal

abbrev pub invariant-loop-p : goal.invariant-loop-p
invariant-loop-p l = record { lists : Lists l.window l.ended (begun l.offset l.frames) l.fn.out l.out l.p; going : l.p.state ≡ Going }

abbrev pub decreases-loop-p : goal.decreases-loop-p
decreases-loop-p l = length l.window - l.p.from
