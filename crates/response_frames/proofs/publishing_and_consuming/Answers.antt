-- A key of the range that is none of the listed ones.
use mathlib.Core.Path.{refl}
use mathlib.Core.List.{[], ◌∷◌}
use borrow.Author.Rules.{rules}
use Rattle.protocol.specs.Table.{table}
use Rattle.slot_taker.proofs.Listing.{unlisted_in}
use Rattle.response_frames.proofs.publishing_and_consuming.Goals as goal

pub returns-in_default : goal.returns-in_default
unfolding table
returns-in_default c low high = unlisted_in 0x8000 0x800d (0x800c ∷ 0x800b ∷ 0x8009 ∷ 0x8007 ∷ 0x8006 ∷ 0x8005 ∷ 0x8001 ∷ []) _ refl low high (search rules) _
