-- A key of the range that is none of the listed ones.
use mathlib.Core.Path.{refl}
use mathlib.Core.List.{[], ◌∷◌}
use borrow.Author.Rules.{rules}
use Rattle.protocol.specs.Table.{table}
use Rattle.slot_taker.proofs.Listing.{unlisted_in}
use Rattle.request_frames.proofs.extensions.Goals as goal

pub returns-in_default : goal.returns-in_default
unfolding table
returns-in_default c low high = unlisted_in 0x0018 0x8000 (0x1e ∷ 0x1d ∷ 0x1c ∷ 0x1b ∷ 0x1a ∷ 0x19 ∷ 0x18 ∷ []) _ refl low high (search rules) _
