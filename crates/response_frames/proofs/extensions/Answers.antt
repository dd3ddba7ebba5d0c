-- A key of the range that is none of the listed ones.
use mathlib.Core.Path.{refl}
use mathlib.Core.List.{[], ◌∷◌}
use borrow.Author.Rules.{rules}
use Rattle.protocol.specs.Table.{table}
use Rattle.slot_taker.proofs.Listing.{unlisted_above}
use Rattle.response_frames.proofs.extensions.Goals as goal

pub returns-in_default : goal.returns-in_default
unfolding table
returns-in_default c low = unlisted_above 0x8018 (0x801e ∷ 0x801d ∷ 0x801c ∷ 0x801b ∷ 0x801a ∷ 0x8019 ∷ 0x8018 ∷ []) _ refl low (search rules) _
