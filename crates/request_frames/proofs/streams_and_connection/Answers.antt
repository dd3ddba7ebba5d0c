-- A key of the range that is none of the listed ones.
use mathlib.Core.Path.{refl}
use mathlib.Core.List.{[], ◌∷◌}
use borrow.Author.Rules.{rules}
use Rattle.protocol.specs.Table.{table}
use Rattle.slot_taker.proofs.Listing.{unlisted_in}
use Rattle.request_frames.proofs.streams_and_connection.Goals as goal

pub returns-in_default : goal.returns-in_default
unfolding table
returns-in_default c low high = unlisted_in 0x000d 0x0018 (0x17 ∷ 0x16 ∷ 0x15 ∷ 0x14 ∷ 0x13 ∷ 0x12 ∷ 0x11 ∷ 0x10 ∷ 0xf ∷ 0xe ∷ 0xd ∷ []) _ refl low high (search rules) _
