-- A key of the range that is none of the listed ones.
use mathlib.Core.Path.{refl}
use mathlib.Core.List.{[], ◌∷◌}
use borrow.Author.Rules.{rules}
use Rattle.protocol.specs.Table.{table}
use Rattle.slot_taker.proofs.Listing.{unlisted_in}
use Rattle.response_frames.proofs.streams_and_connection.Goals as goal

pub returns-in_default : goal.returns-in_default
unfolding table
returns-in_default c low high = unlisted_in 0x800d 0x8018 (0x8016 ∷ 0x8015 ∷ 0x8014 ∷ 0x8013 ∷ 0x8012 ∷ 0x8011 ∷ 0x800f ∷ 0x800e ∷ 0x800d ∷ []) _ refl low high (search rules) _
