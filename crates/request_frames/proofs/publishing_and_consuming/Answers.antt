-- A key of the range that is none of the listed ones.
use mathlib.Core.Path.{refl}
use mathlib.Core.List.{[], ◌∷◌}
use native.Mathlib.Omega.{arith}
use borrow.Author.Rules.{rules}
use Rattle.protocol.specs.Table.{table}
use Rattle.slot_taker.proofs.Listing.{unlisted_in}
use Rattle.request_frames.proofs.publishing_and_consuming.Goals as goal

pub returns-in_default : goal.returns-in_default
unfolding table
returns-in_default c high = unlisted_in 0 0x000d (0xc ∷ 0xb ∷ 0xa ∷ 0x9 ∷ 0x8 ∷ 0x7 ∷ 0x6 ∷ 0x5 ∷ 0x4 ∷ 0x3 ∷ 0x2 ∷ 0x1 ∷ []) _ refl (omega arith) high (search rules) _
