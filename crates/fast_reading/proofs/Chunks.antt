-- The slots of a chunk's header, of its numbers as they are read. Assumes nothing.
use mathlib.Core.Path.{◌≡◌}
use mathlib.Core.List.{List, [], ◌∷◌}
use Prim.Native.Nat.{ℕ, ◌+◌}
use Rattle.wire.specs.Integers.{Bytes, big_endian}
use Rattle.wire.specs.Signed.{signed}
use Rattle.wire.proofs.TwosComplement.{twos_complement}
use Rattle.wire.proofs.Widths.{integers}
use Rattle.rules.specs.Reading.{header_at}
use Rattle.slots.specs.Flat.{bits, flat_header}

-- A signed number of eight bytes has the bits that it is read from.
bits_8 : (s : List ℕ) (at : ℕ) → Bytes s → bits (signed 8 (big_endian 8 s at)) ≡ big_endian 8 s at
bits_8 s at b = (twos_complement 7).unsigned_signed (big_endian 8 s at) ((integers 8).range s at b)

module _ (s : List ℕ) (b : Bytes s) (at : ℕ) where
  pub header_slots : (m q n r t e f k d x y z : ℕ) → m ≡ bits (signed 1 (big_endian 1 s at)) → q ≡ bits (signed 1 (big_endian 1 s (at + 1))) → n ≡ big_endian 2 s (at + 2) → r ≡ big_endian 4 s (at + 4) → t ≡ big_endian 8 s (at + 8) → e ≡ big_endian 8 s (at + 16) → f ≡ big_endian 8 s (at + 24) → k ≡ bits (signed 4 (big_endian 4 s (at + 32))) → d ≡ big_endian 4 s (at + 36) → x ≡ big_endian 4 s (at + 40) → y ≡ big_endian 1 s (at + 44) → z ≡ big_endian 3 s (at + 45) → m ∷ q ∷ n ∷ r ∷ t ∷ e ∷ f ∷ k ∷ d ∷ x ∷ y ∷ z ∷ [] ≡ flat_header (header_at s at)
  header_slots m q n r t e f k d x y z i₀ i₁ i₂ i₃ i₄ i₅ i₆ i₇ i₈ i₉ i₁₀ i₁₁ =
      rw (bits_8 s (at + 8) b, i₀, i₁, i₂, i₃, i₄, i₅, i₆, i₇, i₈, i₉, i₁₀, i₁₁)
