-- The slots of a chunk's header, of its numbers as they are read. Assumes nothing.
use mathlib.Core.Path.{◌≡◌, ◌∙◌, ap}
use mathlib.Core.List.{List, [], ◌∷◌, ◌++◌}
use Prim.Native.Nat.{ℕ, ◌+◌, ◌^◌, ◌<◌, ◌≤◌}
use native.Mathlib.Omega.{arith}
use lib.ListN.{length}
use Rattle.wire.specs.Integers.{Bytes, big_endian, number_or_zero}
use Rattle.wire.specs.Signed.{signed}
use Rattle.wire.proofs.TwosComplement.{twos_complement}
use Rattle.wire.proofs.Widths.{integers, or_zero_lem}
use Rattle.protocol.specs.Fields.{place}
use Rattle.rules.specs.Reading.{header_at}
use Rattle.slots.specs.Flat.{bits, flat_header, flat_place}

module _ (s : List ℕ) (at base : ℕ) (bytes : Bytes s) (long : at + 48 ≤ length s) where
  there : (n k v : ℕ) → k + n ≤ 48 → v ≡ number_or_zero n s (at + k) → v ≡ big_endian n s (at + k)
  there n k v h e = e ∙ or_zero_lem n s (at + k) (omega (arith, long, h))

  pub fits : (n k v : ℕ) → k + n ≤ 48 → v ≡ number_or_zero n s (at + k) → v < 256 ^ n
  fits n k v h e = rw (there n k v h e) ((integers n).range s (at + k) bytes)

  -- A signed number's bits, of its bytes.
  bits_there : (n k w v : ℕ) → k + n ≤ 48 → v ≡ number_or_zero n s (at + k) → w ≡ bits (signed n v) → w ≡ bits (signed n (big_endian n s (at + k)))
  bits_there n k w v h e f = f ∙ ap (λ (x : ℕ). bits (signed n x)) (there n k v h e)

  pub header_slots : (m₀ m t₀ t e r ts ep fo ck₀ ck dl tl bs rv dl2 : ℕ)
      → m₀ ≡ number_or_zero 1 s at → m ≡ bits (signed 1 m₀) → t₀ ≡ number_or_zero 1 s (at + 1) → t ≡ bits (signed 1 t₀) → e ≡ number_or_zero 2 s (at + 2) → r ≡ number_or_zero 4 s (at + 4)
      → ts ≡ number_or_zero 8 s (at + 8) → ep ≡ number_or_zero 8 s (at + 16) → fo ≡ number_or_zero 8 s (at + 24) → ck₀ ≡ number_or_zero 4 s (at + 32) → ck ≡ bits (signed 4 ck₀)
      → dl ≡ number_or_zero 4 s (at + 36) → tl ≡ number_or_zero 4 s (at + 40) → bs ≡ number_or_zero 1 s (at + 44) → rv ≡ number_or_zero 3 s (at + 45) → dl2 ≡ number_or_zero 4 s (at + 36)
      → m ∷ t ∷ e ∷ r ∷ ts ∷ ep ∷ fo ∷ ck ∷ dl ∷ tl ∷ bs ∷ rv ∷ (base + at + 48) ∷ dl2 ∷ [] ≡ flat_header (header_at s at) ++ flat_place (place (base + (at + 48)) (header_at s at).data_length)
  header_slots m₀ m t₀ t e r ts ep fo ck₀ ck dl tl bs rv dl2 i₀ i j₀ j a b c d f k₀ k g h l n o =
      let z : at + 0 ≡ at = omega arith in
      let same : bits (signed 8 (big_endian 8 s (at + 8))) ≡ big_endian 8 s (at + 8) = (twos_complement 7).unsigned_signed (big_endian 8 s (at + 8)) ((integers 8).range s (at + 8) bytes) in
      let sum : base + (at + 48) ≡ base + at + 48 = omega arith in
      let first : m ≡ bits (signed 1 (big_endian 1 s at)) = rw z at (bits_there 1 0 m m₀ (omega arith) (rw z i₀) i) in
      rw (
        first,
        bits_there 1 1 t t₀ (omega arith) j₀ j,
        there 2 2 e (omega arith) a,
        there 4 4 r (omega arith) b,
        there 8 8 ts (omega arith) c,
        there 8 16 ep (omega arith) d,
        there 8 24 fo (omega arith) f,
        bits_there 4 32 ck ck₀ (omega arith) k₀ k,
        there 4 36 dl (omega arith) g,
        there 4 40 tl (omega arith) h,
        there 1 44 bs (omega arith) l,
        there 3 45 rv (omega arith) n,
        there 4 36 dl2 (omega arith) o,
        same,
        sum,
      )
