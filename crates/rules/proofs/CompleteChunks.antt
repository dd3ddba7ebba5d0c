-- A well-formed chunk that ends where s ends is read where its encoding stands: its header is twelve numbers one behind
-- another, and its entries are read as the elements of a list are. Assumes nothing.
use mathlib.Core.Path.{◌≡◌, refl, sym, ap, subst, ◌∙◌}
use mathlib.Core.Bool.{false}
use mathlib.Core.List.{List, ◌++◌}
use mathlib.Core.Logic.{◌⊎◌, inl, inr}
use Prim.Native.Nat.{ℕ, suc, ◌+◌, ◌^◌, ◌<◌}
use native.Mathlib.Omega.{arith}
use lib.Dec.{ltb}
use lib.IntN.{ℤ, pos}
use lib.ListN.{length, length-append}
use borrow.Author.Tests.{le-ltb, lt-leb, eq-eqb}
use Rattle.wire.specs.Integers.{digits, big_endian}
use Rattle.wire.specs.Signed as two's
use Rattle.wire.proofs.TwosComplement.{twos_complement}
use Rattle.wire.proofs.Widths.{integers}
use Rattle.protocol.specs.Fields.{place, bytes_at}
use Rattle.protocol.specs.Fields as F
use Rattle.protocol.specs.declared.chunk.ChunkHeader.{ChunkHeader}
use Rattle.rules.specs.Grammar.{encode_header, Pieces, Length, ValidHeader, Entry, ValidChunk}
use Rattle.rules.specs.Outcome.{got}
use Rattle.rules.specs.Reading.{header_at, read_entry, read_entries, read_data, read_headed, read_chunk}
use Rattle.rules.proofs.CompleteFields.{Reads, PieceRead, in_half, number_first, behind_number, number_read, pieces_read}
use Rattle.rules.proofs.Parts.{Part, first_part, second_part, part_number, taken}

-- Types are 0, 1, 2.
abbrev pub KnownType : ℤ → Type 0
KnownType z = (z ≡ pos 0) ⊎ ((z ≡ pos 1) ⊎ (z ≡ pos 2))

pub type_fits : (z : ℤ) → KnownType z → two's.Signed 1 z
type_fits z (inl e) = rw e (omega arith)
type_fits z (inr (inl e)) = rw e (omega arith)
type_fits z (inr (inr e)) = rw e (omega arith)

header_length : (h : ChunkHeader) → length (encode_header h) ≡ 48
header_length h = simp (length-append, (integers 1).size, (integers 2).size, (integers 3).size, (integers 4).size, (integers 8).size)

module _ (s : List ℕ) where
  -- An entry is read as the place of its message.
  pub message_read : (b : List ℕ) (at next : ℕ) → Length 4 (length b) → Part s at (digits 4 (length b) ++ b) next → (read_entry s at ≡ got (place (at + 4) (length b)) next) × (bytes_at s (place (at + 4) (length b)) ≡ b)
  unfolding read_entry
  message_read b at next l r =
      let n : ℕ = length b in
      let q : Part s (at + 4) b next = behind_number s 4 n at (at + 4) next b refl r in
      (rw (number_read s 4 n at (at + 4) (in_half 4 n l) (number_first s 4 n at next b r), lt-leb 0x8000_0000 n l, q.long, le-ltb (length s) next q.within), taken s (at + 4) next n b q q.long)

  pub entry_read : PieceRead s Entry read_entry
  entry_read a at next (b, l, e) p = (place (at + 4) (length b), (message_read b at next l (subst (λ t. Part s at t next) e p)).0)

  -- A number that others follow, and those.
  pub next_number : (n x at mid next : ℕ) (e : List ℕ) → x < 256 ^ n → at + n ≡ mid → Part s at (digits n x ++ e) next → (big_endian n s at ≡ x) × Part s mid e next
  next_number n x at mid next e l m p =
      (part_number s n x at (at + n) l (number_first s n x at next e p), behind_number s n x at mid next e m p)

  next_integer : (n : ℕ) (z : ℤ) (at mid next : ℕ) (e : List ℕ) → two's.Signed (suc n) z → at + suc n ≡ mid → Part s at (digits (suc n) (two's.unsigned (suc n) z) ++ e) next → (two's.signed (suc n) (big_endian (suc n) s at) ≡ z) × Part s mid e next
  next_integer n z at mid next e l m p =
      let q = next_number (suc n) (two's.unsigned (suc n) z) at mid next e ((twos_complement n).bits z l) m p in
      (ap (two's.signed (suc n)) q.0 ∙ (twos_complement n).signed_unsigned z l, q.1)

  header_read : (h : ChunkHeader) (at next : ℕ) → ValidHeader h → Part s at (encode_header h) next → header_at s at ≡ h
  header_read h at next v p =
      let magic = next_integer 0 h.magic at (at + 1) next _ v.magic refl p in
      let type = next_integer 0 h.chunk_type (at + 1) (at + 2) next _ (type_fits h.chunk_type v.type) (omega arith) magic.1 in
      let entries = next_number 2 h.entries (at + 2) (at + 4) next _ v.entries (omega arith) type.1 in
      let records = next_number 4 h.records (at + 4) (at + 8) next _ v.records (omega arith) entries.1 in
      let timestamp = next_integer 7 h.timestamp (at + 8) (at + 16) next _ v.timestamp (omega arith) records.1 in
      let epoch = next_number 8 h.epoch (at + 16) (at + 24) next _ v.epoch (omega arith) timestamp.1 in
      let first = next_number 8 h.first_offset (at + 24) (at + 32) next _ v.first_offset (omega arith) epoch.1 in
      let checksum = next_integer 3 h.checksum (at + 32) (at + 36) next _ v.checksum (omega arith) first.1 in
      let len = next_number 4 h.data_length (at + 36) (at + 40) next _ v.data_length (omega arith) checksum.1 in
      let trailer = next_number 4 h.trailer_length (at + 40) (at + 44) next _ v.trailer_length (omega arith) len.1 in
      let bloom = next_number 1 h.bloom_size (at + 44) (at + 45) next _ v.bloom_size (omega arith) trailer.1 in
      let reserved = part_number s 3 h.reserved (at + 45) next v.reserved bloom.1 in
      rw (magic.0, type.0, entries.0, records.0, timestamp.0, epoch.0, first.0, checksum.0, len.0, trailer.0, bloom.0, reserved)

  -- Nothing is left behind what reaches to the end.
  none_left : ltb (length s) (length s) ≡ false
  none_left = le-ltb (length s) (length s) (omega arith)

  entries_read : (n at : ℕ) (e : List ℕ) → Pieces Entry n e → Part s (at + 48) e (length s) → read_entries n n s at ≡ got tt (length s)
  unfolding read_entries
  entries_read n at e pieces p =
      rw (eq-eqb n n refl, pieces_read s Entry read_entry entry_read n e (at + 48) (length s) pieces p, none_left)

  data_read : (h : ChunkHeader) (e : List ℕ) (at : ℕ) → ValidChunk h e → Part s (at + 48) e (length s) → read_data h.chunk_type h.entries h.records h.data_length s at ≡ got tt (length s)
  unfolding read_data
  data_read h e at v p = by v.header.type
    where
      same : at + 48 + h.data_length ≡ length s
      same = ap (λ n. at + 48 + n) (sym v.as_long) ∙ p.long

      by : KnownType h.chunk_type → read_data h.chunk_type h.entries h.records h.data_length s at ≡ got tt (length s)
      by (inl z) = rw (z, same, none_left, (v.entries z).0) (entries_read h.entries at e (v.entries z).1 p)
      by (inr (inl z)) = rw (z, same, none_left)
      by (inr (inr z)) = rw (z, same, none_left)

  pub chunk_read : (h : ChunkHeader) (e : List ℕ) (at : ℕ) → ValidChunk h e → Part s at (encode_header h ++ e) (length s) → Reads s (length s) (F.chunk h e) (read_chunk s at)
  unfolding read_chunk
  chunk_read h e at v p =
      let m : at + length (encode_header h) ≡ at + 48 = ap (λ n. at + n) (header_length h) in
      let q : Part s (at + 48) e (length s) = second_part s at (at + 48) (length s) (encode_header h) e m p in
      let r : header_at s at ≡ h = header_read h at (at + 48) v.header (first_part s at (at + 48) (length s) (encode_header h) e m p) in (
        F.chunk h (place (at + 48) h.data_length),
        rw (le-ltb (length s) (at + 48) (omega (arith, q.long))) (ap (λ g. read_headed g s at) r ∙ rw (data_read h e at v q)),
        ap (F.chunk h) (taken s (at + 48) (length s) h.data_length e q (ap (λ n. at + 48 + n) (sym v.as_long) ∙ q.long)),
      )
