-- A chunk that is read is well formed and is what the bytes encode: its header is twelve numbers one behind another, and
-- its entries are read as the elements of a list are. Assumes nothing.
use mathlib.Core.Path.{◌≡◌, refl, sym, ap, subst, ◌∙◌}
use mathlib.Core.Bool.{Bool, true, false, cond, not}
use mathlib.Core.List.{List, ◌++◌}
use mathlib.Core.Logic.{◌⊎◌, inl, inr}
use Prim.Native.Nat.{ℕ, zero, suc, ◌+◌, ◌≤◌, ◌<◌}
use native.Mathlib.Omega.{arith}
use lib.Dec.{eqb, ltb, leb}
use lib.IntN.{ℤ, pos, negsuc}
use lib.ListN.{length, take, drop}
use borrow.Author.Tests.{ltb-false, leb-true, leb-false, eqb-true, not-false}
use Rattle.wire.specs.Integers.{Bytes, digits, big_endian}
use Rattle.wire.specs.Signed as two's
use Rattle.wire.proofs.Widths.{integers}
use Rattle.wire.proofs.TwosComplement.{twos_complement}
use Rattle.protocol.specs.Kinds.{chunk}
use Rattle.protocol.specs.declared.chunk.ChunkHeader.{ChunkHeader}
use Rattle.rules.specs.Outcome.{repeated}
use Rattle.rules.specs.Grammar.{encode_header, Pieces, Length, Valid, Entry, ValidHeader}
use Rattle.rules.specs.Reading.{header_at, is_chunk_type, has_entries, read_entry, read_entries, read_data, read_headed, read_chunk}
use Rattle.rules.proofs.Gives.{Gives, check, choice, after, after_number, weaker}
use Rattle.rules.proofs.Parts.{Part, joined, there, taken, number_part, length_part}
use Rattle.rules.proofs.SoundFields.{Sound, Piece, Pieced, sound_repeated, signed_there}

-- Types are 0, 1, 2.
pub types : (z : ℤ) → is_chunk_type z ≡ true → (z ≡ pos 0) ⊎ ((z ≡ pos 1) ⊎ (z ≡ pos 2))
types (pos zero) e = inl refl
types (pos (suc zero)) e = inr (inl refl)
types (pos (suc (suc zero))) e = inr (inr refl)
types (pos (suc (suc (suc n)))) e = absurd (let h : suc (suc (suc n)) ≤ 2 = leb-true _ _ e in omega (arith, h))
types (negsuc k) e = absurd (subst (λ (t : Bool). cond t ⊥ Unit) e tt)

module _ (s : List ℕ) (b : Bytes s) where
  pub sound_entry : (at : ℕ) → at ≤ length s → Gives (Piece s b Entry at) (read_entry s at)
  unfolding read_entry
  sound_entry at _ =
      after_number (Piece s b Entry at) 4 s at _ (λ h.
      check (Piece s b Entry at) (leb 0x8000_0000 (big_endian 4 s at)) 10 at _ (λ t.
      check (Piece s b Entry at) (ltb (length s) (at + 4 + big_endian 4 s at)) 6 at _ (λ e.
      message (big_endian 4 s at) (leb-false _ _ t) (ltb-false _ _ e) (number_part s 4 at b h))))
    where
      message : (n : ℕ) → n < 0x8000_0000 → at + 4 + n ≤ length s → Part s at (digits 4 n) (at + 4) → (a : List ℕ) × Entry a × Part s at a (at + 4 + n)
      message n l h p =
          let g : length (take n (drop (at + 4) s)) ≡ n = length_part n (at + 4) s h in
          let m : Length 4 (length (take n (drop (at + 4) s))) = rw g l in
          (digits 4 n ++ take n (drop (at + 4) s), (take n (drop (at + 4) s), m, rw g), joined s at (at + 4) (at + 4 + n) (digits 4 n) (take n (drop (at + 4) s)) p (there s n (at + 4) h))

  -- What is known behind the entries, and behind the whole data.
  abbrev EntriesRead : ℕ → ℕ → ℕ → ℕ → Type 0
  EntriesRead entries records len at = (records ≡ entries) × Pieces Entry entries (take len (drop (at + 48) s))

  abbrev DataRead : ℤ → ℕ → ℕ → ℕ → ℕ → Unit {0} → ℕ → Type 0
  DataRead type entries records len at _ next =
      (is_chunk_type type ≡ true) × (at + 48 + len ≡ next) × (next ≤ length s) × (type ≡ pos 0 → EntriesRead entries records len at)

  sound_entries : (entries records len at : ℕ) → at + 48 + len ≡ length s → Gives (λ _ next. (next ≡ length s) × EntriesRead entries records len at) (read_entries entries records s at)
  unfolding read_entries
  sound_entries entries records len at l =
      check R (not (eqb records entries)) 10 (at + 4) _ (λ q.
      after R (Pieced s b Entry entries (at + 48)) (repeated read_entry entries s (at + 48)) _
      (sound_repeated s b Entry read_entry sound_entry entries (at + 48) (begins len l))
      (λ _ last p.
      check R (ltb last (length s)) 11 last _ (λ e.
      let f : last ≡ length s = meet last (ltb-false _ _ e) p.2.within in
      let t : take len (drop (at + 48) s) ≡ p.0 = taken s (at + 48) last len p.0 p.2 (l ∙ sym f) in
      (f, (eqb-true _ _ (not-false _ q), subst (Pieces Entry entries) (sym t) p.1)))))
    where
      R : Unit {0} → ℕ → Type 0
      R _ next = (next ≡ length s) × EntriesRead entries records len at

      begins : (len : ℕ) → at + 48 + len ≡ length s → at + 48 ≤ length s
      begins len l = omega (arith, l)

      meet : (last : ℕ) → length s ≤ last → last ≤ length s → last ≡ length s
      meet last h k = omega (arith, h, k)

  sound_data : (type : ℤ) (entries records len at : ℕ) → Gives (DataRead type entries records len at) (read_data type entries records len s at)
  unfolding read_data
  sound_data type entries records len at =
      check D (not (is_chunk_type type)) 10 (at + 1) _ (λ t.
      check D (ltb (length s) (at + 48 + len)) 6 (at + 48) _ (λ e.
      check D (ltb (at + 48 + len) (length s)) 11 (at + 48 + len) _ (λ f.
      let l : at + 48 + len ≡ length s = meet (at + 48 + len) (length s) (ltb-false _ _ e) (ltb-false _ _ f) in
      choice (Gives D) (has_entries type) _ _
      (λ _.
      weaker (λ _ next. (next ≡ length s) × EntriesRead entries records len at) D (read_entries entries records s at)
      (λ _ next r. (not-false _ t, l ∙ sym r.0, at_most r.0, λ _. r.1))
      (sound_entries entries records len at l))
      (λ z. (not-false _ t, l, omega arith, λ y. absurd (other type y z))))))
    where
      D : Unit {0} → ℕ → Type 0
      D = DataRead type entries records len at

      meet : (m n : ℕ) → m ≤ n → n ≤ m → m ≡ n
      meet m n h k = omega (arith, h, k)

      at_most : {m n : ℕ} → m ≡ n → m ≤ n
      at_most h = omega (arith, h)

      other : (z : ℤ) → z ≡ pos 0 → has_entries z ≡ false → ⊥
      other z y e = subst (λ (t : Bool). cond t Unit ⊥) (sym (ap has_entries y) ∙ e) tt

  -- A number of the header.
  plain : (n at next : ℕ) → at + n ≡ next → next ≤ length s → Part s at (digits n (big_endian n s at)) next
  plain n at next e h =
      subst (λ (k : ℕ). Part s at (digits n (big_endian n s at)) k) e (number_part s n at b (subst (λ (k : ℕ). k ≤ length s) (sym e) h))

  with_sign : (n at next : ℕ) → at + suc n ≡ next → next ≤ length s → Part s at (digits (suc n) (two's.unsigned (suc n) (two's.signed (suc n) (big_endian (suc n) s at)))) next
  with_sign n at next e h =
      subst (λ (k : ℕ). Part s at (digits (suc n) (two's.unsigned (suc n) (two's.signed (suc n) (big_endian (suc n) s at)))) k) e (signed_there s b n at (subst (λ (k : ℕ). k ≤ length s) (sym e) h)).1

  header_part : (at : ℕ) → at + 48 ≤ length s → Part s at (encode_header (header_at s at)) (at + 48)
  header_part at h =
      joined s at (at + 1) (at + 48) _ _ (with_sign 0 at (at + 1) refl (omega (arith, h)))
      (joined s (at + 1) (at + 2) (at + 48) _ _ (with_sign 0 (at + 1) (at + 2) (omega arith) (omega (arith, h)))
      (joined s (at + 2) (at + 4) (at + 48) _ _ (plain 2 (at + 2) (at + 4) (omega arith) (omega (arith, h)))
      (joined s (at + 4) (at + 8) (at + 48) _ _ (plain 4 (at + 4) (at + 8) (omega arith) (omega (arith, h)))
      (joined s (at + 8) (at + 16) (at + 48) _ _ (with_sign 7 (at + 8) (at + 16) (omega arith) (omega (arith, h)))
      (joined s (at + 16) (at + 24) (at + 48) _ _ (plain 8 (at + 16) (at + 24) (omega arith) (omega (arith, h)))
      (joined s (at + 24) (at + 32) (at + 48) _ _ (plain 8 (at + 24) (at + 32) (omega arith) (omega (arith, h)))
      (joined s (at + 32) (at + 36) (at + 48) _ _ (with_sign 3 (at + 32) (at + 36) (omega arith) (omega (arith, h)))
      (joined s (at + 36) (at + 40) (at + 48) _ _ (plain 4 (at + 36) (at + 40) (omega arith) (omega (arith, h)))
      (joined s (at + 40) (at + 44) (at + 48) _ _ (plain 4 (at + 40) (at + 44) (omega arith) (omega (arith, h)))
      (joined s (at + 44) (at + 45) (at + 48) _ _ (plain 1 (at + 44) (at + 45) (omega arith) (omega (arith, h)))
      (plain 3 (at + 45) (at + 48) (omega arith) h)))))))))))

  header_valid : (at : ℕ) → is_chunk_type (two's.signed 1 (big_endian 1 s (at + 1))) ≡ true → ValidHeader (header_at s at)
  header_valid at t =
      record {
        magic = fits 0 at;
        type = types _ t;
        entries = (integers 2).range s (at + 2) b;
        records = (integers 4).range s (at + 4) b;
        timestamp = fits 7 (at + 8);
        epoch = (integers 8).range s (at + 16) b;
        first_offset = (integers 8).range s (at + 24) b;
        checksum = fits 3 (at + 32);
        data_length = (integers 4).range s (at + 36) b;
        trailer_length = (integers 4).range s (at + 40) b;
        bloom_size = (integers 1).range s (at + 44) b;
        reserved = (integers 3).range s (at + 45) b;
      }
    where
      fits : (n from : ℕ) → two's.Signed (suc n) (two's.signed (suc n) (big_endian (suc n) s from))
      fits n from = (twos_complement n).fits (big_endian (suc n) s from) ((integers (suc n)).range s from b)

  sound_headed : (h : ChunkHeader) (at : ℕ) → Part s at (encode_header h) (at + 48) → (is_chunk_type h.chunk_type ≡ true → ValidHeader h) → Gives (Sound s b chunk at) (read_headed h s at)
  unfolding Valid
  sound_headed h at p v =
      after (Sound s b chunk at) (DataRead h.chunk_type h.entries h.records h.data_length at) (read_data h.chunk_type h.entries h.records h.data_length s at) _
      (sound_data h.chunk_type h.entries h.records h.data_length at) (λ _ last r.
      let l : at + 48 + h.data_length ≤ length s = subst (λ (k : ℕ). k ≤ length s) (sym r.1) r.2 in
      let q : Part s (at + 48) (take h.data_length (drop (at + 48) s)) last = subst (λ (k : ℕ). Part s (at + 48) (take h.data_length (drop (at + 48) s)) k) r.1 (there s h.data_length (at + 48) l) in (
        (take h.data_length (drop (at + 48) s), refl, record { header = v r.0; as_long = length_part h.data_length (at + 48) s l; entries = r.3 }),
        joined s at (at + 48) last (encode_header h) (take h.data_length (drop (at + 48) s)) p q,
      ))

  pub sound_chunk : (at : ℕ) → Gives (Sound s b chunk at) (read_chunk s at)
  unfolding read_chunk
  sound_chunk at =
      check (Sound s b chunk at) (ltb (length s) (at + 48)) 6 at _ (λ e.
      sound_headed (header_at s at) at (header_part at (ltb-false _ _ e)) (header_valid at))
