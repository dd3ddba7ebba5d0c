-- What a Deliver is written as: where its chunk is refused, so is the frame; and else its pieces. Assumes nothing.
use mathlib.Core.Path.{◌≡◌, refl, ◌∙◌, sym, ap}
use mathlib.Core.List.{List, [], ◌∷◌, ◌++◌, append_assoc, append-nil}
use Prim.Native.Nat.{ℕ, ◌+◌, ◌≤◌}
use native.Mathlib.Omega.{arith}
use lib.ListN.{length, take, drop}
use lib.Seq.{get_or-drop, drop-drop}
use Rattle.std.proofs.lemmas.List.{take_all, length-drop}
use Rattle.wire.specs.Buffer.{Holds, holds}
use Rattle.wire.specs.Integers.{digits}
use Rattle.wire.specs.Signed.{unsigned}
use Rattle.wire.proofs.Splice.{copied_there}
use Rattle.protocol.specs.Fields.{place, bytes_at}
use Rattle.protocol.specs.Kinds as K
use Rattle.protocol.specs.Table.{table, row_in}
use Rattle.protocol.specs.declared.chunk.ChunkHeader.{ChunkHeader}
use Rattle.protocol.specs.declared.place.Place.{Place}
use Rattle.rules.specs.Grammar.{encode_header}
use Rattle.rules.specs.Writing.{Encoding, wrote, refuse, unwritten, write_field}
use Rattle.byte_strings.specs.Stops.{refusal_of}
use Rattle.fields.specs.Passes.{behind, copied_behind, put_header}
use Rattle.fields.proofs.Encodings.{fits}
use Rattle.slots.specs.Unflat.{slot, unflat_field, unflat_header}
use Rattle.slot_writing.proofs.ChunkChecks.{ChunkWritten, chunk_length}
use Rattle.fast_writing.specs.Answer.{write_row_of}
use Rattle.fast_writing.proofs.Chain.{joined, puts, number_front, Encodes}
use Rattle.fast_writing.proofs.Encoded.{row_written}

-- The twelve numbers of a header, and the data.
abbrev pieces : ChunkHeader → List ℕ → List (List ℕ)
pieces h b =
    digits 1 (unsigned 1 h.magic) ∷ digits 1 (unsigned 1 h.chunk_type) ∷ digits 2 h.entries ∷ digits 4 h.records
    ∷ digits 8 (unsigned 8 h.timestamp) ∷ digits 8 h.epoch ∷ digits 8 h.first_offset ∷ digits 4 (unsigned 4 h.checksum)
    ∷ digits 4 h.data_length ∷ digits 4 h.trailer_length ∷ digits 1 h.bloom_size ∷ digits 3 h.reserved
    ∷ b ∷ []

in_pieces : (h : ChunkHeader) (b : List ℕ) → encode_header h ++ b ≡ joined (pieces h b)
in_pieces h b = simp (append_assoc, append-nil)

-- A chunk whose data is there, put behind what was put before.
pub chunk_next : (src : List ℕ) (h : ChunkHeader) (p : Place) (o q : List ℕ) (n m : ℕ) (x : Holds) → p.at + p.len ≤ length src → holds o n ≡ x → holds q m ≡ copied_behind src p (put_header h (holds o n)) → holds q m ≡ puts (pieces h (bytes_at src p)) x
chunk_next src h p o q n m x l i j =
    j
    ∙ copied_there (put_header h (holds o n)).bytes (put_header h (holds o n)).next src p.at p.len l
    ∙ ap (λ (y : Holds). behind (bytes_at src p) (put_header h y)) i

-- The slots of the chunk are the last of the twenty-four.
pub chunk_slots : (s : List ℕ) → length s ≡ 24 → take 21 (drop 3 s) ≡ drop 3 s
chunk_slots s h = take_all 21 (drop 3 s) (omega (arith, length-drop 3 s))

module _ (s src : List ℕ) (id : slot s 2 ≤ 0xff) (w : ChunkWritten src (unflat_header (drop 3 s)) (place (slot (drop 3 s) 12) (slot (drop 3 s) 13))) where
  abbrev chunk : List (List ℕ)
  chunk = pieces (unflat_header (drop 3 s)) (take (slot (drop 3 s) 13) (drop (slot (drop 3 s) 12) src))

  abbrev all : List (List ℕ)
  all = digits 1 (slot s 2) ∷ chunk

  deliver_written : row_written 0x0008 s src ≡ wrote (joined all)
  unfolding row_in table
  deliver_written =
      let first : slot (drop 2 s) 0 ≡ slot s 2 = get_or-drop 2 s 0 0 in
      let rest : drop 1 (drop 2 s) ≡ drop 3 s = drop-drop 1 2 s in
      rw (first, rest, fits 1 0xff (slot s 2) (omega arith) id, w.is)
      (ap (λ (b : List ℕ). wrote (digits 1 (slot s 2) ++ b)) (append-nil _ ∙ in_pieces (unflat_header (drop 3 s)) (take (slot (drop 3 s) 13) (drop (slot (drop 3 s) 12) src))))

  pub deliver_row : Encodes (row_written 0x0008 s src) all (53 + slot s 16)
  deliver_row =
      let l : length (joined all) ≡ 1 + length (joined chunk) = number_front 1 (slot s 2) _ _ refl in
      let k : length (joined chunk) ≡ 48 + slot (drop 3 s) 13 = sym (ap length (in_pieces (unflat_header (drop 3 s)) _)) ∙ chunk_length src (unflat_header (drop 3 s)) (place (slot (drop 3 s) 12) (slot (drop 3 s) 13)) w.inside in
      let m : slot (drop 3 s) 13 ≡ slot s 16 = get_or-drop 3 s 13 0 in
      record { is = deliver_written; sized = omega (arith, l, k, m) }

-- ---- A chunk that is refused

refused_with : (w : Encoding) (r : ℕ) → r ≡ refusal_of w → (r ≡ 0 → ⊥) → w ≡ refuse r
refused_with (wrote b) r e z = absurd (z e)
refused_with (refuse n) r e z = ap refuse (sym e)

pub deliver_refused : (s src : List ℕ) (limit : ℕ) (out : List ℕ) (r : ℕ) → slot s 2 ≤ 0xff → r ≡ refusal_of (write_field K.chunk src (unflat_field K.chunk (drop 3 s))) → (r ≡ 0 → ⊥) → write_row_of 0x0008 1 s src limit out ≡ unwritten r out
unfolding row_in table
deliver_refused s src limit out r id e z =
    let first : slot (drop 2 s) 0 ≡ slot s 2 = get_or-drop 2 s 0 0 in
    let rest : drop 1 (drop 2 s) ≡ drop 3 s = drop-drop 1 2 s in
    rw (first, rest, fits 1 0xff (slot s 2) (omega arith) id, refused_with (write_field K.chunk src (unflat_field K.chunk (drop 3 s))) r e z)
