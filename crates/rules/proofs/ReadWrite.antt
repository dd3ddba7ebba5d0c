-- A frame that is read and then written from where it was read gives the same bytes: what is read is well formed and lies
-- in the source, so it is written as it is encoded, and those are the bytes that were read. Assumes nothing.
use mathlib.Core.Path.{◌≡◌, sym, ap, ap₂, subst, ◌∙◌}
use mathlib.Core.Bool.{true, false}
use mathlib.Core.List.{List, [], ◌++◌, append_assoc, map}
use Prim.Native.Nat.{ℕ, ◌+◌, ◌^◌, ◌≤◌, ◌<◌}
use native.Mathlib.Omega.{arith}
use lib.ListN.{length as len, take, drop, length-append}
use lib.Seq.{take_at}
use borrow.Author.Tests.{le-ltb}
use Rattle.wire.specs.Buffer.{splice}
use Rattle.wire.specs.Integers.{digits, big_endian}
use Rattle.wire.proofs.Widths.{integers}
use Rattle.protocol.specs.Fields.{Fields, value_in, values_in, PlacesEndBy}
use Rattle.protocol.specs.Frames.{fields_of}
use Rattle.protocol.specs.Table.{row_of}
use Rattle.protocol.specs.declared.place.Place.{Place}
use Rattle.rules.specs.Grammar.{encode_row, size_of, encode_frame, ValidFrame}
use Rattle.rules.specs.Reading.{over_limit}
use Rattle.rules.specs.RoundTrips.{writes, ReadThenWrite, WellFormedIsWritten}
use Rattle.rules.specs.Writing.{wrote, length, write_encoded, write_decided, write_frame}
use Rattle.rules.specs.Exactness.{Starts, frame_length}
use Rattle.rules.proofs.Listed.{chunk_last_row}
use Rattle.rules.proofs.WriteField.{writes_row}
use Rattle.rules.proofs.Inside.{inside, ends_later}
use Rattle.rules.proofs.Sound.{sound}

-- The frame is Size and as many bytes as it says.
frame_length_lem : (size : ℕ) (k v : ℕ) (c : List ℕ) → len (digits 4 size ++ (digits 2 k ++ (digits 2 v ++ c))) ≡ 8 + len c
frame_length_lem size k v c = simp (length-append, (integers 4).size, (integers 2).size) (omega arith)

-- Bytes put at the start of an output.
pub splice_start : (out b : List ℕ) → splice out 0 b ≡ b ++ drop (len b) out
unfolding splice
splice_start out b = let e : 0 + len b ≡ len b = omega arith in ap (λ n. b ++ drop n out) e

-- Behind the fields, where Size holds in four bytes and within the limit, and the output has room.
writes_encoded : (k v : ℕ) (c : List ℕ) (limit : ℕ) (out : List ℕ) → 4 + len c < 256 ^ 4 → over_limit limit (4 + len c) ≡ false → 8 + len c ≤ len out → write_encoded k v (wrote c) limit out ≡ writes (digits 4 (4 + len c) ++ (digits 2 k ++ (digits 2 v ++ c))) out
writes_encoded k v c limit out h o l =
    simp (le-ltb 0xffff_ffff (4 + len c) (omega (arith, h)), o, le-ltb (len out) (8 + len c) l)
    (ap₂ (λ n o. record { answer = length n; out = o }) (sym (frame_length_lem (4 + len c) k v c)) (splice_start out b))
  where
    b : List ℕ
    b = digits 4 (4 + len c) ++ (digits 2 k ++ (digits 2 v ++ c))

-- A well-formed frame whose places lie in the source is written as it is encoded.
writes_frame : (f : Fields Place) (src : List ℕ) (limit : ℕ) (out : List ℕ) → ValidFrame (values_in src f) → PlacesEndBy (len src) f.content → over_limit limit (size_of (values_in src f)) ≡ false → len (encode_frame (values_in src f)) ≤ len out → write_frame f src limit out ≡ writes (encode_frame (values_in src f)) out
unfolding write_frame
writes_frame f src limit out v i o l =
    ap (λ d. write_decided d f src limit out) v.listed
    ∙ ap (λ e. write_encoded f.key f.version e limit out) (writes_row (row_of f.key f.version) src f.content true (chunk_last_row f.key f.version) i v.content)
    ∙ writes_encoded f.key f.version c limit out v.size o (subst (λ n. n ≤ len out) (frame_length_lem (4 + len c) f.key f.version c) l)
  where
    c : List ℕ
    c = encode_row (row_of f.key f.version) (map (value_in src) f.content)

pub well_formed_is_written : WellFormedIsWritten
well_formed_is_written f src limit out v i o l = writes_frame (fields_of f) src limit out v i o l

-- What starts s is as long as s says.
module _ (s : List ℕ) (limit : ℕ) (v : Fields (List ℕ)) (h : Starts s limit v) where
  pub size_read : big_endian 4 s 0 ≡ size_of v
  size_read =
      ap (λ t. big_endian 4 t 0) (h.whole ∙ append_assoc (digits 4 (size_of v)) _ h.rest)
      ∙ (integers 4).read_written (size_of v) [] _ h.valid.size

  pub encoded_length : len (encode_frame v) ≡ frame_length s
  encoded_length =
      simp (length-append, (integers 4).size, (integers 2).size, size_read)
      (omega arith)

  pub encoded_bytes : take (frame_length s) s ≡ encode_frame v
  encoded_bytes = ap (take (frame_length s)) h.whole ∙ take_at (encode_frame v) h.rest (frame_length s) encoded_length

  whole_there : frame_length s ≤ len s
  whole_there = omega (arith, encoded_length, ap len h.whole, length-append (encode_frame v) h.rest)

pub read_then_write : ReadThenWrite
read_then_write s limit f out b e l =
    writes_frame f s limit out h.valid (ends_later (frame_length s) (len s) f.content (whole_there s limit (values_in s f) h) (inside s limit f e)) h.within (subst (λ n. n ≤ len out) (sym (encoded_length s limit (values_in s f) h)) l)
    ∙ ap (λ t. writes t out) (sym (encoded_bytes s limit (values_in s f) h))
  where
    h : Starts s limit (values_in s f)
    h = sound s limit f b e
