-- What was read comes back from its slots as it was: every number fits the width that it is cut to, and every place ends
-- within the input, so none has the length that stands for null. Assumes nothing.
use mathlib.Core.Path.{◌≡◌, refl, ◌∙◌, sym, ap, ap₂}
use mathlib.Core.Bool.{true, false}
use mathlib.Core.List.{List, [], ◌∷◌, ◌++◌, append_assoc, map}
use Prim.Native.Nat.{ℕ, ◌+◌, ◌-◌, ◌%◌, ◌^◌, ◌<◌, ◌≤◌}
use native.Mathlib.Nat.{mod-eq_of_lt}
use native.Mathlib.Omega.{arith}
use lib.Dec.{eqb}
use lib.IntN.{ℤ, pos, negsuc}
use lib.ListN.{length, get_or, replicate}
use Rattle.wire.proofs.TwosComplement.{twos_complement}
use Rattle.wire.proofs.Widths.{integers}
use Rattle.wire.specs.Integers.{Bytes}
use Rattle.wire.specs.Signed as two's
use Rattle.protocol.specs.Decision.{Decision}
use Rattle.protocol.specs.Fields.{Field, Fields, number, value_in, EndsBy, PlacesEndBy}
use Rattle.protocol.specs.Fields as F
use Rattle.protocol.specs.Kinds.{Kind, unsigned, signed, string, specification, list, chunk, Row, end, ◌·◌}
use Rattle.protocol.specs.Table.{row_of}
use Rattle.protocol.specs.declared.chunk.ChunkHeader.{ChunkHeader}
use Rattle.protocol.specs.declared.place.Place.{Place}
use Rattle.rules.specs.Grammar.{ValidHeader, Valid, ValidRow}
use Rattle.rules.specs.Exactness.{frame_length}
use Rattle.rules.specs.Reading.{Reading, frame, read_frame}
use Rattle.rules.proofs.Gives.{choice}
use Rattle.rules.proofs.CompleteChunks.{type_fits}
use Rattle.rules.proofs.Listed.{both, differ}
use Rattle.rules.proofs.Inside.{inside}
use Rattle.rules.proofs.Sound.{sound}
use Rattle.slots.specs.Flat.{null_length, flat_header, flat_place, flat_field, flat_row, padded, flat_frame, slots_after}
use Rattle.slots.proofs.Fields.{plain, plain_row, plain_table, offset_fits, of_kind, row_cases, no_more, no_fewer, told_octets}
use Rattle.slots.proofs.Inverse.{octets_back, offset_back, field_behind}
use Rattle.std.specs.Prelude.{Err}
use Rattle.frame_reading.specs.Answer.{Frame, told, said}
use Rattle.frame_reading.specs.declared.reading.ReadError.{ReadError}
use Rattle.frame_reading.specs.declared.reading.ReadError.TheVariants.{Short, Refused}
use Rattle.typed_frames.specs.Answer.{answer_of}
use Rattle.frame_reading.proofs.Told.{frame_told, refusal_told, short_told, slots_told}
use Rattle.slot_taker.specs.Typed.{cut, typed_header, typed_field, typed_row, typed_of, typed_fields}

-- ---- A chunk's header

-- The low bytes of the 64 bits of a number of fewer bytes are its bits.
low_byte : (z : ℤ) → two's.Signed 1 z → two's.unsigned 8 z % 256 ^ 1 ≡ two's.unsigned 1 z
unfolding two's.unsigned
low_byte (pos x) h = omega (arith, h)
low_byte (negsuc k) h = omega (arith, h)

low_four : (z : ℤ) → two's.Signed 4 z → two's.unsigned 8 z % 256 ^ 4 ≡ two's.unsigned 4 z
unfolding two's.unsigned
low_four (pos x) h = omega (arith, h)
low_four (negsuc k) h = omega (arith, h)

byte_back : (z : ℤ) → two's.Signed 1 z → two's.signed 1 (two's.unsigned 8 z % 256 ^ 1) ≡ z
byte_back z h = ap (two's.signed 1) (low_byte z h) ∙ (twos_complement 0).signed_unsigned z h

four_back : (z : ℤ) → two's.Signed 4 z → two's.signed 4 (two's.unsigned 8 z % 256 ^ 4) ≡ z
four_back z h = ap (two's.signed 4) (low_four z h) ∙ (twos_complement 3).signed_unsigned z h

reserved_fits : (x : ℕ) → x < 256 ^ 3 → x < 256 ^ 4
reserved_fits x h = omega (arith, h)

header_back : (h : ChunkHeader) (rest : List ℕ) → ValidHeader h → typed_header (flat_header h ++ rest) ≡ h
header_back h rest v =
    rw (
      byte_back h.magic v.magic,
      byte_back h.chunk_type (type_fits h.chunk_type v.type),
      mod-eq_of_lt v.entries,
      mod-eq_of_lt v.records,
      (twos_complement 7).signed_unsigned h.timestamp v.timestamp,
      four_back h.checksum v.checksum,
      mod-eq_of_lt v.data_length,
      mod-eq_of_lt v.trailer_length,
      mod-eq_of_lt v.bloom_size,
      mod-eq_of_lt (reserved_fits h.reserved v.reserved),
    )

-- ---- Fields

module _ (s : List ℕ) (m : ℕ) (below : m < null_length) where
  uncut : (most x : ℕ) → x ≤ most → cut most x ≡ x
  uncut most x h = choice (λ (y : ℕ). y ≡ x) (eqb most 0xffff_ffff_ffff_ffff) _ _ (λ _. refl) (λ _. mod-eq_of_lt (omega (arith, h)))

  field_back : (kind : Kind) (f : Field Place) (rest : List ℕ) → plain kind ≡ true → Valid kind (value_in s f) → EndsBy m f.octets → typed_field kind (flat_field kind f ++ rest) ≡ f
  unfolding Valid
  field_back (unsigned n most) f rest p v i = ap number (uncut most f.number v.1) ∙ sym (of_kind s (unsigned n most) f v)
  field_back (signed n) f rest p v i = absurd (differ p)
  field_back (string form nullable) f rest p v i = ap F.string (octets_back nullable f.octets rest (told_octets s m below form nullable f.octets v.1 i)) ∙ sym (of_kind s (string form nullable) f v)
  field_back (specification b) f rest p v i = ap F.offset (offset_back f.offset false rest (offset_fits b f.offset v.1)) ∙ sym (of_kind s (specification b) f v)
  field_back (list rule row) f rest p v i = let o = of_kind s (list rule row) f v in rw o.1
  field_back chunk f rest p v i = let o = of_kind s chunk f v in rw o.1 (ap (λ (x : ChunkHeader). F.chunk x o.0) (header_back f.header (flat_place o.0 ++ rest) v.2.header))

  -- The fields of a row, each of which comes back from its own slots.
  Back : Row → List (Field Place) → Type 0
  Back end [] = Unit
  Back end (f ∷ fs) = ⊥
  Back (kind · row) [] = ⊥
  Back (kind · row) (f ∷ fs) = ((rest : List ℕ) → typed_field kind (flat_field kind f ++ rest) ≡ f) × Back row fs

  row_valid : (row : Row) (fs : List (Field Place)) → plain_row row ≡ true → ValidRow row (map (value_in s) fs) → PlacesEndBy m fs → Back row fs
  unfolding Back
  row_valid end [] p v i = tt
  row_valid end (f ∷ fs) p v i = absurd (no_more s f fs v)
  row_valid (kind · row) [] p v i = absurd (no_fewer s kind row v)
  row_valid (kind · row) (f ∷ fs) p v i =
      let c = row_cases s kind row f fs v in
      let q = both (plain kind) (plain_row row) p in
      (λ rest. field_back kind f rest q.0 c.0 i.0, row_valid row fs q.1 c.1 i.1)

row_back : (s : List ℕ) (m : ℕ) (below : m < null_length) (row : Row) (fs : List (Field Place)) (rest : List ℕ) → Back s m below row fs → typed_row row (flat_row row fs ++ rest) ≡ fs
unfolding Back
row_back s m below end [] rest b = refl
row_back s m below end (f ∷ fs) rest b = absurd b
row_back s m below (kind · row) [] rest b = absurd b
row_back s m below (kind · row) (f ∷ fs) rest (b, bs) =
    ap (typed_row (kind · row)) (append_assoc (flat_field kind f) (flat_row row fs) rest)
    ∙ ap₂ (λ (a : Field Place) (l : List (Field Place)). a ∷ l) (b (flat_row row fs ++ rest)) (ap (typed_row row) (field_behind kind f (flat_row row fs ++ rest)) ∙ row_back s m below row fs rest bs)

-- A frame that was read comes back.
pub frame_back : (s : List ℕ) (limit : ℕ) (f : Fields Place) → Bytes s → read_frame s limit ≡ frame f → typed_fields f.key f.version (flat_frame f) ≡ f
unfolding typed_fields flat_frame padded
frame_back s limit f bytes e =
    let v = sound s limit f bytes e in
    let below : frame_length s < null_length = omega (arith, (integers 4).range s 0 bytes) in
    ap (λ (d : Decision). typed_of d (flat_frame f)) v.valid.listed
    ∙ ap (λ (c : List (Field Place)). record { key = f.key; version = f.version; content = c })
    (row_back s (frame_length s) below (row_of f.key f.version) f.content (replicate (24 - length (f.key ∷ f.version ∷ flat_row (row_of f.key f.version) f.content)) 0)
    (row_valid s (frame_length s) below (row_of f.key f.version) f.content (plain_table f.key f.version) v.valid.content (inside s limit f e)))

-- The typed frame of the slots of a frame that was read is that frame.
module _ (s : List ℕ) (limit : ℕ) (old new : List ℕ) (bytes : Bytes s) (t : Frame ≡ told (read_frame s limit)) (h : new ≡ slots_after old (read_frame s limit)) where
  read : (f : Fields Place) × (frame f ≡ read_frame s limit)
  read = frame_told (read_frame s limit) t

  slots : new ≡ flat_frame read.0
  slots = slots_told read.0 (read_frame s limit) old new read.1 h

  pub read_typed_lem : (g : Fields Place) → g ≡ typed_fields (get_or new 0 0) (get_or new 1 0) new → frame g ≡ read_frame s limit
  unfolding flat_frame padded
  read_typed_lem g e = ap frame (e ∙ ap (λ (x : List ℕ). typed_fields (get_or x 0 0) (get_or x 1 0) x) slots ∙ frame_back s limit read.0 bytes (sym read.1)) ∙ read.1

-- A refusal is told as it is.
pub refused_as_told : (e : ReadError) (r : Reading) → said {A = Unit} (Err e) ≡ told r → answer_of (Err e) ≡ r
refused_as_told (Short needed) r i = short_told r needed i
refused_as_told (Refused fault) r i = refusal_told r _ _ i
