-- Writing (01 "Which check comes first": key, version and field checks in the same order as in reading, then 2, then 12).
-- `src` is the lent source in which a frame's places are.
use Rattle.std.specs.Prelude.{Bool, true, false, cond, not, ◌&&◌, ◌||◌, List, [], ◌∷◌, ◌++◌, ℕ, ◌+◌, ◌-◌, ◌/◌, ◌^◌, eqb, ltb, leb, ℤ, pos, negsuc, length as len}
use Rattle.std.proofs.Math.Option.{Option, none, some}
use Rattle.wire.specs.Buffer.{splice}
use Rattle.wire.specs.Integers.{digits}
use Rattle.wire.specs.Signed as two's
use Rattle.protocol.specs.Decision.{Decision, layout, unlisted_key, unlisted_version, decide}
use Rattle.protocol.specs.Fields.{Field, Fields, place, bytes_at, outside}
use Rattle.protocol.specs.Kinds.{length_width, Kind, unsigned, signed, string, specification, list, chunk, Row, end, ◌·◌}
use Rattle.protocol.specs.Refusals.{frame_too_large, unknown_key, unknown_version, field_cut, bad_length, not_utf8, reference_too_long, value_not_admitted, bytes_left, no_room}
use Rattle.protocol.specs.Table.{row_of}
use Rattle.protocol.specs.declared.chunk.ChunkHeader.{ChunkHeader}
use Rattle.protocol.specs.declared.kind.Form.{Form}
use Rattle.protocol.specs.declared.offset.OffsetSpecification.{OffsetSpecification}
use Rattle.protocol.specs.declared.offset.OffsetSpecification.TheVariants.{None, First, Last, Next, Offset, Timestamp}
use Rattle.protocol.specs.declared.place.Place.{Place}
use Rattle.rules.specs.Outcome.{Outcome, got, refused, repeated}
use Rattle.rules.specs.Reading.{too_long, is_text, is_chunk_type, has_entries, read_entry, read_row, over_limit}
use Rattle.rules.specs.Grammar.{encode_header}

-- What a field is written as; or a refusal's number.
pub data Encoding : Type 0 where
  wrote : List ℕ → Encoding
  refuse : ℕ → Encoding

abbrev pub checked : Bool → ℕ → Encoding → Encoding
checked true n rest = refuse n
checked false n rest = rest

-- One field behind another. The first refusal is the answer.
abbrev pub followed : Encoding → Encoding → Encoding
followed (wrote a) (wrote b) = wrote (a ++ b)
followed (wrote a) (refuse n) = refuse n
followed (refuse n) rest = refuse n

-- A signed number fits n bytes.
abbrev pub fits_signed : ℕ → ℤ → Bool
fits_signed n (pos x) = ltb x (256 ^ n / 2)
fits_signed n (negsuc k) = ltb k (256 ^ n / 2)

-- A number that is not admitted, or too wide for its field: 10.
abbrev pub write_unsigned : ℕ → ℕ → ℕ → Encoding
write_unsigned n most x = checked (ltb most x || leb (256 ^ n) x) value_not_admitted (wrote (digits n x))

abbrev pub write_signed : ℕ → ℤ → Encoding
write_signed n z = checked (not (fits_signed n z)) value_not_admitted (wrote (digits n (two's.unsigned n z)))

-- Text, a reference or bytes: null or length (7), reference limit (9), place (6), UTF-8 (8). A null has no place to look at.
unfoldable pub write_string : Form → Bool → List ℕ → Option Place → Encoding
write_string form nullable src none = checked (not nullable) bad_length (wrote (digits (length_width form) (256 ^ length_width form - 1)))
write_string form nullable src (some p) =
    checked (leb (256 ^ length_width form / 2) p.len) bad_length
    (checked (too_long form p.len) reference_too_long
    (checked (outside p src) field_cut
    (checked (not (is_text form (bytes_at src p))) not_utf8
    (wrote (digits (length_width form) p.len ++ bytes_at src p)))))

-- An offset specification: type (10), and a number too wide (10).
unfoldable pub write_offset : Bool → OffsetSpecification → Encoding
write_offset admits_none None = checked (not admits_none) value_not_admitted (wrote (digits 2 0))
write_offset admits_none First = wrote (digits 2 1)
write_offset admits_none Last = wrote (digits 2 2)
write_offset admits_none Next = wrote (digits 2 3)
write_offset admits_none (Offset x) = checked (leb (256 ^ 8) x) value_not_admitted (wrote (digits 2 4 ++ digits 8 x))
write_offset admits_none (Timestamp z) = checked (not (fits_signed 8 z)) value_not_admitted (wrote (digits 2 5 ++ digits 8 (two's.unsigned 8 z)))

-- After encoded pieces were read from the start of a part: their refusal, or 11 if bytes are left behind the last.
abbrev pub used_up : Outcome Unit → List ℕ → Encoding → Encoding
used_up (got _ behind) part rest = checked (ltb behind (len part)) bytes_left rest
used_up (refused n at) part rest = refuse n

-- A list: count (7), place (6), then the elements as when read, and no bytes left (11).
unfoldable pub write_list : Row → List ℕ → ℕ → Place → Encoding
write_list row src n p =
    checked (leb 0x8000_0000 n) bad_length
    (checked (outside p src) field_cut
    (used_up (repeated (read_row row) n (bytes_at src p) 0) (bytes_at src p)
    (wrote (digits 4 n ++ bytes_at src p))))

-- The header's numbers fit their widths.
abbrev pub fits_header : ChunkHeader → Bool
fits_header h =
    fits_signed 1 h.magic
    && fits_signed 1 h.chunk_type
    && ltb h.entries (256 ^ 2)
    && ltb h.records (256 ^ 4)
    && fits_signed 8 h.timestamp
    && ltb h.epoch (256 ^ 8)
    && ltb h.first_offset (256 ^ 8)
    && fits_signed 4 h.checksum
    && ltb h.data_length (256 ^ 4)
    && ltb h.trailer_length (256 ^ 4)
    && ltb h.bloom_size 256
    && ltb h.reserved (256 ^ 3)

-- A chunk: type, and a header number too wide (10); the data's place (6); data shorter than the data length (6), longer
-- (11); and for type 0 records (10), then the entries as when read, and no bytes left (11).
unfoldable pub write_chunk : List ℕ → ChunkHeader → Place → Encoding
write_chunk src h p =
    checked (not (is_chunk_type h.chunk_type && fits_header h)) value_not_admitted
    (checked (outside p src) field_cut
    (checked (ltb p.len h.data_length) field_cut
    (checked (ltb h.data_length p.len) bytes_left
    (cond (has_entries h.chunk_type)
    (checked (not (eqb h.records h.entries)) value_not_admitted
    (used_up (repeated read_entry h.entries (bytes_at src p) 0) (bytes_at src p)
    (wrote (encode_header h ++ bytes_at src p))))
    (wrote (encode_header h ++ bytes_at src p))))))

-- A list or a chunk always has a place.
abbrev pub place_of : Option Place → Place
place_of none = place 0 0
place_of (some p) = p

abbrev pub write_field : Kind → List ℕ → Field Place → Encoding
write_field (unsigned n most) src f = write_unsigned n most f.number
write_field (signed n) src f = write_signed n f.integer
write_field (string form nullable) src f = write_string form nullable src f.octets
write_field (specification admits_none) src f = write_offset admits_none f.offset
write_field (list rule row) src f = write_list row src f.number (place_of f.octets)
write_field chunk src f = write_chunk src f.header (place_of f.octets)

abbrev pub write_row : Row → List ℕ → List (Field Place) → Encoding
write_row end src fs = wrote []
write_row (kind · row) src [] = wrote []
write_row (kind · row) src (f ∷ fs) = followed (write_field kind src f) (write_row row src fs)

-- The frame's length, or a refusal's number; and what the output holds afterwards.
pub data Written : Type 0 where
  length : ℕ → Written
  refusal : ℕ → Written

pub record Writing : Type 0 where
  pub answer : Written
  pub out : List ℕ

-- A refusal changes no byte of the output.
abbrev pub unwritten : ℕ → List ℕ → Writing
unwritten n out = record { answer = refusal n; out = out }

-- Behind the fields: Size above the limit or above 4,294,967,295 (2), output shorter than the frame (12). The frame is
-- Size, key, version and content, and only those bytes of the output are touched.
abbrev pub write_encoded : ℕ → ℕ → Encoding → ℕ → List ℕ → Writing
write_encoded key version (refuse n) limit out = unwritten n out
write_encoded key version (wrote content) limit out =
    cond (ltb 0xffff_ffff (4 + len content) || over_limit limit (4 + len content)) (unwritten frame_too_large out)
    (cond (ltb (len out) (8 + len content)) (unwritten no_room out)
    (record {
      answer = length (8 + len content);
      out = splice out 0 (digits 4 (4 + len content) ++ (digits 2 key ++ (digits 2 version ++ content)));
    }))

abbrev pub write_decided : Decision → Fields Place → List ℕ → ℕ → List ℕ → Writing
write_decided (layout key version) f src limit out = write_encoded key version (write_row (row_of key version) src f.content) limit out
write_decided unlisted_key f src limit out = unwritten unknown_key out
write_decided unlisted_version f src limit out = unwritten unknown_version out

-- A frame from a source, under a frame limit, into an output.
unfoldable pub write_frame : Fields Place → List ℕ → ℕ → List ℕ → Writing
write_frame f src limit out = write_decided (decide f.key f.version) f src limit out
