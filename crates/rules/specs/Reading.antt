-- Reading (01 "Numbers and text on the wire", "Chunks", "Which check comes first"). `s` is the part that is read and
-- `at` the place reached in it. The place of a refusal is where the field at fault begins.
use Rattle.std.specs.Prelude.{Bool, true, false, cond, not, ◌&&◌, List, [], ◌∷◌, map, ℕ, zero, suc, ◌+◌, ◌-◌, eqb, ltb, leb, ℤ, pos, negsuc, length, take, drop}
use Rattle.std.proofs.Math.Option.{none, some}
use Rattle.wire.specs.Integers.{big_endian}
use Rattle.wire.specs.Signed as two's
use Rattle.utf8_text.specs.Utf8.{utf8}
use Rattle.protocol.specs.Decision.{Decision, layout, unlisted_key, unlisted_version, decide}
use Rattle.protocol.specs.Fields.{Field, Fields, number, integer, elements, place, over_places, further}
use Rattle.protocol.specs.Fields as F
use Rattle.protocol.specs.Kinds.{length_width, Kind, unsigned, signed, string, specification, list, chunk, Row, end, ◌·◌}
use Rattle.protocol.specs.Refusals.{frame_too_large, frame_too_small, unknown_key, unknown_version, field_cut, bad_length, not_utf8, reference_too_long, value_not_admitted, bytes_left}
use Rattle.protocol.specs.Table.{row_of}
use Rattle.protocol.specs.declared.chunk.ChunkHeader.{ChunkHeader}
use Rattle.protocol.specs.declared.kind.Form.{Form}
use Rattle.protocol.specs.declared.kind.Form.TheVariants.{Text, Reference, Bytes}
use Rattle.protocol.specs.declared.offset.OffsetSpecification.TheVariants.{None, First, Last, Next, Offset, Timestamp}
use Rattle.protocol.specs.declared.place.Place.{Place}
use Rattle.rules.specs.Outcome.{Outcome, got, refused, then, refuse_if, repeated}

-- A number of n bytes (6).
unfoldable pub read_number : ℕ → List ℕ → ℕ → Outcome ℕ
read_number n s at = refuse_if (ltb (length s) (at + n)) field_cut at (got (big_endian n s at) (at + n))

-- An unsigned number (6), admitted up to a largest value (10).
unfoldable pub read_unsigned : ℕ → ℕ → List ℕ → ℕ → Outcome (Field Place)
read_unsigned n most s at =
    then (read_number n s at) (λ x next.
    refuse_if (ltb most x) value_not_admitted at
    (got (number x) next))

-- A signed number (6).
unfoldable pub read_signed : ℕ → List ℕ → ℕ → Outcome (Field Place)
read_signed n s at = then (read_number n s at) (λ x next. got (integer (two's.signed n x)) next)

-- A reference is at most 256 bytes.
abbrev pub too_long : Form → ℕ → Bool
too_long Text n = false
too_long Reference n = ltb 256 n
too_long Bytes n = false

-- Text and references are UTF-8.
abbrev pub is_text : Form → List ℕ → Bool
is_text Text b = utf8 b
is_text Reference b = utf8 b
is_text Bytes b = true

-- Behind a length: the length (7), the reference limit (9), the body (6), UTF-8 (8). Length -1 means null.
unfoldable pub read_body : Form → Bool → List ℕ → ℕ → ℤ → ℕ → Outcome (Field Place)
read_body form nullable s at (pos n) next =
    refuse_if (too_long form n) reference_too_long at
    (refuse_if (ltb (length s) (next + n)) field_cut at
    (refuse_if (not (is_text form (take n (drop next s)))) not_utf8 at
    (got (F.string (some (place next n))) (next + n))))
read_body form nullable s at (negsuc zero) next = refuse_if (not nullable) bad_length at (got (F.string none) next)
read_body form nullable s at (negsuc (suc k)) next = refused bad_length at

-- Text, a reference or bytes: first the bytes of the length (6).
unfoldable pub read_string : Form → Bool → List ℕ → ℕ → Outcome (Field Place)
read_string form nullable s at =
    then (read_number (length_width form) s at) (λ x next.
    read_body form nullable s at (two's.signed (length_width form) x) next)

-- The eight bytes of an offset or a timestamp (6).
unfoldable pub read_offset : List ℕ → ℕ → Outcome (Field Place)
read_offset s at = then (read_number 8 s at) (λ x next. got (F.offset (Offset x)) next)

unfoldable pub read_timestamp : List ℕ → ℕ → Outcome (Field Place)
read_timestamp s at = then (read_number 8 s at) (λ x next. got (F.offset (Timestamp (two's.signed 8 x))) next)

-- Behind the type: types 1 to 5, and 0 where it is admitted (10); eight more bytes for 4 and 5, none otherwise.
unfoldable pub read_typed : Bool → List ℕ → ℕ → ℕ → ℕ → Outcome (Field Place)
read_typed admits_none s at type next =
    cond (eqb type 0) (refuse_if (not admits_none) value_not_admitted at (got (F.offset None) next))
    (cond (eqb type 1) (got (F.offset First) next)
    (cond (eqb type 2) (got (F.offset Last) next)
    (cond (eqb type 3) (got (F.offset Next) next)
    (cond (eqb type 4) (read_offset s next)
    (cond (eqb type 5) (read_timestamp s next)
    (refused value_not_admitted at))))))

-- An offset specification: two bytes (6), type (10), and the eight bytes of its number (6).
unfoldable pub read_specification : Bool → List ℕ → ℕ → Outcome (Field Place)
read_specification admits_none s at = then (read_number 2 s at) (λ type next. read_typed admits_none s at type next)

-- A list's count is never negative (7).
abbrev pub count_of : ℕ → ℤ → ℕ → Outcome ℕ
count_of at (pos n) next = got n next
count_of at (negsuc k) next = refused bad_length at

-- The count: four bytes (6), then its sign (7).
unfoldable pub read_count : List ℕ → ℕ → Outcome ℕ
read_count s at = then (read_number 4 s at) (λ x next. count_of at (two's.signed 4 x) next)

-- A list: the count, then each element in turn.
unfoldable pub read_list : (List ℕ → ℕ → Outcome (List (Field Place))) → List ℕ → ℕ → Outcome (Field Place)
read_list element s at =
    then (read_count s at) (λ n next.
    then (repeated element n s next) (λ _ behind.
    got (elements n (place next (behind - next))) behind))

-- A chunk's header, where its 48 bytes are there.
abbrev pub header_at : List ℕ → ℕ → ChunkHeader
header_at s at =
    record {
      magic = two's.signed 1 (big_endian 1 s at);
      chunk_type = two's.signed 1 (big_endian 1 s (at + 1));
      entries = big_endian 2 s (at + 2);
      records = big_endian 4 s (at + 4);
      timestamp = two's.signed 8 (big_endian 8 s (at + 8));
      epoch = big_endian 8 s (at + 16);
      first_offset = big_endian 8 s (at + 24);
      checksum = two's.signed 4 (big_endian 4 s (at + 32));
      data_length = big_endian 4 s (at + 36);
      trailer_length = big_endian 4 s (at + 40);
      bloom_size = big_endian 1 s (at + 44);
      reserved = big_endian 3 s (at + 45);
    }

-- Types are 0, 1, 2.
abbrev pub is_chunk_type : ℤ → Bool
is_chunk_type (pos n) = leb n 2
is_chunk_type (negsuc k) = false

-- Only a chunk of type 0 has entries.
abbrev pub has_entries : ℤ → Bool
has_entries (pos n) = eqb n 0
has_entries (negsuc k) = false

-- An entry: four bytes (6) whose top bit is 0 (10) and whose other 31 bits are the size, then the message (6).
unfoldable pub read_entry : List ℕ → ℕ → Outcome Place
read_entry s at =
    then (read_number 4 s at) (λ x next.
    refuse_if (leb 0x8000_0000 x) value_not_admitted at
    (refuse_if (ltb (length s) (next + x)) field_cut at
    (got (place next x) (next + x))))

-- The entries of a chunk of type 0 that starts at a place: records equals entries (10), that many entries, and nothing
-- else (11).
unfoldable pub read_entries : ℕ → ℕ → List ℕ → ℕ → Outcome Unit
read_entries entries records s at =
    refuse_if (not (eqb records entries)) value_not_admitted (at + 4)
    (then (repeated read_entry entries s (at + 48)) (λ _ behind.
    refuse_if (ltb behind (length s)) bytes_left behind
    (got tt behind)))

-- Behind a whole header: type (10), data present (6), data shorter than the rest (11), and for type 0 the entries.
-- For types 1 and 2 the data stays one unopened part.
unfoldable pub read_data : ℤ → ℕ → ℕ → ℕ → List ℕ → ℕ → Outcome Unit
read_data type entries records len s at =
    refuse_if (not (is_chunk_type type)) value_not_admitted (at + 1)
    (refuse_if (ltb (length s) (at + 48 + len)) field_cut (at + 48)
    (refuse_if (ltb (at + 48 + len) (length s)) bytes_left (at + 48 + len)
    (cond (has_entries type) (read_entries entries records s at) (got tt (length s)))))

abbrev pub read_headed : ChunkHeader → List ℕ → ℕ → Outcome (Field Place)
read_headed h s at =
    then (read_data h.chunk_type h.entries h.records h.data_length s at) (λ _ behind.
    got (F.chunk h (place (at + 48) h.data_length)) behind)

-- A chunk, to the end of s: the whole header (6), then what it says.
unfoldable pub read_chunk : List ℕ → ℕ → Outcome (Field Place)
read_chunk s at = refuse_if (ltb (length s) (at + 48)) field_cut at (read_headed (header_at s at) s at)

-- A field by its kind, and a row of fields in wire order.
unfoldable mutual
  pub read_field : Kind → List ℕ → ℕ → Outcome (Field Place)
  read_field (unsigned n most) s at = read_unsigned n most s at
  read_field (signed n) s at = read_signed n s at
  read_field (string form nullable) s at = read_string form nullable s at
  read_field (specification admits_none) s at = read_specification admits_none s at
  read_field (list rule row) s at = read_list (λ t from. read_row row t from) s at
  read_field chunk s at = read_chunk s at

  pub read_row : Row → List ℕ → ℕ → Outcome (List (Field Place))
  read_row end s at = got [] at
  read_row (kind · row) s at =
      then (read_field kind s at) (λ f next.
      then (read_row row s next) (λ fs behind.
      got (f ∷ fs) behind))

-- A content by its row: the fields, then 11 if bytes are left.
unfoldable pub read_content : Row → List ℕ → Outcome (List (Field Place))
read_content row s =
    then (read_row row s 0) (λ fs last.
    refuse_if (ltb last (length s)) bytes_left last
    (got fs last))

-- What reading a frame gives: its fields; or refusal 1 with the bytes needed; or another refusal's number, and the place
-- that is at fault, counted from the frame's first byte.
pub data Reading : Type 0 where
  frame : Fields Place → Reading
  short : ℕ → Reading
  refusal : ℕ → ℕ → Reading

-- The content starts at place 8 of the frame, and the places in it count from there.
abbrev pub reading_of : ℕ → ℕ → Outcome (List (Field Place)) → Reading
reading_of key version (got fs behind) = frame (record { key = key; version = version; content = map (over_places (further 8)) fs })
reading_of key version (refused n at) = refusal n (8 + at)

unfoldable pub read_layout : ℕ → ℕ → List ℕ → Reading
read_layout key version content = reading_of key version (read_content (row_of key version) content)

-- Behind Size: key (4), version (5), then the content.
unfoldable pub read_decided : Decision → List ℕ → Reading
read_decided (layout key version) content = read_layout key version content
read_decided unlisted_key content = refusal unknown_key 4
read_decided unlisted_version content = refusal unknown_version 6

-- Above the frame limit, if there is one.
abbrev pub over_limit : ℕ → ℕ → Bool
over_limit limit size = not (eqb limit 0) && ltb limit size

-- Size: above the limit (2), below 4 (3), whole frame present (1).
unfoldable pub read_sized : List ℕ → ℕ → ℕ → Reading
read_sized s limit size =
    cond (over_limit limit size) (refusal frame_too_large 0)
    (cond (ltb size 4) (refusal frame_too_small 0)
    (cond (ltb (length s) (size + 4)) (short (size + 4))
    (read_decided (decide (big_endian 2 s 4) (big_endian 2 s 6)) (take (size - 4) (drop 8 s)))))

-- A frame at the start of s under a frame limit; 0 is no limit. First: four bytes present (1).
unfoldable pub read_frame : List ℕ → ℕ → Reading
read_frame s limit = cond (ltb (length s) 4) (short 4) (read_sized s limit (big_endian 4 s 0))
