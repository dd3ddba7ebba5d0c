-- A frame, and an element of a list, as numbers in a fixed array of slots: what a host that is written in C reads and
-- writes. A frame has twenty-four slots, an element eight, and those that no field takes are 0.
use Rattle.std.specs.Prelude.{Bool, true, false, cond, List, [], ◌∷◌, ◌++◌, ℕ, ◌-◌, eqb, ℤ, length, replicate, take}
use Rattle.std.proofs.Math.Option.{Option, none, some}
use Rattle.wire.specs.Buffer.{splice}
use Rattle.wire.specs.Signed as two's
use Rattle.protocol.specs.Fields.{Field, Fields}
use Rattle.protocol.specs.Kinds.{Kind, unsigned, signed, string, specification, list, chunk, Row, end, ◌·◌}
use Rattle.protocol.specs.Table.{row_of}
use Rattle.protocol.specs.declared.chunk.ChunkHeader.{ChunkHeader}
use Rattle.protocol.specs.declared.offset.OffsetSpecification.{OffsetSpecification}
use Rattle.protocol.specs.declared.offset.OffsetSpecification.TheVariants.{None, First, Last, Next, Offset, Timestamp}
use Rattle.protocol.specs.declared.place.Place.{Place}
use Rattle.rules.specs.Reading.{Reading, frame, short, refusal}
use Rattle.rules.specs.Writing.{place_of}

-- A signed number is its 64 bits in two's complement.
abbrev pub bits : ℤ → ℕ
bits z = two's.unsigned 8 z

abbrev pub flat_place : Place → List ℕ
flat_place p = p.at ∷ p.len ∷ []

-- The length of a null, whose place is 0.
abbrev pub null_length : ℕ
null_length = 18446744073709551615

-- The length of what may be null and is not. No slice is as long as the length that stands for null, so a place of that
-- length stands as one of a byte less: the writer refuses both alike.
abbrev pub not_null : ℕ → ℕ
not_null len = cond (eqb len null_length) 18446744073709551614 len

-- A text or byte string, by whether it may be null.
abbrev pub flat_octets : Bool → Option Place → List ℕ
flat_octets false none = 0 ∷ null_length ∷ []
flat_octets false (some p) = flat_place p
flat_octets true none = 0 ∷ null_length ∷ []
flat_octets true (some p) = p.at ∷ not_null p.len ∷ []

-- The type, and the value: 0 where it has none.
abbrev pub flat_offset : OffsetSpecification → List ℕ
flat_offset None = 0 ∷ 0 ∷ []
flat_offset First = 1 ∷ 0 ∷ []
flat_offset Last = 2 ∷ 0 ∷ []
flat_offset Next = 3 ∷ 0 ∷ []
flat_offset (Offset x) = 4 ∷ x ∷ []
flat_offset (Timestamp z) = 5 ∷ bits z ∷ []

-- The twelve numbers of a chunk's header, in wire order.
abbrev pub flat_header : ChunkHeader → List ℕ
flat_header h =
    bits h.magic
    ∷ bits h.chunk_type
    ∷ h.entries
    ∷ h.records
    ∷ bits h.timestamp
    ∷ h.epoch
    ∷ h.first_offset
    ∷ bits h.checksum
    ∷ h.data_length
    ∷ h.trailer_length
    ∷ h.bloom_size
    ∷ h.reserved
    ∷ []

-- The slots of a field: one for a number, two for a text or byte string, two for an offset specification, three for a
-- list, fourteen for a chunk.
abbrev pub flat_field : Kind → Field Place → List ℕ
flat_field (unsigned n most) f = f.number ∷ []
flat_field (signed n) f = bits f.integer ∷ []
flat_field (string form nullable) f = flat_octets nullable f.octets
flat_field (specification admits_none) f = flat_offset f.offset
flat_field (list rule row) f = f.number ∷ flat_place (place_of f.octets)
flat_field chunk f = flat_header f.header ++ flat_place (place_of f.octets)

-- The fields of a row, in wire order.
abbrev pub flat_row : Row → List (Field Place) → List ℕ
flat_row end fs = []
flat_row (kind · row) [] = []
flat_row (kind · row) (f ∷ fs) = flat_field kind f ++ flat_row row fs

-- Values in the place of as many slots, from a place on, as far as there are slots.
unfoldable pub overlaid : List ℕ → ℕ → List ℕ → List ℕ
overlaid slots at values = take (length slots) (splice slots at values)

-- Filled up with 0 to n slots.
unfoldable pub padded : ℕ → List ℕ → List ℕ
padded n xs = xs ++ replicate (n - length xs) 0

-- Key, version, then the content's fields.
unfoldable pub flat_frame : Fields Place → List ℕ
flat_frame f = padded 24 (f.key ∷ f.version ∷ flat_row (row_of f.key f.version) f.content)

-- What slots hold after a frame was read into them. A refusal leaves them as they were.
abbrev pub slots_after : List ℕ → Reading → List ℕ
slots_after old (frame f) = flat_frame f
slots_after old (short needed) = old
slots_after old (refusal n place) = old

-- The fields of an element by its row.
unfoldable pub flat_element : Row → List (Field Place) → List ℕ
flat_element row fs = padded 8 (flat_row row fs)
