-- A frame from its twenty-four slots, and what writing a flat frame is: that frame, written. Slots that no field takes are
-- not looked at.
use Rattle.std.specs.Prelude.{Bool, true, false, cond, List, [], ◌∷◌, ℕ, ◌+◌, ◌^◌, eqb, get_or, drop}
use Rattle.std.proofs.Math.Option.{Option, none, some}
use Rattle.wire.specs.Signed as two's
use Rattle.protocol.specs.Fields.{Field, Fields, number, integer, elements, place}
use Rattle.protocol.specs.Fields as F
use Rattle.protocol.specs.Kinds.{Kind, unsigned, signed, string, specification, list, chunk, Row, end, ◌·◌}
use Rattle.protocol.specs.Table.{row_of}
use Rattle.protocol.specs.declared.chunk.ChunkHeader.{ChunkHeader}
use Rattle.protocol.specs.declared.offset.OffsetSpecification.{OffsetSpecification}
use Rattle.protocol.specs.declared.offset.OffsetSpecification.TheVariants.{None, First, Last, Next, Offset, Timestamp}
use Rattle.protocol.specs.declared.place.Place.{Place}
use Rattle.rules.specs.Writing.{Writing, write_frame}
use Rattle.slots.specs.Flat.{null_length}

abbrev pub slot : List ℕ → ℕ → ℕ
slot s i = get_or s i 0

-- The place of a null is not looked at. Where null is not admitted, its length is a length like any other, and too large.
abbrev pub unflat_octets : Bool → ℕ → ℕ → Option Place
unflat_octets false at len = some (place at len)
unflat_octets true at len = cond (eqb len null_length) none (some (place at len))

-- No offset specification has a type above 5. It stands as one that its field does not admit: both are refused with 10.
abbrev pub not_admitted : Bool → OffsetSpecification
not_admitted false = None
not_admitted true = Offset (256 ^ 8)

abbrev pub unflat_offset : Bool → ℕ → ℕ → OffsetSpecification
unflat_offset admits_none type value =
    cond (eqb type 0) None
    (cond (eqb type 1) First
    (cond (eqb type 2) Last
    (cond (eqb type 3) Next
    (cond (eqb type 4) (Offset value)
    (cond (eqb type 5) (Timestamp (two's.signed 8 value))
    (not_admitted admits_none))))))

-- The header's numbers as they stand, in their fields or too wide for them.
abbrev pub unflat_header : List ℕ → ChunkHeader
unflat_header s =
    record {
      magic = two's.signed 8 (slot s 0);
      chunk_type = two's.signed 8 (slot s 1);
      entries = slot s 2;
      records = slot s 3;
      timestamp = two's.signed 8 (slot s 4);
      epoch = slot s 5;
      first_offset = slot s 6;
      checksum = two's.signed 8 (slot s 7);
      data_length = slot s 8;
      trailer_length = slot s 9;
      bloom_size = slot s 10;
      reserved = slot s 11;
    }

-- How many slots a field takes.
abbrev pub slots_of : Kind → ℕ
slots_of (unsigned n most) = 1
slots_of (signed n) = 1
slots_of (string form nullable) = 2
slots_of (specification admits_none) = 2
slots_of (list rule row) = 3
slots_of chunk = 14

-- None where there is no kind.
abbrev pub slots_for : Option Kind → ℕ
slots_for none = 0
slots_for (some kind) = slots_of kind

-- Of a row.
abbrev pub slots_in : Row → ℕ
slots_in end = 0
slots_in (kind · row) = slots_of kind + slots_in row

-- The field whose slots stand first.
abbrev pub unflat_field : Kind → List ℕ → Field Place
unflat_field (unsigned n most) s = number (slot s 0)
unflat_field (signed n) s = integer (two's.signed 8 (slot s 0))
unflat_field (string form nullable) s = F.string (unflat_octets nullable (slot s 0) (slot s 1))
unflat_field (specification admits_none) s = F.offset (unflat_offset admits_none (slot s 0) (slot s 1))
unflat_field (list rule row) s = elements (slot s 0) (place (slot s 1) (slot s 2))
unflat_field chunk s = F.chunk (unflat_header s) (place (slot s 12) (slot s 13))

abbrev pub unflat_row : Row → List ℕ → List (Field Place)
unflat_row end s = []
unflat_row (kind · row) s = unflat_field kind s ∷ unflat_row row (drop (slots_of kind) s)

unfoldable pub unflat_frame : List ℕ → Fields Place
unflat_frame s = record { key = slot s 0; version = slot s 1; content = unflat_row (row_of (slot s 0) (slot s 1)) (drop 2 s) }

-- A flat frame from a source, under a frame limit, into an output.
unfoldable pub write_flat : List ℕ → List ℕ → ℕ → List ℕ → Writing
write_flat s src limit out = write_frame (unflat_frame s) src limit out
