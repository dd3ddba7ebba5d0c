-- A typed frame from its slots: every number is cut to the width of the type that holds it.
use Rattle.std.specs.Prelude.{false, cond, List, [], ◌∷◌, ℕ, suc, ◌%◌, ◌^◌, eqb, drop}
use Rattle.wire.specs.Signed as two's
use Rattle.protocol.specs.Decision.{Decision, layout, unlisted_key, unlisted_version, decide}
use Rattle.protocol.specs.Fields.{Field, Fields, number, integer, elements, place}
use Rattle.protocol.specs.Fields as F
use Rattle.protocol.specs.Frames.{fields_of}
use Rattle.protocol.specs.Kinds.{Kind, unsigned, signed, string, specification, list, chunk, Row, end, ◌·◌}
use Rattle.protocol.specs.Table.{row_of}
use Rattle.protocol.specs.declared.chunk.ChunkHeader.{ChunkHeader}
use Rattle.protocol.specs.declared.frame.Frame.TheVariants.{Heartbeat}
use Rattle.protocol.specs.declared.place.Place.{Place}
use Rattle.slots.specs.Unflat.{slot, unflat_octets, unflat_offset, slots_of}

abbrev pub typed_header : List ℕ → ChunkHeader
typed_header s =
    record {
      magic = two's.signed 1 (slot s 0 % 256 ^ 1);
      chunk_type = two's.signed 1 (slot s 1 % 256 ^ 1);
      entries = slot s 2 % 256 ^ 2;
      records = slot s 3 % 256 ^ 4;
      timestamp = two's.signed 8 (slot s 4);
      epoch = slot s 5;
      first_offset = slot s 6;
      checksum = two's.signed 4 (slot s 7 % 256 ^ 4);
      data_length = slot s 8 % 256 ^ 4;
      trailer_length = slot s 9 % 256 ^ 4;
      bloom_size = slot s 10 % 256 ^ 1;
      reserved = slot s 11 % 256 ^ 4;
    }

-- A number cut to those up to the largest. A slot holds 64 bits.
abbrev pub cut : ℕ → ℕ → ℕ
cut most x = cond (eqb most 0xffff_ffff_ffff_ffff) x (x % suc most)

-- The field whose slots stand first.
abbrev pub typed_field : Kind → List ℕ → Field Place
typed_field (unsigned n most) s = number (cut most (slot s 0))
typed_field (signed n) s = integer (two's.signed 8 (slot s 0))
typed_field (string form nullable) s = F.string (unflat_octets nullable (slot s 0) (slot s 1))
typed_field (specification admits_none) s = F.offset (unflat_offset false (slot s 0) (slot s 1))
typed_field (list rule row) s = elements (slot s 0) (place (slot s 1) (slot s 2))
typed_field chunk s = F.chunk (typed_header s) (place (slot s 12) (slot s 13))

abbrev pub typed_row : Row → List ℕ → List (Field Place)
typed_row end s = []
typed_row (kind · row) s = typed_field kind s ∷ typed_row row (drop (slots_of kind) s)

-- The fields of a layout.
abbrev pub typed_layout : ℕ → ℕ → List ℕ → Fields Place
typed_layout key version s = record { key = key; version = version; content = typed_row (row_of key version) (drop 2 s) }

-- Where the table has no layout for a key and a version, a Heartbeat, which has no fields.
abbrev pub typed_of : Decision → List ℕ → Fields Place
typed_of (layout key version) s = typed_layout key version s
typed_of unlisted_key s = fields_of Heartbeat
typed_of unlisted_version s = fields_of Heartbeat

-- The fields that slots hold under a key and a version.
unfoldable pub typed_fields : ℕ → ℕ → List ℕ → Fields Place
typed_fields key version s = typed_of (decide key version) s

-- Those of the frame that slots hold: key and version are the first two of them.
abbrev pub typed_frame : List ℕ → Fields Place
typed_frame s = typed_fields (slot s 0) (slot s 1) s
