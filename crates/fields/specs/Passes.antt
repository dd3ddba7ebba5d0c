-- A frame's fields are gone through twice. First each is measured: it is checked, and its length is counted. Then each is put behind
-- the one before, and nothing is checked again but that there is room, and that a place lies within the source.
use Rattle.std.specs.Prelude.{cond, List, [], ◌∷◌, ℕ, ◌+◌, ◌-◌, ◌^◌, ltb, Result, Ok, Err, length as len}
use Rattle.std.proofs.Math.Option.{Option, none, some}
use Rattle.wire.specs.Buffer.{Holds, put, copied}
use Rattle.wire.specs.Integers.{digits}
use Rattle.wire.specs.Signed as two's
use Rattle.protocol.specs.Fields.{Field}
use Rattle.protocol.specs.Kinds.{length_width, Kind, unsigned, signed, string, specification, list, chunk, Row, end, ◌·◌}
use Rattle.protocol.specs.Refusals.{number_of}
use Rattle.protocol.specs.declared.chunk.ChunkHeader.{ChunkHeader}
use Rattle.protocol.specs.declared.offset.OffsetSpecification.{OffsetSpecification}
use Rattle.protocol.specs.declared.offset.OffsetSpecification.TheVariants.{None, First, Last, Next, Offset, Timestamp}
use Rattle.protocol.specs.declared.place.Place.{Place}
use Rattle.protocol.specs.declared.refusal.Refusal.{Refusal}
use Rattle.rules.specs.Writing.{Encoding, wrote, refuse, Written, length, refusal, place_of, write_field}
use Rattle.byte_strings.specs.Stops.{Stop, stop_at}
use Rattle.byte_strings.specs.declared.fault.Fault.{Fault}

-- ---- Measuring

-- What the code answers: a length, or a refusal with its number.
abbrev pub length_told : Result ℕ Refusal → Written
length_told (Ok n) = length n
length_told (Err r) = refusal (number_of r)

-- The same of a fault, whose place is left out.
abbrev pub length_or_refusal : Result ℕ Fault → Written
length_or_refusal (Ok n) = length_told (Ok n)
length_or_refusal (Err fault) = length_told (Err fault.refusal)

-- What measuring says of a field.
abbrev pub measured : Encoding → Written
measured (wrote b) = length (len b)
measured (refuse n) = refusal n

-- Places may lie over one another, so the lengths of a frame's fields have no bound; their sum counts up to one that is far above
-- the length of any frame.
abbrev pub bound : ℕ
bound = 0xffff_ffff_ffff_ffff

unfoldable pub capped : ℕ → ℕ
capped n = cond (ltb bound n) bound n

-- What it says of fields that stand behind so many bytes.
abbrev pub measured_from : ℕ → Encoding → Written
measured_from at (wrote b) = length (capped (at + len b))
measured_from at (refuse n) = refusal n

-- One field of a row: what follows is measured from the new length on; a refusal stops at the length in front of the field.
abbrev pub measured_then : ℕ → Encoding → (ℕ → Stop) → Stop
measured_then at (wrote b) rest = rest (capped (at + len b))
measured_then at (refuse n) rest = stop_at at n

-- Where measuring a row of fields stops that stand behind so many bytes: at the length of all, with 0; or at the length in front of
-- the first field that is refused, with its number.
unfoldable pub measured_row : ℕ → Row → List ℕ → List (Field Place) → Stop
measured_row at end src fs = stop_at at 0
measured_row at (kind · row) src [] = stop_at at 0
measured_row at (kind · row) src (f ∷ fs) = measured_then at (write_field kind src f) (λ next. measured_row next row src fs)

-- ---- How each kind of field is put

-- Bytes put behind what stands in a buffer.
abbrev pub behind : List ℕ → Holds → Holds
behind b h = put h.bytes h.next b

-- The bytes at a place of the source.
abbrev pub copied_behind : List ℕ → Place → Holds → Holds
copied_behind src p h = copied h.bytes h.next src p.at p.len

abbrev pub put_offset : OffsetSpecification → Holds → Holds
put_offset None h = behind (digits 2 0) h
put_offset First h = behind (digits 2 1) h
put_offset Last h = behind (digits 2 2) h
put_offset Next h = behind (digits 2 3) h
put_offset (Offset x) h = behind (digits 8 x) (behind (digits 2 4) h)
put_offset (Timestamp z) h = behind (digits 8 (two's.unsigned 8 z)) (behind (digits 2 5) h)

-- The twelve numbers of a chunk's header.
abbrev pub put_header : ChunkHeader → Holds → Holds
put_header c h =
    behind (digits 3 c.reserved)
    (behind (digits 1 c.bloom_size)
    (behind (digits 4 c.trailer_length)
    (behind (digits 4 c.data_length)
    (behind (digits 4 (two's.unsigned 4 c.checksum))
    (behind (digits 8 c.first_offset)
    (behind (digits 8 c.epoch)
    (behind (digits 8 (two's.unsigned 8 c.timestamp))
    (behind (digits 4 c.records)
    (behind (digits 2 c.entries)
    (behind (digits 1 (two's.unsigned 1 c.chunk_type))
    (behind (digits 1 (two's.unsigned 1 c.magic)) h)))))))))))

-- Length -1 means null: all bits are 1.
abbrev pub put_string : ℕ → List ℕ → Option Place → Holds → Holds
put_string n src none h = behind (digits n (256 ^ n - 1)) h
put_string n src (some p) h = copied_behind src p (behind (digits n p.len) h)

abbrev pub put_list : List ℕ → ℕ → Place → Holds → Holds
put_list src n p h = copied_behind src p (behind (digits 4 n) h)

abbrev pub put_field : Kind → List ℕ → Field Place → Holds → Holds
put_field (unsigned n most) src f h = behind (digits n f.number) h
put_field (signed n) src f h = behind (digits n (two's.unsigned n f.integer)) h
put_field (string form nullable) src f h = put_string (length_width form) src f.octets h
put_field (specification admits_none) src f h = put_offset f.offset h
put_field (list rule row) src f h = put_list src f.number (place_of f.octets) h
put_field chunk src f h = copied_behind src (place_of f.octets) (put_header f.header h)

-- A row of fields in wire order.
unfoldable pub put_row : Row → List ℕ → List (Field Place) → Holds → Holds
put_row end src fs h = h
put_row (kind · row) src [] h = h
put_row (kind · row) src (f ∷ fs) h = put_row row src fs (put_field kind src f h)
