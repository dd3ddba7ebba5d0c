-- Every check names its number. Those of a field are 6 to 11 (`Bounds`); the frame's own are 1 to 5 in reading, and in writing 2, 4, 5
-- and 12. Assumes nothing.
use mathlib.Core.Path.{refl}
use mathlib.Core.Bool.{Bool, true, false, not, ◌&&◌, ◌||◌}
use mathlib.Core.List.{List, [], ◌∷◌}
use mathlib.Core.Logic.{inl, inr}
use mathlib.Core.Option.{Option, none, some}
use Prim.Native.Nat.{ℕ, ◌+◌, ◌/◌, ◌^◌, ◌≤◌}
use native.Mathlib.Omega.{arith}
use lib.Dec.{T, eqb, ltb, leb}
use lib.ListN.{length as len}
use Rattle.wire.specs.Integers.{Bytes, big_endian}
use Rattle.wire.proofs.Widths.{integers}
use Rattle.protocol.specs.Decision.{Decision, layout, unlisted_key, unlisted_version, decide}
use Rattle.protocol.specs.Fields.{Field, Fields, bytes_at, outside}
use Rattle.protocol.specs.Kinds.{length_width, Kind, unsigned, signed, string, specification, list, chunk, Row, end, ◌·◌}
use Rattle.protocol.specs.Table.{row_of}
use Rattle.protocol.specs.declared.chunk.ChunkHeader.{ChunkHeader}
use Rattle.protocol.specs.declared.kind.Form.{Form}
use Rattle.protocol.specs.declared.offset.OffsetSpecification.{OffsetSpecification}
use Rattle.protocol.specs.declared.offset.OffsetSpecification.TheVariants.{None, First, Last, Next, Offset, Timestamp}
use Rattle.protocol.specs.declared.place.Place.{Place}
use Rattle.rules.specs.Answers.{reading_refusal, writing_refusal, IfRefused, ReadingNumber, WritingNumber, Numbers}
use Rattle.rules.specs.Outcome.{Outcome, got, refused, repeated}
use Rattle.rules.specs.Reading.{is_chunk_type, has_entries, too_long, is_text, over_limit, read_entry, read_row, read_content, Reading, short, refusal, reading_of, read_layout, read_decided, read_sized, read_frame}
use Rattle.rules.specs.Writing.{Encoding, wrote, refuse, checked, followed, fits_signed, write_string, write_offset, used_up, write_list, fits_header, write_chunk, place_of, write_field, write_row, Writing, unwritten, write_encoded, write_decided, write_frame}
use Rattle.rules.proofs.Bounds.{FieldNumber, is_field_number, named, Bounded, bounded_repeated, bounded_entry, bounded_row, bounded_content}
use Rattle.rules.proofs.Gives.{choice}

-- ---- Reading

abbrev Right : Reading → Type 0
Right x = IfRefused ReadingNumber (reading_refusal x)

short_right : (n : ℕ) → 4 ≤ n → n ≤ 4294967299 → Right (short n)
short_right n h l = record { least = omega arith; most = omega arith; needs = ((λ _. (h, l)), (λ _. refl)) }

refused_right : (n p : ℕ) → 2 ≤ n → n ≤ 11 → Right (refusal n p)
refused_right n p h l = record { least = omega (arith, h); most = l; needs = ((λ e. omega (arith, h, e)), (λ z. absurd z)) }

content_right : (k v : ℕ) (s : List ℕ) (o : Outcome (List (Field Place))) → Bounded s 0 o → Right (reading_of k v o)
content_right k v s (got fs next) b = tt
content_right k v s (refused n p) b = refused_right n (8 + p) (omega (arith, b.0.0)) b.0.1

decided_right : (d : Decision) (s : List ℕ) → Right (read_decided d s)
unfolding read_decided read_layout
decided_right (layout k v) s = content_right k v s (read_content (row_of k v) s) (bounded_content (row_of k v) s)
decided_right unlisted_key s = refused_right 4 4 (omega arith) (omega arith)
decided_right unlisted_version s = refused_right 5 6 (omega arith) (omega arith)

reading_right : (s : List ℕ) (limit : ℕ) → Bytes s → Right (read_frame s limit)
unfolding read_frame read_sized
reading_right s limit b =
    let size : ℕ = big_endian 4 s 0 in
    let r = (integers 4).range s 0 b in
    choice Right (ltb (len s) 4) _ _ (λ _. short_right 4 (omega arith) (omega arith)) (λ _.
    choice Right (over_limit limit size) _ _ (λ _. refused_right 2 0 (omega arith) (omega arith)) (λ _.
    choice Right (ltb size 4) _ _ (λ _. refused_right 3 0 (omega arith) (omega arith)) (λ _.
    choice Right (ltb (len s) (size + 4)) _ _ (λ _. short_right (size + 4) (omega arith) (omega (arith, r))) (λ _.
    decided_right _ _))))

-- ---- Writing

abbrev FieldRight : Encoding → Type 0
FieldRight (wrote b) = Unit
FieldRight (refuse n) = FieldNumber n

checked_right : (t : Bool) (n : ℕ) (r : Encoding) → T (is_field_number n) → FieldRight r → FieldRight (checked t n r)
checked_right true n r f h = named n f
checked_right false n r f h = h

used_right : (o : Outcome Unit) (part : List ℕ) (r : Encoding) → Bounded part 0 o → FieldRight r → FieldRight (used_up o part r)
used_right (got _ next) part r b h = checked_right (ltb next (len part)) 11 r tt h
used_right (refused n p) part r b h = b.0

string_right : (form : Form) (nullable : Bool) (src : List ℕ) (o : Option Place) → FieldRight (write_string form nullable src o)
unfolding write_string
string_right form nullable src none = checked_right (not nullable) 7 _ tt tt
string_right form nullable src (some p) =
    checked_right (leb (256 ^ length_width form / 2) p.len) 7 _ tt
    (checked_right (too_long form p.len) 9 _ tt
    (checked_right (outside p src) 6 _ tt
    (checked_right (not (is_text form (bytes_at src p))) 8 _ tt tt)))

offset_right : (admits_none : Bool) (o : OffsetSpecification) → FieldRight (write_offset admits_none o)
unfolding write_offset
offset_right b None = checked_right (not b) 10 _ tt tt
offset_right b First = tt
offset_right b Last = tt
offset_right b Next = tt
offset_right b (Offset x) = checked_right (leb (256 ^ 8) x) 10 _ tt tt
offset_right b (Timestamp z) = checked_right (not (fits_signed 8 z)) 10 _ tt tt

list_right : (row : Row) (src : List ℕ) (n : ℕ) (p : Place) → FieldRight (write_list row src n p)
unfolding write_list
list_right row src n p =
    checked_right (leb 0x8000_0000 n) 7 _ tt
    (checked_right (outside p src) 6 _ tt
    (used_right (repeated (read_row row) n (bytes_at src p) 0) (bytes_at src p) _ (bounded_repeated (bytes_at src p) (read_row row) (λ at. bounded_row row (bytes_at src p) at) n 0) tt))

chunk_right : (src : List ℕ) (h : ChunkHeader) (p : Place) → FieldRight (write_chunk src h p)
unfolding write_chunk
chunk_right src h p =
    checked_right (not (is_chunk_type h.chunk_type && fits_header h)) 10 _ tt
    (checked_right (outside p src) 6 _ tt
    (checked_right (ltb p.len h.data_length) 6 _ tt
    (checked_right (ltb h.data_length p.len) 11 _ tt
    (choice FieldRight (has_entries h.chunk_type) _ _
    (λ _. checked_right (not (eqb h.records h.entries)) 10 _ tt
    (used_right (repeated read_entry h.entries (bytes_at src p) 0) (bytes_at src p) _ (bounded_repeated (bytes_at src p) read_entry (bounded_entry (bytes_at src p)) h.entries 0) tt))
    (λ _. tt)))))

field_right : (kind : Kind) (src : List ℕ) (f : Field Place) → FieldRight (write_field kind src f)
field_right (unsigned n most) src f = checked_right (ltb most f.number || leb (256 ^ n) f.number) 10 _ tt tt
field_right (signed n) src f = checked_right (not (fits_signed n f.integer)) 10 _ tt tt
field_right (string form nullable) src f = string_right form nullable src f.octets
field_right (specification b) src f = offset_right b f.offset
field_right (list rule row) src f = list_right row src f.number (place_of f.octets)
field_right chunk src f = chunk_right src f.header (place_of f.octets)

followed_right : (a b : Encoding) → FieldRight a → FieldRight b → FieldRight (followed a b)
followed_right (wrote x) (wrote y) h k = tt
followed_right (wrote x) (refuse n) h k = k
followed_right (refuse n) b h k = h

row_right : (row : Row) (src : List ℕ) (fs : List (Field Place)) → FieldRight (write_row row src fs)
row_right end src fs = tt
row_right (kind · row) src [] = tt
row_right (kind · row) src (f ∷ fs) = followed_right (write_field kind src f) (write_row row src fs) (field_right kind src f) (row_right row src fs)

abbrev WriteRight : Writing → Type 0
WriteRight w = IfRefused WritingNumber (writing_refusal w.answer)

above_3 : (n : ℕ) (out : List ℕ) → 4 ≤ n → n ≤ 12 → WriteRight (unwritten n out)
above_3 n out h l = record { number = inr (h, l); needs_none = refl }

encoded_right : (k v : ℕ) (x : Encoding) (limit : ℕ) (out : List ℕ) → FieldRight x → WriteRight (write_encoded k v x limit out)
encoded_right k v (refuse n) limit out h = above_3 n out (omega (arith, h.0)) (omega (arith, h.1))
encoded_right k v (wrote c) limit out h =
    choice WriteRight (ltb 0xffff_ffff (4 + len c) || over_limit limit (4 + len c)) _ _ (λ _. record { number = inl refl; needs_none = refl }) (λ _.
    choice WriteRight (ltb (len out) (8 + len c)) _ _ (λ _. above_3 12 out (omega arith) (omega arith)) (λ _. tt))

writing_right : (f : Fields Place) (src : List ℕ) (limit : ℕ) (out : List ℕ) → WriteRight (write_frame f src limit out)
unfolding write_frame
writing_right f src limit out = by (decide f.key f.version)
  where
    by : (d : Decision) → WriteRight (write_decided d f src limit out)
    by (layout k v) = encoded_right k v (write_row (row_of k v) src f.content) limit out (row_right (row_of k v) src f.content)
    by unlisted_key = above_3 4 out (omega arith) (omega arith)
    by unlisted_version = above_3 5 out (omega arith) (omega arith)

pub numbers : Numbers
numbers = record { reading = reading_right; writing = writing_right }
