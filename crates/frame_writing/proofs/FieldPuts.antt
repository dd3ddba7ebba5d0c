-- Every kind of field, and every row of fields, is put as it is encoded, if it is not refused and has room. Assumes nothing.
use mathlib.Core.Path.{◌≡◌, refl, ◌∙◌, sym, ap}
use mathlib.Core.Bool.{Bool, true, false, cond, not, ◌&&◌, ◌||◌}
use mathlib.Core.List.{List, [], ◌∷◌, ◌++◌}
use mathlib.Core.Option.{Option, none, some}
use Prim.Native.Nat.{ℕ, ◌+◌, ◌-◌, ◌/◌, ◌^◌, ◌≤◌}
use native.Mathlib.Omega.{arith}
use lib.Dec.{eqb, ltb, leb}
use lib.ListN.{length, length-append}
use borrow.Author.Tests.{ltb-false}
use Rattle.wire.specs.Buffer.{Holds, holds, splice}
use Rattle.wire.specs.Integers.{digits}
use Rattle.wire.specs.Signed as two's
use Rattle.wire.proofs.Splice.{splice_none, length_splice, splice_splice, put_fits, copied_there}
use Rattle.protocol.specs.Fields.{Field, bytes_at, outside}
use Rattle.protocol.specs.Kinds.{length_width, Kind, unsigned, signed, string, specification, list, chunk, Row, end, ◌·◌}
use Rattle.protocol.specs.declared.chunk.ChunkHeader.{ChunkHeader}
use Rattle.protocol.specs.declared.kind.Form.{Form}
use Rattle.protocol.specs.declared.offset.OffsetSpecification.{OffsetSpecification}
use Rattle.protocol.specs.declared.offset.OffsetSpecification.TheVariants.{None, First, Last, Next, Offset, Timestamp}
use Rattle.protocol.specs.declared.place.Place.{Place}
use Rattle.rules.specs.Grammar.{encode_header}
use Rattle.rules.specs.Outcome.{Outcome, got, refused, repeated}
use Rattle.rules.specs.Reading.{too_long, is_text, is_chunk_type, has_entries, read_entry, read_row}
use Rattle.rules.specs.Writing.{Encoding, wrote, refuse, checked, followed, fits_signed, fits_header, used_up, place_of, write_string, write_offset, write_list, write_chunk, write_field, write_row}
use Rattle.fields.specs.Passes.{behind, copied_behind, put_string, put_list, put_offset, put_header, put_field, put_row}

abbrev bytes_of : Encoding → List ℕ
bytes_of (wrote b) = b
bytes_of (refuse n) = []

-- What is put of an encoding, where it has room, is its bytes.
abbrev Puts : Encoding → (Holds → Holds) → Type 0
Puts e f = (b : List ℕ) (at : ℕ) (out : List ℕ) → e ≡ wrote b → at + length b ≤ length out → f (holds out at) ≡ holds (splice out at b) (at + length b)

-- ---- Pieces put one behind another

abbrev joined : List ℕ → List (List ℕ) → List ℕ
joined b [] = b
joined b (c ∷ cs) = b ++ joined c cs

abbrev all_behind : List ℕ → List (List ℕ) → Holds → Holds
all_behind b [] h = behind b h
all_behind b (c ∷ cs) h = all_behind c cs (behind b h)

all_put : (b : List ℕ) (bs : List (List ℕ)) (at : ℕ) (out : List ℕ) → at + length (joined b bs) ≤ length out → all_behind b bs (holds out at) ≡ holds (splice out at (joined b bs)) (at + length (joined b bs))
all_put b [] at out h = put_fits out at b h
all_put b (c ∷ cs) at out h =
    let k : length (b ++ joined c cs) ≡ length b + length (joined c cs) = length-append b (joined c cs) in
    let l : at + length b + length (joined c cs) ≤ length out = omega (arith, k, h) in
    let m : at + length b ≤ length out = omega (arith, l) in
    let r : length (splice out at b) ≡ length out = length_splice out b at m in
    let t : at + length b + length (joined c cs) ≡ at + length (b ++ joined c cs) = omega (arith, k) in
    ap (all_behind c cs) (put_fits out at b m)
    ∙ all_put c cs (at + length b) (splice out at b) (rw r l)
    ∙ rw (splice_splice out b (joined c cs) at l, t)

pub put_pieces : (b : List ℕ) (bs : List (List ℕ)) (c : List ℕ) (at : ℕ) (out : List ℕ) → joined b bs ≡ c → at + length c ≤ length out → all_behind b bs (holds out at) ≡ holds (splice out at c) (at + length c)
put_pieces b bs c at out e h = let k : at + length (joined b bs) ≤ length out = rw e h in all_put b bs at out k ∙ rw e

-- The bytes at a place inside the source are put as any bytes are.
copied_inside : (src : List ℕ) (p : Place) (h : Holds) → outside p src ≡ false → copied_behind src p h ≡ behind (bytes_at src p) h
copied_inside src p h o = copied_there h.bytes h.next src p.at p.len (ltb-false _ _ o)

-- ---- Checks that were passed

record Passed (t : Bool) (e : Encoding) (b : List ℕ) : Type 0 where
  pub test : t ≡ false
  pub rest : e ≡ wrote b

passed : (t : Bool) (n : ℕ) (e : Encoding) (b : List ℕ) → checked t n e ≡ wrote b → Passed t e b
passed true n e b i = cc
passed false n e b i = record { test = refl; rest = i }

used_passed : (o : Outcome Unit) (part : List ℕ) (rest : Encoding) (b : List ℕ) → used_up o part rest ≡ wrote b → rest ≡ wrote b
used_passed (got _ behind) part rest b i = (passed (ltb behind (length part)) _ rest b i).rest
used_passed (refused n at) part rest b i = cc

either_passed : (t : Bool) (d e f : Encoding) (b : List ℕ) → (d ≡ wrote b → f ≡ wrote b) → (e ≡ wrote b → f ≡ wrote b) → cond t d e ≡ wrote b → f ≡ wrote b
either_passed true d e f b h k i = h i
either_passed false d e f b h k i = k i

-- ---- Each kind is put as it is encoded

puts_string : (form : Form) (nullable : Bool) (src : List ℕ) (p : Option Place) → Puts (write_string form nullable src p) (put_string (length_width form) src p)
unfolding write_string
puts_string form nullable src none b at out i h =
    put_pieces (digits (length_width form) (256 ^ length_width form - 1)) [] b at out (ap bytes_of (passed (not nullable) _ _ b i).rest) h
puts_string form nullable src (some p) b at out i h =
    let long = passed (leb (256 ^ length_width form / 2) p.len) _ _ b i in
    let limit = passed (too_long form p.len) _ _ b long.rest in
    let place = passed (outside p src) _ _ b limit.rest in
    let text = passed (not (is_text form (bytes_at src p))) _ _ b place.rest in
    copied_inside src p (behind (digits (length_width form) p.len) (holds out at)) place.test
    ∙ put_pieces (digits (length_width form) p.len) (bytes_at src p ∷ []) b at out (ap bytes_of text.rest) h

puts_offset : (admits_none : Bool) (o : OffsetSpecification) → Puts (write_offset admits_none o) (put_offset o)
unfolding write_offset
puts_offset admits_none None b at out i h = put_pieces (digits 2 0) [] b at out (ap bytes_of (passed (not admits_none) _ _ b i).rest) h
puts_offset admits_none First b at out i h = put_pieces (digits 2 1) [] b at out (ap bytes_of i) h
puts_offset admits_none Last b at out i h = put_pieces (digits 2 2) [] b at out (ap bytes_of i) h
puts_offset admits_none Next b at out i h = put_pieces (digits 2 3) [] b at out (ap bytes_of i) h
puts_offset admits_none (Offset x) b at out i h =
    put_pieces (digits 2 4) (digits 8 x ∷ []) b at out (ap bytes_of (passed (leb (256 ^ 8) x) _ _ b i).rest) h
puts_offset admits_none (Timestamp z) b at out i h =
    put_pieces (digits 2 5) (digits 8 (two's.unsigned 8 z) ∷ []) b at out (ap bytes_of (passed (not (fits_signed 8 z)) _ _ b i).rest) h

puts_list : (row : Row) (src : List ℕ) (n : ℕ) (p : Place) → Puts (write_list row src n p) (put_list src n p)
unfolding write_list
puts_list row src n p b at out i h =
    let count = passed (leb 0x8000_0000 n) _ _ b i in
    let place = passed (outside p src) _ _ b count.rest in
    let rest = used_passed (repeated (read_row row) n (bytes_at src p) 0) (bytes_at src p) _ b place.rest in
    copied_inside src p (behind (digits 4 n) (holds out at)) place.test
    ∙ put_pieces (digits 4 n) (bytes_at src p ∷ []) b at out (ap bytes_of rest) h

-- The twelve numbers of a header behind the first.
abbrev others : ChunkHeader → List (List ℕ)
others c =
    digits 1 (two's.unsigned 1 c.chunk_type)
    ∷ digits 2 c.entries
    ∷ digits 4 c.records
    ∷ digits 8 (two's.unsigned 8 c.timestamp)
    ∷ digits 8 c.epoch
    ∷ digits 8 c.first_offset
    ∷ digits 4 (two's.unsigned 4 c.checksum)
    ∷ digits 4 c.data_length
    ∷ digits 4 c.trailer_length
    ∷ digits 1 c.bloom_size
    ∷ digits 3 c.reserved
    ∷ []

header_behind : (c : ChunkHeader) (at : ℕ) (out : List ℕ) → at + length (encode_header c) ≤ length out → put_header c (holds out at) ≡ behind (encode_header c) (holds out at)
header_behind c at out h =
    all_put (digits 1 (two's.unsigned 1 c.magic)) (others c) at out h ∙ sym (put_fits out at (encode_header c) h)

puts_chunk : (src : List ℕ) (c : ChunkHeader) (p : Place) → Puts (write_chunk src c p) (λ h. copied_behind src p (put_header c h))
unfolding write_chunk
puts_chunk src c p b at out i h =
    let header = passed (not (is_chunk_type c.chunk_type && fits_header c)) _ _ b i in
    let place = passed (outside p src) _ _ b header.rest in
    let short = passed (ltb p.len c.data_length) _ _ b place.rest in
    let long = passed (ltb c.data_length p.len) _ _ b short.rest in
    let rest : wrote (encode_header c ++ bytes_at src p) ≡ wrote b =
    either_passed (has_entries c.chunk_type) _ _ _ b
    (λ j. used_passed (repeated read_entry c.entries (bytes_at src p) 0) (bytes_at src p) _ b (passed (not (eqb c.records c.entries)) _ _ b j).rest)
    (λ j. j)
    long.rest in
    let e : encode_header c ++ bytes_at src p ≡ b = ap bytes_of rest in
    let k : at + length (encode_header c) ≤ length out = omega (arith, length-append (encode_header c) (bytes_at src p), ap length e, h) in
    ap (copied_behind src p) (header_behind c at out k)
    ∙ copied_inside src p (behind (encode_header c) (holds out at)) place.test
    ∙ put_pieces (encode_header c) (bytes_at src p ∷ []) b at out e h

puts_field : (k : Kind) (src : List ℕ) (f : Field Place) → Puts (write_field k src f) (put_field k src f)
puts_field (unsigned n most) src f b at out i h =
    put_pieces (digits n f.number) [] b at out (ap bytes_of (passed (ltb most f.number || leb (256 ^ n) f.number) _ _ b i).rest) h
puts_field (signed n) src f b at out i h =
    put_pieces (digits n (two's.unsigned n f.integer)) [] b at out (ap bytes_of (passed (not (fits_signed n f.integer)) _ _ b i).rest) h
puts_field (string form nullable) src f b at out i h = puts_string form nullable src f.octets b at out i h
puts_field (specification admits_none) src f b at out i h = puts_offset admits_none f.offset b at out i h
puts_field (list rule row) src f b at out i h = puts_list row src f.number (place_of f.octets) b at out i h
puts_field chunk src f b at out i h = puts_chunk src f.header (place_of f.octets) b at out i h

-- ---- Rows

nothing : (b : List ℕ) (at : ℕ) (out : List ℕ) → [] ≡ b → holds out at ≡ holds (splice out at b) (at + length b)
nothing b at out e = let f : at + length {A = ℕ} [] ≡ at = omega arith in rw (← e, f, ← splice_none out at)

-- One encoding behind another.
both : (d e : Encoding) (f g : Holds → Holds) → Puts d f → Puts e g → Puts (followed d e) (λ h. g (f h))
both (refuse n) e f g p q b at out i h = cc
both (wrote a) (refuse n) f g p q b at out i h = cc
both (wrote a) (wrote c) f g p q b at out i h =
    let j : a ++ c ≡ b = ap bytes_of i in
    let m : at + length a + length c ≤ length out = omega (arith, length-append a c, ap length j, h) in
    let o : at + length a ≤ length out = omega (arith, m) in
    let r : at + length a + length c ≤ length (splice out at a) = rw (length_splice out a at o) m in
    let t : at + length (a ++ c) ≡ at + length a + length c = omega (arith, length-append a c) in
    rw (p a at out refl o, q c (at + length a) (splice out at a) refl r, splice_splice out a c at m, ← j, t)

pub row_puts : (row : Row) (src : List ℕ) (fs : List (Field Place)) → Puts (write_row row src fs) (put_row row src fs)
unfolding put_row
row_puts end src fs b at out i h = nothing b at out (ap bytes_of i)
row_puts (k · row) src [] b at out i h = nothing b at out (ap bytes_of i)
row_puts (k · row) src (f ∷ fs) b at out i h = both (write_field k src f) (write_row row src fs) (put_field k src f) (put_row row src fs) (puts_field k src f) (row_puts row src fs) b at out i h
