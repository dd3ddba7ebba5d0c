-- A field is written exactly if it is well formed and its place lies in the source, and then as it is encoded. Each
-- check of the writer is a clause of the grammar; the bytes of a list's elements and of a chunk's entries are checked by
-- reading them, which is exact. Assumes nothing.
use mathlib.Core.Path.{◌≡◌, refl, sym, ◌∙◌, ap, subst}
use mathlib.Core.Bool.{Bool, true, false, cond, not, ◌&&◌, ◌||◌}
use mathlib.Core.List.{List, [], ◌∷◌, ◌++◌, append-nil, map, head-eq_of_cons-eq, tail-eq_of_cons-eq}
use mathlib.Core.Logic.{inl, inr}
use mathlib.Core.Option
use mathlib.Core.Option.{Option, none, some}
use Prim.Native.Nat.{ℕ, ◌+◌, ◌/◌, ◌^◌, ◌≤◌, ◌<◌}
use native.Mathlib.Omega.{arith}
use lib.Dec.{eqb, ltb, leb}
use lib.IntN.{ℤ, pos, negsuc}
use lib.ListN.{length}
use borrow.Author.Tests.{lt-ltb, le-ltb, lt-leb, eq-eqb, ltb-true, ltb-false, leb-false, eqb-true, not-false}
use Rattle.wire.specs.Integers.{Bytes, digits}
use Rattle.wire.specs.Signed as two's
use Rattle.protocol.specs.Fields.{Field, bytes_at, outside, value_in, EndsBy, PlacesEndBy}
use Rattle.protocol.specs.Frames.{OfKind, OfRow}
use Rattle.protocol.specs.Kinds.{length_width, Kind, unsigned, signed, string, specification, list, chunk, Row, end, ◌·◌}
use Rattle.protocol.specs.Refusals.{field_cut, bad_length, not_utf8, reference_too_long, value_not_admitted, bytes_left}
use Rattle.protocol.specs.declared.chunk.ChunkHeader.{ChunkHeader}
use Rattle.protocol.specs.declared.kind.Form.{Form}
use Rattle.protocol.specs.declared.offset.OffsetSpecification.{OffsetSpecification}
use Rattle.protocol.specs.declared.offset.OffsetSpecification.TheVariants.{None, First, Last, Next, Offset, Timestamp}
use Rattle.protocol.specs.declared.place.Place.{Place}
use Rattle.rules.proofs.Complete.{elements_read}
use Rattle.rules.proofs.CompleteChunks.{KnownType, type_fits, entry_read}
use Rattle.rules.proofs.CompleteFields.{PieceRead, not_long, is_text_lem, pieces_read}
use Rattle.rules.proofs.Gives.{Gives}
use Rattle.rules.proofs.Listed.{both, differ, is_end, wide, wide_row, chunk_last, chunk_last_in}
use Rattle.rules.proofs.Parts.{starting, to_the_end, length_part, bytes_part}
use Rattle.rules.proofs.Sound.{sound_row}
use Rattle.rules.proofs.SoundChunks.{types, sound_entry}
use Rattle.rules.proofs.SoundFields.{Element, Piece, Pieced, valid_bytes, sound_element, sound_repeated}
use Rattle.rules.specs.Grammar.{encode_string, encode_offset, encode_header, body, encode, encode_row, Pieces, Length, ValidString, ValidOffset, ValidHeader, Entry, ValidChunk, Valid, ValidRow}
use Rattle.rules.specs.Outcome.{Outcome, got, refused, repeated}
use Rattle.rules.specs.Reading.{too_long, is_text, is_chunk_type, has_entries, read_entry, read_row}
use Rattle.rules.specs.Writing.{Encoding, wrote, refuse, checked, followed, fits_signed, write_unsigned, write_signed, write_string, write_offset, used_up, write_list, fits_header, write_chunk, place_of, write_field, write_row}

-- ---- What is well formed is written

-- The bytes of a place in the source are as many as it says.
place_length : (src : List ℕ) (p : Place) → p.at + p.len ≤ length src → length (bytes_at src p) ≡ p.len
place_length src p h = length_part p.len p.at src h

-- The writer's checks, where they are passed.
inside_source : (src : List ℕ) (p : Place) → p.at + p.len ≤ length src → outside p src ≡ false
inside_source src p h = le-ltb (length src) (p.at + p.len) h

signed_fits : (n : ℕ) (z : ℤ) → two's.Signed n z → fits_signed n z ≡ true
signed_fits n (pos x) h = lt-ltb x (256 ^ n / 2) h
signed_fits n (negsuc x) h = lt-ltb x (256 ^ n / 2) h

writes_unsigned : (n most x : ℕ) → x ≤ most → x < 256 ^ n → write_unsigned n most x ≡ wrote (digits n x)
writes_unsigned n most x m l = rw (le-ltb most x m, lt-leb (256 ^ n) x l)

writes_signed : (n : ℕ) (z : ℤ) → two's.Signed n z → write_signed n z ≡ wrote (digits n (two's.unsigned n z))
writes_signed n z l = rw (signed_fits n z l)

writes_string : (form : Form) (nullable : Bool) (src : List ℕ) (o : Option Place) → EndsBy (length src) o → ValidString form nullable (Option.map (bytes_at src) o) → write_string form nullable src o ≡ wrote (encode_string (length_width form) (Option.map (bytes_at src) o))
unfolding write_string
writes_string form nullable src none i v = rw v
writes_string form nullable src (some p) i v =
    let n : ℕ = length_width form in
    let e : length (bytes_at src p) ≡ p.len = place_length src p i in
    let l : p.len < 256 ^ n / 2 = subst (λ m. m < 256 ^ n / 2) e v.0 in
    let t : too_long form p.len ≡ false = ap (too_long form) (sym e) ∙ not_long form (bytes_at src p) v.1 in
    rw (lt-leb (256 ^ n / 2) p.len l, t, inside_source src p i, is_text_lem form (bytes_at src p) v.1)
    (ap (λ m. wrote (digits n m ++ bytes_at src p)) (sym e))

writes_offset : (admits_none : Bool) (o : OffsetSpecification) → ValidOffset admits_none o → write_offset admits_none o ≡ wrote (encode_offset o)
unfolding write_offset
writes_offset admits_none None v = ap (λ t. checked (not t) value_not_admitted (wrote (digits 2 0))) v
writes_offset admits_none First v = refl
writes_offset admits_none Last v = refl
writes_offset admits_none Next v = refl
writes_offset admits_none (Offset x) v = rw (lt-leb (256 ^ 8) x v)
writes_offset admits_none (Timestamp z) v = rw (signed_fits 8 z v)

-- Pieces that are read up to the part's end use it up.
uses_up : {A : Type 0} (P : List ℕ → Type 0) (element : List ℕ → ℕ → Outcome A) (part : List ℕ) → PieceRead part P element → (n : ℕ) → Pieces P n part → (r : Encoding) → used_up (repeated element n part 0) part r ≡ r
uses_up P element part each n pieces r =
    simp (pieces_read part P element each n part 0 (length part) pieces (starting part part [] (sym (append-nil part))), le-ltb (length part) (length part) (omega arith))

-- The place of a list or a chunk, from its bytes.
pub placed : (src : List ℕ) (o : Option Place) (b : List ℕ) → Option.map (bytes_at src) o ≡ some b → EndsBy (length src) o → (bytes_at src (place_of o) ≡ b) × ((place_of o).at + (place_of o).len ≤ length src) × (body (Option.map (bytes_at src) o) ≡ bytes_at src (place_of o))
placed src none b e i = absurd (let z : ◌≡◌ {A = ℕ} 0 1 = cc in omega arith)
placed src (some p) b e i = (cc, i, refl)

writes_list : (row : Row) (src : List ℕ) (n : ℕ) (p : Place) → chunk_last_in false row ≡ true → p.at + p.len ≤ length src → Length 4 n → Pieces (Element row) n (bytes_at src p) → write_list row src n p ≡ wrote (digits 4 n ++ bytes_at src p)
unfolding write_list
writes_list row src n p c i l pieces =
    rw (lt-leb 0x8000_0000 n l, inside_source src p i)
    (uses_up (Element row) (read_row row) (bytes_at src p) (elements_read row (bytes_at src p) c) n pieces (wrote (digits 4 n ++ bytes_at src p)))

header_fits : (h : ChunkHeader) → ValidHeader h → fits_header h ≡ true
header_fits h v =
    rw (
      signed_fits 1 h.magic v.magic,
      signed_fits 1 h.chunk_type (type_fits h.chunk_type v.type),
      lt-ltb h.entries (256 ^ 2) v.entries,
      lt-ltb h.records (256 ^ 4) v.records,
      signed_fits 8 h.timestamp v.timestamp,
      lt-ltb h.epoch (256 ^ 8) v.epoch,
      lt-ltb h.first_offset (256 ^ 8) v.first_offset,
      signed_fits 4 h.checksum v.checksum,
      lt-ltb h.data_length (256 ^ 4) v.data_length,
      lt-ltb h.trailer_length (256 ^ 4) v.trailer_length,
      lt-ltb h.bloom_size 256 v.bloom_size,
      lt-ltb h.reserved (256 ^ 3) v.reserved,
    )

is_type : (z : ℤ) → KnownType z → is_chunk_type z ≡ true
is_type z (inl e) = rw e
is_type z (inr (inl e)) = rw e
is_type z (inr (inr e)) = rw e

writes_chunk : (src : List ℕ) (h : ChunkHeader) (p : Place) → p.at + p.len ≤ length src → ValidChunk h (bytes_at src p) → write_chunk src h p ≡ wrote (encode_header h ++ bytes_at src p)
unfolding write_chunk
writes_chunk src h p i v =
    rw (is_type h.chunk_type v.header.type, header_fits h v.header, inside_source src p i, le-ltb p.len h.data_length (omega (arith, same)), le-ltb h.data_length p.len (omega (arith, same)))
    (by v.header.type)
  where
    b : List ℕ
    b = bytes_at src p

    same : p.len ≡ h.data_length
    same = sym (place_length src p i) ∙ v.as_long

    by : KnownType h.chunk_type → cond (has_entries h.chunk_type) (checked (not (eqb h.records h.entries)) value_not_admitted (used_up (repeated read_entry h.entries b 0) b (wrote (encode_header h ++ b)))) (wrote (encode_header h ++ b)) ≡ wrote (encode_header h ++ b)
    by (inl e) =
        rw (ap has_entries e, eq-eqb h.records h.entries (v.entries e).0)
        (uses_up Entry read_entry b (entry_read b) h.entries (v.entries e).1 (wrote (encode_header h ++ b)))
    by (inr (inl e)) = rw (ap has_entries e)
    by (inr (inr e)) = rw (ap has_entries e)

pub writes_field : (k : Kind) (src : List ℕ) (f : Field Place) (last : Bool) → chunk_last last k ≡ true → EndsBy (length src) f.octets → Valid k (value_in src f) → write_field k src f ≡ wrote (encode k (value_in src f))
unfolding Valid
writes_field (unsigned n most) src f last c i (e, m, l) = writes_unsigned n most f.number m l
writes_field (signed n) src f last c i (e, l) = writes_signed n f.integer l
writes_field (string form nullable) src f last c i (e, v) = writes_string form nullable src f.octets i v
writes_field (specification admits_none) src f last c i (e, v) = writes_offset admits_none f.offset v
writes_field (list rule row) src f last c i (b, e, l, pieces) =
    let at = placed src f.octets b (ap (λ v. v.octets) e) i in
    writes_list row src f.number (place_of f.octets) c at.1 l (subst (Pieces (Element row) f.number) (sym at.0) pieces)
    ∙ ap (λ t. wrote (digits 4 f.number ++ t)) (sym at.2)
writes_field chunk src f last c i (b, e, v) =
    let at = placed src f.octets b (ap (λ v. v.octets) e) i in
    writes_chunk src f.header (place_of f.octets) at.1 (subst (ValidChunk f.header) (sym at.0) v)
    ∙ ap (λ t. wrote (encode_header f.header ++ t)) (sym at.2)

-- The fields of a row, one behind another.
pub writes_row : (row : Row) (src : List ℕ) (fs : List (Field Place)) (last : Bool) → chunk_last_in last row ≡ true → PlacesEndBy (length src) fs → ValidRow row (map (value_in src) fs) → write_row row src fs ≡ wrote (encode_row row (map (value_in src) fs))
unfolding ValidRow
writes_row end src fs last c i v = refl
writes_row (k · row) src [] last c i v = refl
writes_row (k · row) src (f ∷ fs) last c i (v, vs, e, valid, more) =
    let t = both (chunk_last (last && is_end row) k) (chunk_last_in last row) c in
    rw (
      writes_field k src f (last && is_end row) t.0 i.0 (subst (Valid k) (sym (head-eq_of_cons-eq e)) valid),
      writes_row row src fs last t.1 i.1 (subst (ValidRow row) (sym (tail-eq_of_cons-eq e)) more),
    )

-- ---- What is written is well formed

-- A check that was passed.
passed : (t : Bool) (n : ℕ) (r : Encoding) (b : List ℕ) → checked t n r ≡ wrote b → (t ≡ false) × (r ≡ wrote b)
passed true n r b e = absurd (let z : ◌≡◌ {A = ℕ} 0 1 = cc in omega arith)
passed false n r b e = (refl, e)

same_bytes : (a b : List ℕ) → wrote a ≡ wrote b → b ≡ a
same_bytes a b e = cc

fits_signed_lem : (n : ℕ) (z : ℤ) → fits_signed n z ≡ true → two's.Signed n z
fits_signed_lem n (pos x) e = ltb-true x (256 ^ n / 2) e
fits_signed_lem n (negsuc x) e = ltb-true x (256 ^ n / 2) e

pub neither : (a b : Bool) → (a || b) ≡ false → (a ≡ false) × (b ≡ false)
neither true b e = absurd (differ (sym e))
neither false b e = (refl, e)

written_unsigned : (n most x : ℕ) (b : List ℕ) → write_unsigned n most x ≡ wrote b → (x ≤ most) × (x < 256 ^ n) × (b ≡ digits n x)
written_unsigned n most x b e =
    let p = passed (ltb most x || leb (256 ^ n) x) value_not_admitted (wrote (digits n x)) b e in
    let q = neither (ltb most x) (leb (256 ^ n) x) p.0 in
    (ltb-false most x q.0, leb-false (256 ^ n) x q.1, same_bytes (digits n x) b p.1)

written_signed : (n : ℕ) (z : ℤ) (b : List ℕ) → write_signed n z ≡ wrote b → two's.Signed n z × (b ≡ digits n (two's.unsigned n z))
written_signed n z b e =
    let p = passed (not (fits_signed n z)) value_not_admitted (wrote (digits n (two's.unsigned n z))) b e in
    (fits_signed_lem n z (not-false (fits_signed n z) p.0), same_bytes (digits n (two's.unsigned n z)) b p.1)

written_string : (form : Form) (nullable : Bool) (src : List ℕ) (o : Option Place) (b : List ℕ) → write_string form nullable src o ≡ wrote b → EndsBy (length src) o × ValidString form nullable (Option.map (bytes_at src) o) × (b ≡ encode_string (length_width form) (Option.map (bytes_at src) o))
unfolding write_string
written_string form nullable src none b e =
    let p = passed (not nullable) bad_length _ b e in
    (tt, not-false nullable p.0, same_bytes _ b p.1)
written_string form nullable src (some q) b e =
    let n : ℕ = length_width form in
    let p = passed (leb (256 ^ n / 2) q.len) bad_length _ b e in
    let p2 = passed (too_long form q.len) reference_too_long _ b p.1 in
    let p3 = passed (outside q src) field_cut _ b p2.1 in
    let p4 = passed (not (is_text form (bytes_at src q))) not_utf8 _ b p3.1 in
    let i : q.at + q.len ≤ length src = ltb-false (length src) (q.at + q.len) p3.0 in
    let m : length (bytes_at src q) ≡ q.len = place_length src q i in
    let l : q.len < 256 ^ n / 2 = leb-false (256 ^ n / 2) q.len p.0 in (
      i,
      (subst (λ k. k < 256 ^ n / 2) (sym m) l, valid_bytes form (bytes_at src q) (ap (too_long form) m ∙ p2.0) p4.0),
      same_bytes (digits n q.len ++ bytes_at src q) b p4.1 ∙ ap (λ k. digits n k ++ bytes_at src q) (sym m),
    )

written_offset : (admits_none : Bool) (o : OffsetSpecification) (b : List ℕ) → write_offset admits_none o ≡ wrote b → ValidOffset admits_none o × (b ≡ encode_offset o)
unfolding write_offset
written_offset admits_none None b e =
    let p = passed (not admits_none) value_not_admitted (wrote (digits 2 0)) b e in
    (not-false admits_none p.0, same_bytes (digits 2 0) b p.1)
written_offset admits_none First b e = (tt, same_bytes (digits 2 1) b e)
written_offset admits_none Last b e = (tt, same_bytes (digits 2 2) b e)
written_offset admits_none Next b e = (tt, same_bytes (digits 2 3) b e)
written_offset admits_none (Offset x) b e =
    let p = passed (leb (256 ^ 8) x) value_not_admitted (wrote (digits 2 4 ++ digits 8 x)) b e in
    (leb-false (256 ^ 8) x p.0, same_bytes (digits 2 4 ++ digits 8 x) b p.1)
written_offset admits_none (Timestamp z) b e =
    let p = passed (not (fits_signed 8 z)) value_not_admitted (wrote (digits 2 5 ++ digits 8 (two's.unsigned 8 z))) b e in
    (fits_signed_lem 8 z (not-false (fits_signed 8 z) p.0), same_bytes (digits 2 5 ++ digits 8 (two's.unsigned 8 z)) b p.1)

-- A part that reading its pieces used up is those pieces.
used_up_lem : {A : Type 0} (P : List ℕ → Type 0) (element : List ℕ → ℕ → Outcome A) (part : List ℕ) (bytes : Bytes part) → ((at : ℕ) → at ≤ length part → Gives (Piece part bytes P at) (element part at)) → (n : ℕ) (r : Encoding) (b : List ℕ) → used_up (repeated element n part 0) part r ≡ wrote b → Pieces P n part × (r ≡ wrote b)
used_up_lem P element part bytes each n r b = by (repeated element n part 0) (sound_repeated part bytes P element each n 0 (omega arith))
  where
    by : (o : Outcome Unit) → Gives (Pieced part bytes P n 0) o → used_up o part r ≡ wrote b → Pieces P n part × (r ≡ wrote b)
    by (got _ next) (a, pieces, p) e =
        let t = passed (ltb next (length part)) bytes_left r b e in
        (subst (Pieces P n) (sym (to_the_end part a next (ltb-false next (length part) t.0) p)) pieces, t.1)
    by (refused m at) p e = absurd (let z : ◌≡◌ {A = ℕ} 0 1 = cc in omega arith)

written_list : (row : Row) (src : List ℕ) → Bytes src → (n : ℕ) (p : Place) (b : List ℕ) → wide_row row ≡ true → write_list row src n p ≡ wrote b → (p.at + p.len ≤ length src) × Length 4 n × Pieces (Element row) n (bytes_at src p) × (b ≡ digits 4 n ++ bytes_at src p)
unfolding write_list
written_list row src bytes n p b w e =
    let part : List ℕ = bytes_at src p in
    let h : Bytes part = bytes_part p.len p.at src bytes in
    let t = passed (leb 0x8000_0000 n) bad_length _ b e in
    let u = passed (outside p src) field_cut _ b t.1 in
    let v = used_up_lem (Element row) (read_row row) part h (sound_element part h row (λ at l. sound_row row part h at w l)) n (wrote (digits 4 n ++ part)) b u.1 in
    (ltb-false (length src) (p.at + p.len) u.0, leb-false 0x8000_0000 n t.0, v.0, same_bytes (digits 4 n ++ part) b v.1)

header_valid : (h : ChunkHeader) → is_chunk_type h.chunk_type ≡ true → fits_header h ≡ true → ValidHeader h
header_valid h t e =
    let c2 : Bool = fits_signed 1 h.magic && fits_signed 1 h.chunk_type in
    let c3 : Bool = c2 && ltb h.entries (256 ^ 2) in
    let c4 : Bool = c3 && ltb h.records (256 ^ 4) in
    let c5 : Bool = c4 && fits_signed 8 h.timestamp in
    let c6 : Bool = c5 && ltb h.epoch (256 ^ 8) in
    let c7 : Bool = c6 && ltb h.first_offset (256 ^ 8) in
    let c8 : Bool = c7 && fits_signed 4 h.checksum in
    let c9 : Bool = c8 && ltb h.data_length (256 ^ 4) in
    let c10 : Bool = c9 && ltb h.trailer_length (256 ^ 4) in
    let c11 : Bool = c10 && ltb h.bloom_size 256 in
    let t12 = both c11 (ltb h.reserved (256 ^ 3)) e in
    let t11 = both c10 (ltb h.bloom_size 256) t12.0 in
    let t10 = both c9 (ltb h.trailer_length (256 ^ 4)) t11.0 in
    let t9 = both c8 (ltb h.data_length (256 ^ 4)) t10.0 in
    let t8 = both c7 (fits_signed 4 h.checksum) t9.0 in
    let t7 = both c6 (ltb h.first_offset (256 ^ 8)) t8.0 in
    let t6 = both c5 (ltb h.epoch (256 ^ 8)) t7.0 in
    let t5 = both c4 (fits_signed 8 h.timestamp) t6.0 in
    let t4 = both c3 (ltb h.records (256 ^ 4)) t5.0 in
    let t3 = both c2 (ltb h.entries (256 ^ 2)) t4.0 in
    let t2 = both (fits_signed 1 h.magic) (fits_signed 1 h.chunk_type) t3.0 in
    record {
      magic = fits_signed_lem 1 h.magic t2.0;
      type = types h.chunk_type t;
      entries = ltb-true h.entries (256 ^ 2) t3.1;
      records = ltb-true h.records (256 ^ 4) t4.1;
      timestamp = fits_signed_lem 8 h.timestamp t5.1;
      epoch = ltb-true h.epoch (256 ^ 8) t6.1;
      first_offset = ltb-true h.first_offset (256 ^ 8) t7.1;
      checksum = fits_signed_lem 4 h.checksum t8.1;
      data_length = ltb-true h.data_length (256 ^ 4) t9.1;
      trailer_length = ltb-true h.trailer_length (256 ^ 4) t10.1;
      bloom_size = ltb-true h.bloom_size 256 t11.1;
      reserved = ltb-true h.reserved (256 ^ 3) t12.1;
    }

written_chunk : (src : List ℕ) → Bytes src → (h : ChunkHeader) (p : Place) (b : List ℕ) → write_chunk src h p ≡ wrote b → (p.at + p.len ≤ length src) × ValidChunk h (bytes_at src p) × (b ≡ encode_header h ++ bytes_at src p)
unfolding write_chunk
written_chunk src bytes h p b e =
    let a = passed (not (is_chunk_type h.chunk_type && fits_header h)) value_not_admitted _ b e in
    let t = both (is_chunk_type h.chunk_type) (fits_header h) (not-false (is_chunk_type h.chunk_type && fits_header h) a.0) in
    let c = passed (outside p src) field_cut _ b a.1 in
    let d = passed (ltb p.len h.data_length) field_cut _ b c.1 in
    let g = passed (ltb h.data_length p.len) bytes_left _ b d.1 in
    let i : p.at + p.len ≤ length src = ltb-false (length src) (p.at + p.len) c.0 in
    let l : h.data_length ≤ p.len = ltb-false p.len h.data_length d.0 in
    let m : p.len ≤ h.data_length = ltb-false h.data_length p.len g.0 in
    let r = by (has_entries h.chunk_type) refl g.1 in (
      i,
      record { header = header_valid h t.0 t.1; as_long = place_length src p i ∙ omega (arith, l, m); entries = r.0 },
      r.1,
    )
  where
    part : List ℕ
    part = bytes_at src p

    whole : Bytes part
    whole = bytes_part p.len p.at src bytes

    by : (t : Bool) → has_entries h.chunk_type ≡ t → cond t (checked (not (eqb h.records h.entries)) value_not_admitted (used_up (repeated read_entry h.entries part 0) part (wrote (encode_header h ++ part)))) (wrote (encode_header h ++ part)) ≡ wrote b → (h.chunk_type ≡ pos 0 → (h.records ≡ h.entries) × Pieces Entry h.entries part) × (b ≡ encode_header h ++ part)
    by true t e =
        let u = passed (not (eqb h.records h.entries)) value_not_admitted _ b e in
        let v = used_up_lem Entry read_entry part whole (sound_entry part whole) h.entries (wrote (encode_header h ++ part)) b u.1 in
        ((λ _. (eqb-true h.records h.entries (not-false (eqb h.records h.entries) u.0), v.0)), same_bytes (encode_header h ++ part) b v.1)
    by false t e = ((λ z. absurd (differ (sym t ∙ ap has_entries z))), same_bytes (encode_header h ++ part) b e)

-- A field that was written, and what it was written as.
abbrev pub Written : List ℕ → Kind → Field Place → List ℕ → Type 0
Written src k f b = EndsBy (length src) f.octets × Valid k (value_in src f) × (b ≡ encode k (value_in src f))

pub written_field : (k : Kind) (src : List ℕ) → Bytes src → (f : Field Place) (b : List ℕ) → wide k ≡ true → OfKind k f → write_field k src f ≡ wrote b → Written src k f b
unfolding Valid
written_field (unsigned n most) src bytes f b w e h =
    let t = written_unsigned n most f.number b h in
    (subst (λ o. EndsBy (length src) o) (sym (ap (λ g. g.octets) e)) tt, (ap (value_in src) e, t.0, t.1), t.2)
written_field (signed n) src bytes f b w e h =
    let t = written_signed n f.integer b h in
    (subst (λ o. EndsBy (length src) o) (sym (ap (λ g. g.octets) e)) tt, (ap (value_in src) e, t.0), t.1)
written_field (string form nullable) src bytes f b w e h =
    let t = written_string form nullable src f.octets b h in
    (t.0, (ap (value_in src) e, t.1), t.2)
written_field (specification admits_none) src bytes f b w e h =
    let t = written_offset admits_none f.offset b h in
    (subst (λ o. EndsBy (length src) o) (sym (ap (λ g. g.octets) e)) tt, (ap (value_in src) e, t.0), t.1)
written_field (list rule row) src bytes f b w (p, e) h =
    let o : f.octets ≡ some p = ap (λ g. g.octets) e in
    let t = written_list row src bytes f.number p b w (ap (λ q. write_list row src f.number (place_of q)) (sym o) ∙ h) in
    (rw o t.0, (bytes_at src p, ap (value_in src) e, t.1, t.2), rw o t.3)
written_field chunk src bytes f b w (p, e) h =
    let o : f.octets ≡ some p = ap (λ g. g.octets) e in
    let t = written_chunk src bytes f.header p b (ap (λ q. write_chunk src f.header (place_of q)) (sym o) ∙ h) in
    (rw o t.0, (bytes_at src p, ap (value_in src) e, t.1), rw o t.2)

both_written : (a c : Encoding) (b : List ℕ) → followed a c ≡ wrote b → (x : List ℕ) × (y : List ℕ) × (a ≡ wrote x) × (c ≡ wrote y) × (b ≡ x ++ y)
both_written (wrote x) (wrote y) b e = (x, y, refl, refl, same_bytes (x ++ y) b e)
both_written (wrote x) (refuse n) b e = absurd (let z : ◌≡◌ {A = ℕ} 0 1 = cc in omega arith)
both_written (refuse n) c b e = absurd (let z : ◌≡◌ {A = ℕ} 0 1 = cc in omega arith)

pub written_row : (row : Row) (src : List ℕ) → Bytes src → (fs : List (Field Place)) (b : List ℕ) → wide_row row ≡ true → OfRow row fs → write_row row src fs ≡ wrote b → PlacesEndBy (length src) fs × ValidRow row (map (value_in src) fs) × (b ≡ encode_row row (map (value_in src) fs))
unfolding ValidRow
written_row end src bytes [] b w h e = (tt, refl, same_bytes [] b e)
written_row end src bytes (f ∷ fs) b w h e = absurd h
written_row (k · row) src bytes [] b w h e = absurd h
written_row (k · row) src bytes (f ∷ fs) b w h e =
    let t = both (wide k) (wide_row row) w in
    let (x, y, p, q, r) = both_written (write_field k src f) (write_row row src fs) b e in
    let i = written_field k src bytes f x t.0 h.0 p in
    let j = written_row row src bytes fs y t.1 h.1 q in
    ((i.0, j.0), (value_in src f, map (value_in src) fs, refl, i.1, j.1), r ∙ (ap (λ z. z ++ y) i.2 ∙ ap (λ z. encode k (value_in src f) ++ z) j.2))
