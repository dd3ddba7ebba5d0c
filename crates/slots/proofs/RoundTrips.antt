-- The slots of a frame that was read are written as the frame is, since it comes back from them. Slots that were written stand for
-- fields whose values are read back, and each kind's slots tell such a value: so they are the slots of what is read, and the bytes
-- between are those that the slots stand for. Assumes nothing.
use mathlib.Core.Path.{◌≡◌, refl, ◌∙◌, sym, ap, ap₂, subst}
use mathlib.Core.Bool.{Bool, true, false, cond}
use mathlib.Core.List.{List, [], ◌∷◌, ◌++◌, append_assoc, append-nil, map, head-eq_of_cons-eq, tail-eq_of_cons-eq}
use mathlib.Core.Option
use mathlib.Core.Option.{Option, none, some}
use Prim.Native.Nat.{ℕ, zero, suc, ◌+◌, ◌-◌, ◌*◌, ◌/◌, ◌%◌, ◌^◌, ◌≤◌, ◌<◌}
use native.Mathlib.Nat.{pow-suc}
use native.Mathlib.Omega.{arith}
use lib.Dec.{eqb}
use lib.IntN.{ℤ, pos, negsuc}
use lib.ListN.{length as len, drop}
use lib.Seq.{get_or-drop}
use borrow.Author.Tests.{eqb-true, eqb-false, ne_eqb}
use Rattle.wire.specs.Integers.{digits}
use Rattle.wire.specs.Signed as two's
use Rattle.wire.proofs.TwosComplement.{twos_complement}
use Rattle.protocol.specs.Fields.{Field, Fields, place, bytes_at, value_in, EndsBy, PlacesEndBy}
use Rattle.protocol.specs.Frames.{OfKind, OfRow}
use Rattle.protocol.specs.Kinds.{length_width, Kind, unsigned, signed, string, specification, list, chunk, Row, end, ◌·◌}
use Rattle.protocol.specs.Table.{row_of}
use Rattle.protocol.specs.declared.kind.Form.{Form}
use Rattle.protocol.specs.declared.kind.Form.TheVariants.{Text, Reference, Bytes as Octets}
use Rattle.protocol.specs.declared.offset.OffsetSpecification.{OffsetSpecification}
use Rattle.protocol.specs.declared.offset.OffsetSpecification.TheVariants.{None, First, Last, Next, Offset, Timestamp}
use Rattle.protocol.specs.declared.place.Place.{Place}
use Rattle.rules.specs.Exactness.{frame_length}
use Rattle.rules.specs.Grammar.{Value, encode_string, encode_offset, encode_header, encode, encode_row, ValidString, ValidOffset, ValidHeader, Valid, ValidRow}
use Rattle.rules.specs.Reading.{Reading}
use Rattle.rules.specs.Writing.{place_of, write_frame}
use Rattle.rules.proofs.CompleteChunks.{type_fits}
use Rattle.rules.proofs.Gives.{choice}
use Rattle.rules.proofs.Inside.{inside, ends_later}
use Rattle.rules.proofs.Listed.{both, differ}
use Rattle.rules.proofs.Parts.{length_part}
use Rattle.rules.proofs.ReadWrite as fields
use Rattle.rules.proofs.Sound.{sound}
use Rattle.rules.proofs.WriteRead.{written_frame, reads_back}
use Rattle.slots.specs.Demand2.{ReadThenWrite, WriteThenRead}
use Rattle.slots.specs.Flat.{bits, null_length, flat_place, flat_octets, flat_offset, flat_header, flat_field, flat_row, padded, flat_frame, slots_after}
use Rattle.slots.specs.Slots.{Words, part_of, bytes_of_string, bytes_of_offset, bytes_of_header, bytes_of_field, bytes_of_row, frame_of_slots, SamePart, SameString, SameOffset, SameChunk, SameField, SameRow}
use Rattle.slots.specs.Unflat.{slot, unflat_octets, not_admitted, unflat_offset, unflat_header, slots_of, unflat_field, unflat_row, unflat_frame, write_flat}
use Rattle.slots.proofs.Fields.{plain, plain_row, plain_table, no_place, some_place, row_cases, of_row}
use Rattle.slots.proofs.Inverse.{field_behind, spare, frame_written}

-- ---- Read, then written

pub read_then_write : ReadThenWrite
unfolding write_flat
read_then_write s old limit f out b e l =
    let v = sound s limit f b e in
    let of = of_row s (row_of f.key f.version) f.content (plain_table f.key f.version) v.valid.content in
    ap (λ (r : Reading). write_frame (unflat_frame (slots_after old r)) s limit out) e
    ∙ (frame_written f of.0 of.1 s limit out ∙ fields.read_then_write s limit f out b e l)

-- ---- Written, then read

-- Slots are taken for fields of the row's kinds.
of_slots_kind : (kind : Kind) (x : List ℕ) → OfKind kind (unflat_field kind x)
of_slots_kind (unsigned n most) x = refl
of_slots_kind (signed n) x = refl
of_slots_kind (string form nullable) x = refl
of_slots_kind (specification b) x = refl
of_slots_kind (list rule row) x = (place (slot x 1) (slot x 2), refl)
of_slots_kind chunk x = (place (slot x 12) (slot x 13), refl)

of_slots : (row : Row) (x : List ℕ) → OfRow row (unflat_row row x)
of_slots end x = tt
of_slots (kind · row) x = (of_slots_kind kind x, of_slots row (drop (slots_of kind) x))

words_behind : (n : ℕ) (x : List ℕ) → Words x → Words (drop n x)
unfolding Words
words_behind n x w i = rw (get_or-drop n x i 0) (w (n + i))

word_back : (x : List ℕ) (i : ℕ) → Words x → bits (two's.signed 8 (slot x i)) ≡ slot x i
unfolding Words
word_back x i w = (twos_complement 7).unsigned_signed (slot x i) (w i)

-- The low bytes of a number do not change where a multiple of what they can hold is added.
digits_more : (n x k : ℕ) → digits n (x + 256 ^ n * k) ≡ digits n x
unfolding digits
digits_more zero x k = refl
digits_more (suc n) x k =
    let m : ℕ = 256 ^ n * k in
    let e : x + 256 ^ suc n * k ≡ x + 256 * m = rw pow-suc (omega arith) in
    let q : (x + 256 * m) / 256 ≡ x / 256 + m = omega arith in
    let r : (x + 256 * m) % 256 ≡ x % 256 = omega arith in
    rw (e, q, r, digits_more n (x / 256) k)

-- The low bytes of a signed number's 64 bits are its own bits.
low_byte : (z : ℤ) → two's.Signed 1 z → digits 1 (bits z) ≡ digits 1 (two's.unsigned 1 z)
unfolding two's.unsigned
low_byte (pos x) h = refl
low_byte (negsuc k) h =
    let e : 256 ^ 8 - 1 - k ≡ (256 ^ 1 - 1 - k) + 256 ^ 1 * (256 ^ 7 - 1) = omega (arith, h) in
    rw e (digits_more 1 (256 ^ 1 - 1 - k) (256 ^ 7 - 1))

low_four : (z : ℤ) → two's.Signed 4 z → digits 4 (bits z) ≡ digits 4 (two's.unsigned 4 z)
unfolding two's.unsigned
low_four (pos x) h = refl
low_four (negsuc k) h =
    let e : 256 ^ 8 - 1 - k ≡ (256 ^ 4 - 1 - k) + 256 ^ 4 * (256 ^ 4 - 1) = omega (arith, h) in
    rw e (digits_more 4 (256 ^ 4 - 1 - k) (256 ^ 4 - 1))

-- What is known of fields whose slots were written from src: their places lie in it, and their values are well formed.
module _ (src : List ℕ) where
  place_length : (p : Place) → EndsBy (len src) (some p) → len (bytes_at src p) ≡ p.len
  place_length p i = length_part p.len p.at src i

  -- No length of a text or byte string is the one that stands for null.
  short : (form : Form) (l : ℕ) → l < 256 ^ length_width form / 2 → l ≡ null_length → ⊥
  short Text l h e = omega (arith, h, e)
  short Reference l h e = omega (arith, h, e)
  short Octets l h e = omega (arith, h, e)

  -- ---- The bytes

  string_there : (form : Form) (nullable : Bool) (p : Place) → EndsBy (len src) (some p) → ValidString form nullable (some (bytes_at src p)) → bytes_of_string (length_width form) p.at p.len src ≡ encode_string (length_width form) (some (bytes_at src p))
  string_there form nullable p i v =
      let n : ℕ = length_width form in
      let e = place_length p i in
      let l : p.len < 256 ^ n / 2 = subst (λ m. m < 256 ^ n / 2) e v.0 in
      rw (ne_eqb p.len null_length (short form p.len l)) (ap (λ m. digits n m ++ bytes_at src p) (sym e))

  string_bytes : (form : Form) (nullable : Bool) (at l : ℕ) → EndsBy (len src) (unflat_octets nullable at l) → ValidString form nullable (Option.map (bytes_at src) (unflat_octets nullable at l)) → bytes_of_string (length_width form) at l src ≡ encode_string (length_width form) (Option.map (bytes_at src) (unflat_octets nullable at l))
  string_bytes form false at l i v = string_there form false (place at l) i v
  string_bytes form true at l i v = by (eqb l null_length) refl i v
    where
      n : ℕ
      n = length_width form

      by : (t : Bool) → eqb l null_length ≡ t → EndsBy (len src) (cond t none (some (place at l))) → ValidString form true (Option.map (bytes_at src) (cond t none (some (place at l)))) → bytes_of_string n at l src ≡ encode_string n (Option.map (bytes_at src) (cond t none (some (place at l))))
      by true e i v = rw e
      by false e i v = string_there form true (place at l) i v

  -- What an offset specification's slots are taken for, by their type.
  offset_cases : (P : ℕ → OffsetSpecification → Type 0) (b : Bool) (type value : ℕ) → P 0 None → P 1 First → P 2 Last → P 3 Next → P 4 (Offset value) → P 5 (Timestamp (two's.signed 8 value)) → ValidOffset b (unflat_offset b type value) → P type (unflat_offset b type value)
  offset_cases P b type value p0 p1 p2 p3 p4 p5 =
      is 0 (λ o. ValidOffset b o → P type o) None (λ e _. subst (λ t. P t None) (sym e) p0)
      (is 1 (λ o. ValidOffset b o → P type o) First (λ e _. subst (λ t. P t First) (sym e) p1)
      (is 2 (λ o. ValidOffset b o → P type o) Last (λ e _. subst (λ t. P t Last) (sym e) p2)
      (is 3 (λ o. ValidOffset b o → P type o) Next (λ e _. subst (λ t. P t Next) (sym e) p3)
      (is 4 (λ o. ValidOffset b o → P type o) (Offset value) (λ e _. subst (λ t. P t (Offset value)) (sym e) p4)
      (is 5 (λ o. ValidOffset b o → P type o) (Timestamp (two's.signed 8 value)) (λ e _. subst (λ t. P t (Timestamp (two's.signed 8 value))) (sym e) p5)
      (none_admitted b))))))
    where
      is : (n : ℕ) (Q : OffsetSpecification → Type 0) (a : OffsetSpecification) {r : OffsetSpecification} → (type ≡ n → Q a) → Q r → Q (cond (eqb type n) a r)
      is n Q a {r} f g = choice Q (eqb type n) a r (λ e. f (eqb-true type n e)) (λ _. g)

      none_admitted : (b : Bool) → ValidOffset b (not_admitted b) → P type (not_admitted b)
      none_admitted false v = absurd (differ v)
      none_admitted true v = absurd (let h : 256 ^ 8 < 256 ^ 8 = v in omega (arith, h))

  offset_bytes : (x : List ℕ) (b : Bool) → Words x → ValidOffset b (unflat_offset b (slot x 0) (slot x 1)) → bytes_of_offset (slot x 0) (slot x 1) ≡ encode_offset (unflat_offset b (slot x 0) (slot x 1))
  offset_bytes x b w =
      offset_cases (λ t o. bytes_of_offset t (slot x 1) ≡ encode_offset o) b (slot x 0) (slot x 1)
      (append-nil (digits 2 0)) (append-nil (digits 2 1)) (append-nil (digits 2 2)) (append-nil (digits 2 3)) refl
      (ap (λ v. digits 2 5 ++ digits 8 v) (sym (word_back x 1 w)))

  header_bytes : (x : List ℕ) → Words x → ValidHeader (unflat_header x) → bytes_of_header x ≡ encode_header (unflat_header x)
  header_bytes x w v =
      rw (
        ← low_byte (unflat_header x).magic v.magic,
        ← low_byte (unflat_header x).chunk_type (type_fits (unflat_header x).chunk_type v.type),
        ← low_four (unflat_header x).checksum v.checksum,
        word_back x 0 w,
        word_back x 1 w,
        word_back x 4 w,
        word_back x 7 w,
      )

  field_bytes : (kind : Kind) (x : List ℕ) → plain kind ≡ true → Words x → EndsBy (len src) (unflat_field kind x).octets → Valid kind (value_in src (unflat_field kind x)) → bytes_of_field kind x src ≡ encode kind (value_in src (unflat_field kind x))
  unfolding Valid
  field_bytes (unsigned n most) x p w i v = refl
  field_bytes (signed n) x p w i v = absurd (differ p)
  field_bytes (string form nullable) x p w i v = string_bytes form nullable (slot x 0) (slot x 1) i v.1
  field_bytes (specification b) x p w i v = offset_bytes x b w v.1
  field_bytes (list rule row) x p w i v = refl
  field_bytes chunk x p w i v = ap (λ h. h ++ part_of src (slot x 12) (slot x 13)) (header_bytes x w v.2.header)

  row_bytes : (row : Row) (x : List ℕ) → plain_row row ≡ true → Words x → PlacesEndBy (len src) (unflat_row row x) → ValidRow row (map (value_in src) (unflat_row row x)) → bytes_of_row row x src ≡ encode_row row (map (value_in src) (unflat_row row x))
  row_bytes end x p w i v = refl
  row_bytes (kind · row) x p w i v =
      let q = both (plain kind) (plain_row row) p in
      let c = row_cases src kind row (unflat_field kind x) (unflat_row row (drop (slots_of kind) x)) v in
      ap₂ (λ a b. a ++ b) (field_bytes kind x q.0 w i.0 c.0) (row_bytes row (drop (slots_of kind) x) q.1 (words_behind (slots_of kind) x w) i.1 c.1)

  -- ---- The slots that are read back

  -- The bytes of a place in src, at a place of what is read back.
  module _ (after : List ℕ) where
    same_part : (p q : Place) → EndsBy (len src) (some p) → EndsBy (len after) (some q) → bytes_at after q ≡ bytes_at src p → SamePart p.at p.len src q.at q.len after
    same_part p q i j e =
        record { length = sym (place_length p i) ∙ (ap len (sym e) ∙ length_part q.len q.at after j); bytes = sym e }

    -- A place where there are bytes.
    same_place : (o : Option Place) (p : Place) → EndsBy (len src) (some p) → EndsBy (len after) o → Option.map (bytes_at after) o ≡ some (bytes_at src p) → (q : Place) × (o ≡ some q) × SamePart p.at p.len src q.at q.len after
    same_place o p i j e =
        let t = some_place after o (bytes_at src p) e in
        (t.0, t.1, same_part p t.0 i (subst (EndsBy (len after)) t.1 j) t.2)

    same_octets : (form : Form) (nullable : Bool) (at l : ℕ) (o : Option Place) (rest : List ℕ) → EndsBy (len src) (unflat_octets nullable at l) → ValidString form nullable (Option.map (bytes_at src) (unflat_octets nullable at l)) → EndsBy (len after) o → Option.map (bytes_at after) o ≡ Option.map (bytes_at src) (unflat_octets nullable at l) → SameString at l src (slot (flat_octets nullable o ++ rest) 0) (slot (flat_octets nullable o ++ rest) 1) after
    same_octets form false at l o rest i v j e =
        let (q, is, s) = same_place o (place at l) i j e in
        subst (λ z. SameString at l src (slot (flat_octets false z ++ rest) 0) (slot (flat_octets false z ++ rest) 1) after) (sym is)
        (record { length = s.length; bytes = λ _. s.bytes })
    same_octets form true at l o rest i v j e = by (eqb l null_length) refl i e
      where
        Same : Option Place → Type 0
        Same z = SameString at l src (slot (flat_octets true z ++ rest) 0) (slot (flat_octets true z ++ rest) 1) after

        by : (t : Bool) → eqb l null_length ≡ t → EndsBy (len src) (cond t none (some (place at l))) → Option.map (bytes_at after) o ≡ Option.map (bytes_at src) (cond t none (some (place at l))) → Same o
        by true n i e =
            let null : l ≡ null_length = eqb-true l null_length n in
            subst Same (sym (no_place after o e)) (record { length = null; bytes = λ k. absurd (k null) })
        by false n i e =
            let (q, is, s) = same_place o (place at l) i j e in
            let k : q.len ≡ null_length → ⊥ = λ z. eqb-false l null_length n (s.length ∙ z) in
            subst Same (sym is) (rw (ne_eqb q.len null_length k) (record { length = s.length; bytes = λ _. s.bytes }))

    same_offset : (x : List ℕ) (b : Bool) (rest : List ℕ) → Words x → ValidOffset b (unflat_offset b (slot x 0) (slot x 1)) → SameOffset (slot x 0) (slot x 1) (slot (flat_offset (unflat_offset b (slot x 0) (slot x 1)) ++ rest) 0) (slot (flat_offset (unflat_offset b (slot x 0) (slot x 1)) ++ rest) 1)
    same_offset x b rest w =
        offset_cases (λ t o. SameOffset t (slot x 1) (slot (flat_offset o ++ rest) 0) (slot (flat_offset o ++ rest) 1)) b (slot x 0) (slot x 1)
        (record { type = refl; value = λ h. absurd (omega (arith, h)) })
        (record { type = refl; value = λ h. absurd (omega (arith, h)) })
        (record { type = refl; value = λ h. absurd (omega (arith, h)) })
        (record { type = refl; value = λ h. absurd (omega (arith, h)) })
        (record { type = refl; value = λ _. refl })
        (record { type = refl; value = λ _. sym (word_back x 1 w) })

    same_header : (x : List ℕ) (rest : List ℕ) → Words x → (i : ℕ) → i < 12 → slot x i ≡ slot (flat_header (unflat_header x) ++ rest) i
    same_header x rest w zero h = sym (word_back x 0 w)
    same_header x rest w (suc zero) h = sym (word_back x 1 w)
    same_header x rest w (suc (suc zero)) h = refl
    same_header x rest w (suc (suc (suc zero))) h = refl
    same_header x rest w (suc (suc (suc (suc zero)))) h = sym (word_back x 4 w)
    same_header x rest w (suc (suc (suc (suc (suc zero))))) h = refl
    same_header x rest w (suc (suc (suc (suc (suc (suc zero)))))) h = refl
    same_header x rest w (suc (suc (suc (suc (suc (suc (suc zero))))))) h = sym (word_back x 7 w)
    same_header x rest w (suc (suc (suc (suc (suc (suc (suc (suc zero)))))))) h = refl
    same_header x rest w (suc (suc (suc (suc (suc (suc (suc (suc (suc zero))))))))) h = refl
    same_header x rest w (suc (suc (suc (suc (suc (suc (suc (suc (suc (suc zero)))))))))) h = refl
    same_header x rest w (suc (suc (suc (suc (suc (suc (suc (suc (suc (suc (suc zero))))))))))) h = refl
    same_header x rest w (suc (suc (suc (suc (suc (suc (suc (suc (suc (suc (suc (suc k)))))))))))) h = absurd (omega (arith, h))

    same_field : (kind : Kind) (x : List ℕ) (g : Field Place) (rest : List ℕ) → plain kind ≡ true → Words x → EndsBy (len src) (unflat_field kind x).octets → Valid kind (value_in src (unflat_field kind x)) → EndsBy (len after) g.octets → value_in after g ≡ value_in src (unflat_field kind x) → SameField kind x src (flat_field kind g ++ rest) after
    unfolding Valid
    same_field (unsigned n most) x g rest p w i v j e = sym (ap (λ (z : Value). z.number) e)
    same_field (signed n) x g rest p w i v j e = absurd (differ p)
    same_field (string form nullable) x g rest p w i v j e = same_octets form nullable (slot x 0) (slot x 1) g.octets rest i v.1 j (ap (λ (z : Value). z.octets) e)
    same_field (specification b) x g rest p w i v j e =
        subst (λ o. SameOffset (slot x 0) (slot x 1) (slot (flat_offset o ++ rest) 0) (slot (flat_offset o ++ rest) 1)) (sym (ap (λ (z : Value). z.offset) e))
        (same_offset x b rest w v.1)
    same_field (list rule row) x g rest p w i v j e =
        let (q, is, s) = same_place g.octets (place (slot x 1) (slot x 2)) i j (ap (λ (z : Value). z.octets) e) in
        (sym (ap (λ (z : Value). z.number) e), subst (λ o. SamePart (slot x 1) (slot x 2) src (place_of o).at (place_of o).len after) (sym is) s)
    same_field chunk x g rest p w i v j e =
        let (q, is, s) = same_place g.octets (place (slot x 12) (slot x 13)) i j (ap (λ (z : Value). z.octets) e) in
        let h : g.header ≡ unflat_header x = ap (λ (z : Value). z.header) e in
        subst (λ k. SameChunk x src ((flat_header k ++ flat_place (place_of g.octets)) ++ rest) after) (sym h)
        (subst (λ o. SameChunk x src ((flat_header (unflat_header x) ++ flat_place (place_of o)) ++ rest) after) (sym is)
        (record {
          header = λ n l. same_header x (flat_place q ++ rest) w n l;
          content = s;
        }))

    same_row : (row : Row) (x : List ℕ) (gs : List (Field Place)) (rest : List ℕ) → plain_row row ≡ true → Words x → PlacesEndBy (len src) (unflat_row row x) → ValidRow row (map (value_in src) (unflat_row row x)) → PlacesEndBy (len after) gs → map (value_in after) gs ≡ map (value_in src) (unflat_row row x) → SameRow row x src (flat_row row gs ++ rest) after
    same_row end x gs rest p w i v j e = tt
    same_row (kind · row) x [] rest p w i v j e = absurd (let z : ◌≡◌ {A = ℕ} 0 1 = cc (e) in omega (arith, z))
    same_row (kind · row) x (g ∷ gs) rest p w i v j e =
        let q = both (plain kind) (plain_row row) p in
        let c = row_cases src kind row (unflat_field kind x) (unflat_row row (drop (slots_of kind) x)) v in
        subst (λ y. SameField kind x src y after × SameRow row (drop (slots_of kind) x) src (drop (slots_of kind) y) after) (sym (append_assoc (flat_field kind g) (flat_row row gs) rest)) (
          same_field kind x g (flat_row row gs ++ rest) q.0 w i.0 c.0 j.0 (head-eq_of_cons-eq e),
          subst (λ y. SameRow row (drop (slots_of kind) x) src y after) (sym (field_behind kind g (flat_row row gs ++ rest)))
              (same_row row (drop (slots_of kind) x) gs rest q.1 (words_behind (slots_of kind) x w) i.1 c.1 j.1 (tail-eq_of_cons-eq e)),
        )

pub write_then_read : WriteThenRead
unfolding write_flat unflat_frame flat_frame padded frame_of_slots
write_then_read x src limit out n w b e =
    let row : Row = row_of (slot x 0) (slot x 1) in
    let written = written_frame (unflat_frame x) src limit out n b (of_slots row (drop 2 x)) e in
    let back = reads_back (unflat_frame x) src limit out n _ written in
    let g : Fields Place = back.back.0 in
    let values = back.back.2 in
    let key : g.key ≡ slot x 0 = ap (λ (v : Fields (List ℕ)). v.key) values in
    let version : g.version ≡ slot x 1 = ap (λ (v : Fields (List ℕ)). v.version) values in
    let content = row_bytes src row (drop 2 x) (plain_table (slot x 0) (slot x 1)) (words_behind 2 x w) written.places written.valid.content in
    let within : frame_length after ≤ len after = omega (arith, back.answer, back.room, back.as_long) in
    let places : PlacesEndBy (len after) g.content = ends_later (frame_length after) (len after) g.content within (inside after limit g back.back.1) in
    record {
      wrote = back;
      bytes = back.bytes ∙ sym (ap (λ (c : List ℕ). digits 4 (4 + len c) ++ (digits 2 (slot x 0) ++ (digits 2 (slot x 1) ++ c))) content);
      same =
          record {
            key = sym key;
            version = sym version;
            content =
                subst (λ (r : Row). SameRow row (drop 2 x) src (flat_row r g.content ++ spare g) after) (sym (ap₂ row_of key version))
                (same_row src after row (drop 2 x) g.content (spare g) (plain_table (slot x 0) (slot x 1)) (words_behind 2 x w) written.places written.valid.content places (ap (λ (v : Fields (List ℕ)). v.content) values));
          };
    }
  where
    after : List ℕ
    after = (write_frame (unflat_frame x) src limit out).out
