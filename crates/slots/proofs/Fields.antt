-- Fields whose values are well formed have their kind's parts and no other, and their signed numbers have 64 bits; where their
-- places end within a buffer, none has the length that stands for null. Assumes nothing.
use mathlib.Core.Path.{◌≡◌, refl, ◌∙◌, sym, ap, subst}
use mathlib.Core.Bool.{Bool, true, false, ◌&&◌}
use mathlib.Core.List.{List, [], ◌∷◌, map}
use mathlib.Core.Option
use mathlib.Core.Option.{Option, none, some}
use Prim.Native.Nat.{ℕ, ◌<◌}
use native.Mathlib.Omega.{arith}
use lib.IntN.{ℤ, pos, negsuc}
use Rattle.wire.specs.Signed as two's
use Rattle.protocol.specs.Fields.{Field, number, integer, elements, value_in, EndsBy}
use Rattle.protocol.specs.Fields as F
use Rattle.protocol.specs.Frames.{OfKind, OfRow}
use Rattle.protocol.specs.Kinds.{Kind, unsigned, signed, string, specification, list, chunk, Row, end, ◌·◌}
use Rattle.protocol.specs.Table.{table, row_of}
use Rattle.protocol.specs.declared.chunk.ChunkHeader.{ChunkHeader}
use Rattle.protocol.specs.declared.kind.Form.{Form}
use Rattle.protocol.specs.declared.offset.OffsetSpecification.{OffsetSpecification}
use Rattle.protocol.specs.declared.offset.OffsetSpecification.TheVariants.{None, First, Last, Next, Offset, Timestamp}
use Rattle.protocol.specs.declared.place.Place.{Place}
use Rattle.rules.specs.Grammar.{ValidOffset, ValidHeader, ValidString, Valid, ValidRow}
use Rattle.rules.proofs.CompleteChunks.{type_fits}
use Rattle.rules.proofs.Listed.{both, row_passes, differ}
use Rattle.slots.specs.Flat.{null_length}
use Rattle.slots.specs.Inverse.{SignedOffset, SignedHeader, SignedField, SignedRow, ToldOctets}

-- Kinds that a frame has as fields of its own; a signed number stands only in an element.
abbrev pub plain : Kind → Bool
plain (unsigned n most) = true
plain (signed n) = false
plain (string form nullable) = true
plain (specification admits_none) = true
plain (list rule row) = true
plain chunk = true

abbrev pub plain_row : Row → Bool
plain_row end = true
plain_row (kind · row) = plain kind && plain_row row

pub plain_table : (k v : ℕ) → plain_row (row_of k v) ≡ true
unfolding table
plain_table k v = row_passes (λ row. plain_row row) refl table k v refl

-- ---- Signed numbers

pub offset_fits : (admits_none : Bool) (o : OffsetSpecification) → ValidOffset admits_none o → SignedOffset o
offset_fits b None h = tt
offset_fits b First h = tt
offset_fits b Last h = tt
offset_fits b Next h = tt
offset_fits b (Offset x) h = tt
offset_fits b (Timestamp z) h = h

byte_fits : (z : ℤ) → two's.Signed 1 z → two's.Signed 8 z
byte_fits (pos x) h = omega (arith, h)
byte_fits (negsuc k) h = omega (arith, h)

four_fits : (z : ℤ) → two's.Signed 4 z → two's.Signed 8 z
four_fits (pos x) h = omega (arith, h)
four_fits (negsuc k) h = omega (arith, h)

header_fits : (h : ChunkHeader) → ValidHeader h → SignedHeader h
header_fits h v =
    record {
      magic = byte_fits h.magic v.magic;
      type = byte_fits h.chunk_type (type_fits h.chunk_type v.type);
      timestamp = v.timestamp;
      checksum = four_fits h.checksum v.checksum;
    }

-- ---- The parts of a field

module _ (s : List ℕ) where
  -- Where there are no bytes, there is no place, and where there are some, there is one.
  pub no_place : (o : Option Place) → Option.map (F.bytes_at s) o ≡ none → o ≡ none
  no_place none e = refl
  no_place (some p) e = cc (e)

  pub some_place : (o : Option Place) (b : List ℕ) → Option.map (F.bytes_at s) o ≡ some b → (p : Place) × (o ≡ some p) × (F.bytes_at s p ≡ b)
  some_place none b e = absurd (let z : ◌≡◌ {A = ℕ} 0 1 = cc (e) in omega (arith, z))
  some_place (some p) b e = (p, refl, cc (e))

  -- A field whose value has only some parts has only these.
  parts : (f g : Field Place) → value_in s f ≡ value_in s g → f.octets ≡ g.octets → f ≡ g
  parts f g e o =
      ap (λ (x : ℕ). record { number = x; integer = f.integer; octets = f.octets; offset = f.offset; header = f.header }) (ap (λ (v : Field (List ℕ)). v.number) e)
      ∙ ap (λ (x : ℤ). record { number = g.number; integer = x; octets = f.octets; offset = f.offset; header = f.header }) (ap (λ (v : Field (List ℕ)). v.integer) e)
      ∙ ap (λ (x : Option Place). record { number = g.number; integer = g.integer; octets = x; offset = f.offset; header = f.header }) o
      ∙ ap (λ (x : OffsetSpecification). record { number = g.number; integer = g.integer; octets = g.octets; offset = x; header = f.header }) (ap (λ (v : Field (List ℕ)). v.offset) e)
      ∙ ap (λ (x : ChunkHeader). record { number = g.number; integer = g.integer; octets = g.octets; offset = g.offset; header = x }) (ap (λ (v : Field (List ℕ)). v.header) e)

  octets_of_lem : (v w : Field (List ℕ)) → v ≡ w → v.octets ≡ w.octets
  octets_of_lem v w e = ap (λ (x : Field (List ℕ)). x.octets) e

  pub of_kind : (kind : Kind) (f : Field Place) → Valid kind (value_in s f) → OfKind kind f
  unfolding Valid
  of_kind (unsigned n most) f v = parts f (number f.number) v.0 (no_place f.octets (octets_of_lem _ _ v.0))
  of_kind (signed n) f v = parts f (integer f.integer) v.0 (no_place f.octets (octets_of_lem _ _ v.0))
  of_kind (string form nullable) f v = parts f (F.string f.octets) v.0 refl
  of_kind (specification b) f v = parts f (F.offset f.offset) v.0 (no_place f.octets (octets_of_lem _ _ v.0))
  of_kind (list rule row) f (b, e, l, x) =
      let p = some_place f.octets b (octets_of_lem _ _ e) in
      (p.0, parts f (elements f.number p.0) (e ∙ sym (ap (elements f.number) p.2)) p.1)
  of_kind chunk f (b, e, x) =
      let p = some_place f.octets b (octets_of_lem _ _ e) in
      (p.0, parts f (F.chunk f.header p.0) (e ∙ sym (ap (F.chunk f.header) p.2)) p.1)

  signed_field : (kind : Kind) (f : Field Place) → plain kind ≡ true → Valid kind (value_in s f) → SignedField kind f
  unfolding Valid
  signed_field (unsigned n most) f p v = tt
  signed_field (signed n) f p v = absurd (differ p)
  signed_field (string form nullable) f p v = tt
  signed_field (specification b) f p v = offset_fits b f.offset v.1
  signed_field (list rule row) f p v = tt
  signed_field chunk f p v = header_fits f.header v.2.header

  -- The values of a row, one by one.
  pub row_cases : (kind : Kind) (row : Row) (f : Field Place) (fs : List (Field Place)) → ValidRow (kind · row) (map (value_in s) (f ∷ fs)) → Valid kind (value_in s f) × ValidRow row (map (value_in s) fs)
  unfolding ValidRow
  row_cases kind row f fs (w, ws, e, v, vs) =
      let first : w ≡ value_in s f = cc (e) in
      let others : ws ≡ map (value_in s) fs = cc (e) in
      (subst (Valid kind) first v, subst (ValidRow row) others vs)

  pub no_more : (f : Field Place) (fs : List (Field Place)) → ValidRow end (map (value_in s) (f ∷ fs)) → ⊥
  unfolding ValidRow
  no_more f fs v = absurd (let z : ◌≡◌ {A = ℕ} 0 1 = cc (v) in omega (arith, z))

  pub no_fewer : (kind : Kind) (row : Row) → ValidRow (kind · row) (map (value_in s) []) → ⊥
  unfolding ValidRow
  no_fewer kind row (w, ws, e, v, vs) = absurd (let z : ◌≡◌ {A = ℕ} 0 1 = cc (e) in omega (arith, z))

  pub of_row : (row : Row) (fs : List (Field Place)) → plain_row row ≡ true → ValidRow row (map (value_in s) fs) → OfRow row fs × SignedRow row fs
  of_row end [] p v = (tt, tt)
  of_row end (f ∷ fs) p v = absurd (no_more f fs v)
  of_row (kind · row) [] p v = absurd (no_fewer kind row v)
  of_row (kind · row) (f ∷ fs) p v =
      let q = both (plain kind) (plain_row row) p in
      let c = row_cases kind row f fs v in
      let r = of_row row fs q.1 c.1 in
      ((of_kind kind f c.0, r.0), (signed_field kind f q.0 c.0, r.1))

  pub told_octets : (m : ℕ) → m < null_length → (form : Form) (nullable : Bool) (o : Option Place) → ValidString form nullable (Option.map (F.bytes_at s) o) → EndsBy m o → ToldOctets nullable o
  told_octets m below form false none v i = absurd (differ v)
  told_octets m below form false (some p) v i = tt
  told_octets m below form true none v i = tt
  told_octets m below form true (some p) v i = λ e. omega (arith, below, e, i)
