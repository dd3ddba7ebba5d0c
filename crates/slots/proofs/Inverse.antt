-- A field comes back from its slots, whatever stands behind them, and so do the fields of a row, one behind another. Every
-- case of the typed frame has the fields of its row. A place that does not come back is one that the writer refuses by its
-- length, and it refuses what comes back in its place for the same reason. Assumes nothing.
use mathlib.Core.Path.{◌≡◌, refl, ◌∙◌, sym, ap, ap₂}
use mathlib.Core.Bool.{Bool, true, false}
use mathlib.Core.List.{List, [], ◌∷◌, ◌++◌, append_assoc}
use mathlib.Core.Option.{Option, none, some}
use Prim.Native.Nat.{ℕ, ◌-◌}
use lib.Dec.{eqb}
use lib.IntN.{ℤ}
use lib.ListN.{length, drop, replicate}
use borrow.Author.Tests.{ne_eqb, eqb-true}
use Rattle.wire.proofs.TwosComplement.{twos_complement}
use Rattle.protocol.proofs.FrameRows.{of_table}
use Rattle.protocol.specs.Decision.{Decision, layout, unlisted_key, unlisted_version, decide}
use Rattle.protocol.specs.Fields.{Field, Fields, integer}
use Rattle.protocol.specs.Fields as F
use Rattle.protocol.specs.Frames.{fields_of, OfKind, OfRow}
use Rattle.protocol.specs.Kinds.{Kind, unsigned, signed, string, specification, list, chunk, Row, end, ◌·◌}
use Rattle.protocol.specs.Table.{row_of}
use Rattle.protocol.specs.declared.chunk.ChunkHeader.{ChunkHeader}
use Rattle.protocol.specs.declared.offset.OffsetSpecification.{OffsetSpecification}
use Rattle.protocol.specs.declared.offset.OffsetSpecification.TheVariants.{None, First, Last, Next, Offset, Timestamp}
use Rattle.protocol.specs.declared.place.Place.{Place}
use Rattle.protocol.specs.declared.kind.Form.{Form}
use Rattle.protocol.specs.declared.kind.Form.TheVariants.{Text, Reference, Bytes}
use Rattle.rules.proofs.Listed.{itself}
use Rattle.rules.specs.Writing.{Encoding, followed, write_signed, write_string, write_offset, write_chunk, write_field, write_row, write_encoded, write_decided, write_frame}
use Rattle.slots.specs.Flat.{null_length, not_null, flat_place, flat_octets, flat_offset, flat_header, flat_field, flat_row, padded, flat_frame}
use Rattle.slots.specs.Unflat.{slot, unflat_octets, unflat_offset, unflat_header, slots_of, unflat_field, unflat_row, unflat_frame, write_flat}
use Rattle.slots.specs.Inverse.{SignedOffset, SignedHeader, SignedField, SignedRow, ToldOctets, ToldField, ToldRow, FlatInverse, FlatWrites}

pub octets_back : (nullable : Bool) (o : Option Place) (rest : List ℕ) → ToldOctets nullable o → unflat_octets nullable (slot (flat_octets nullable o ++ rest) 0) (slot (flat_octets nullable o ++ rest) 1) ≡ o
octets_back false none rest h = absurd h
octets_back false (some p) rest h = refl
octets_back true none rest h = refl
octets_back true (some p) rest h = rw (ne_eqb p.len null_length h, ne_eqb p.len null_length h)

octets_behind : (nullable : Bool) (o : Option Place) (rest : List ℕ) → drop 2 (flat_octets nullable o ++ rest) ≡ rest
octets_behind false none rest = refl
octets_behind false (some p) rest = refl
octets_behind true none rest = refl
octets_behind true (some p) rest = refl

pub offset_back : (o : OffsetSpecification) (b : Bool) (rest : List ℕ) → SignedOffset o → unflat_offset b (slot (flat_offset o ++ rest) 0) (slot (flat_offset o ++ rest) 1) ≡ o
offset_back None b rest h = refl
offset_back First b rest h = refl
offset_back Last b rest h = refl
offset_back Next b rest h = refl
offset_back (Offset x) b rest h = refl
offset_back (Timestamp z) b rest h = ap (λ (y : ℤ). Timestamp y) ((twos_complement 7).signed_unsigned z h)

offset_behind : (o : OffsetSpecification) (rest : List ℕ) → drop 2 (flat_offset o ++ rest) ≡ rest
offset_behind None rest = refl
offset_behind First rest = refl
offset_behind Last rest = refl
offset_behind Next rest = refl
offset_behind (Offset x) rest = refl
offset_behind (Timestamp z) rest = refl

header_back : (h : ChunkHeader) (rest : List ℕ) → SignedHeader h → unflat_header (flat_header h ++ rest) ≡ h
header_back h rest k =
    rw ((twos_complement 7).signed_unsigned h.magic k.magic, (twos_complement 7).signed_unsigned h.chunk_type k.type, (twos_complement 7).signed_unsigned h.timestamp k.timestamp, (twos_complement 7).signed_unsigned h.checksum k.checksum)

field_back : (kind : Kind) (f : Field Place) (rest : List ℕ) → OfKind kind f → SignedField kind f → ToldField kind f → unflat_field kind (flat_field kind f ++ rest) ≡ f
field_back (unsigned n most) f rest o h t = sym o
field_back (signed n) f rest o h t = ap (λ (z : ℤ). integer z) ((twos_complement 7).signed_unsigned f.integer h) ∙ sym o
field_back (string form nullable) f rest o h t = ap (λ (x : Option Place). F.string x) (octets_back nullable f.octets rest t) ∙ sym o
field_back (specification b) f rest o h t = ap (λ (x : OffsetSpecification). F.offset x) (offset_back f.offset b rest h) ∙ sym o
field_back (list rule row) f rest (p, e) h t = rw e
field_back chunk f rest (p, e) h t = rw e (ap (λ (x : ChunkHeader). F.chunk x p) (header_back f.header (flat_place p ++ rest) h))

pub field_behind : (kind : Kind) (f : Field Place) (rest : List ℕ) → drop (slots_of kind) (flat_field kind f ++ rest) ≡ rest
field_behind (unsigned n most) f rest = refl
field_behind (signed n) f rest = refl
field_behind (string form nullable) f rest = octets_behind nullable f.octets rest
field_behind (specification b) f rest = offset_behind f.offset rest
field_behind (list rule row) f rest = refl
field_behind chunk f rest = refl

row_back : (row : Row) (fs : List (Field Place)) (rest : List ℕ) → OfRow row fs → SignedRow row fs → ToldRow row fs → unflat_row row (flat_row row fs ++ rest) ≡ fs
row_back end [] rest o h t = refl
row_back end (f ∷ fs) rest o h t = absurd o
row_back (kind · row) [] rest o h t = absurd o
row_back (kind · row) (f ∷ fs) rest (o, os) (h, hs) (t, ts) =
    ap (λ (s : List ℕ). unflat_field kind s ∷ unflat_row row (drop (slots_of kind) s)) (append_assoc (flat_field kind f) (flat_row row fs) rest)
    ∙ ap₂ (λ (a : Field Place) (b : List (Field Place)). a ∷ b)
    (field_back kind f (flat_row row fs ++ rest) o h t)
    (ap (λ (s : List ℕ). unflat_row row s) (field_behind kind f (flat_row row fs ++ rest)) ∙ row_back row fs rest os hs ts)

-- The slots behind those of the fields.
abbrev pub spare : Fields Place → List ℕ
spare f = replicate (24 - length (f.key ∷ f.version ∷ flat_row (row_of f.key f.version) f.content)) 0

pub flat_inverse : FlatInverse
unfolding flat_frame padded unflat_frame
flat_inverse f h t =
    ap (λ (c : List (Field Place)). record { key = (fields_of f).key; version = (fields_of f).version; content = c })
    (row_back (row_of (fields_of f).key (fields_of f).version) (fields_of f).content (spare (fields_of f)) (of_table f) h t)

-- ---- Writing

octets_written : (form : Form) (nullable : Bool) (src : List ℕ) (o : Option Place) (rest : List ℕ) → write_string form nullable src (unflat_octets nullable (slot (flat_octets nullable o ++ rest) 0) (slot (flat_octets nullable o ++ rest) 1)) ≡ write_string form nullable src o
unfolding write_string
octets_written Text false src none rest = refl
octets_written Reference false src none rest = refl
octets_written Bytes false src none rest = refl
octets_written form false src (some p) rest = refl
octets_written form true src none rest = refl
octets_written form true src (some p) rest = by form (eqb p.len null_length) refl
  where
    by : (form : Form) (t : Bool) → eqb p.len null_length ≡ t → write_string form true src (unflat_octets true p.at (not_null p.len)) ≡ write_string form true src (some p)
    by Text true e = rw (eqb-true p.len null_length e)
    by Reference true e = rw (eqb-true p.len null_length e)
    by Bytes true e = rw (eqb-true p.len null_length e)
    by form false e = rw (e, e)

field_written : (kind : Kind) (src : List ℕ) (f : Field Place) (rest : List ℕ) → OfKind kind f → SignedField kind f → write_field kind src (unflat_field kind (flat_field kind f ++ rest)) ≡ write_field kind src f
field_written (unsigned n most) src f rest o h = refl
field_written (signed n) src f rest o h = ap (write_signed n) ((twos_complement 7).signed_unsigned f.integer h)
field_written (string form nullable) src f rest o h = octets_written form nullable src f.octets rest
field_written (specification b) src f rest o h = ap (write_offset b) (offset_back f.offset b rest h)
field_written (list rule row) src f rest (p, e) h = rw e
field_written chunk src f rest (p, e) h = rw e (ap (λ (x : ChunkHeader). write_chunk src x p) (header_back f.header (flat_place p ++ rest) h))

row_written_lem : (row : Row) (src : List ℕ) (fs : List (Field Place)) (rest : List ℕ) → OfRow row fs → SignedRow row fs → write_row row src (unflat_row row (flat_row row fs ++ rest)) ≡ write_row row src fs
row_written_lem end src [] rest o h = refl
row_written_lem end src (f ∷ fs) rest o h = absurd o
row_written_lem (kind · row) src [] rest o h = absurd o
row_written_lem (kind · row) src (f ∷ fs) rest (o, os) (h, hs) =
    ap (λ (s : List ℕ). followed (write_field kind src (unflat_field kind s)) (write_row row src (unflat_row row (drop (slots_of kind) s)))) (append_assoc (flat_field kind f) (flat_row row fs) rest)
    ∙ ap₂ (λ (a b : Encoding). followed a b)
    (field_written kind src f (flat_row row fs ++ rest) o h)
    (ap (λ (s : List ℕ). write_row row src (unflat_row row s)) (field_behind kind f (flat_row row fs ++ rest)) ∙ row_written_lem row src fs rest os hs)

pub frame_written : (f : Fields Place) → OfRow (row_of f.key f.version) f.content → SignedRow (row_of f.key f.version) f.content → (src : List ℕ) (limit : ℕ) (out : List ℕ) → write_frame (unflat_frame (flat_frame f)) src limit out ≡ write_frame f src limit out
unfolding flat_frame padded unflat_frame write_frame
frame_written f o h src limit out = by (decide f.key f.version) refl
  where
    by : (d : Decision) → decide f.key f.version ≡ d → write_decided d (unflat_frame (flat_frame f)) src limit out ≡ write_decided d f src limit out
    by (layout k v) e =
        let i = itself f.key f.version k v e in
        rw (i.0, i.1)
        (ap (λ (c : Encoding). write_encoded f.key f.version c limit out)
        (row_written_lem (row_of f.key f.version) src f.content (spare f) o h))
    by unlisted_key e = refl
    by unlisted_version e = refl

pub flat_writes : FlatWrites
unfolding write_flat
flat_writes f h src limit out = frame_written (fields_of f) (of_table f) h src limit out
