-- A null and an offset specification without a value are put with 0 beside them, a length that was read is never the one of a
-- null, and what is left is filled up with 0. Assumes nothing.
use mathlib.Core.Path.{◌≡◌, refl, sym, subst}
use mathlib.Core.Bool.{Bool, true, false}
use mathlib.Core.List.{List, [], ◌∷◌, ◌++◌, append_assoc}
use mathlib.Core.Option.{Option, none, some}
use Prim.Native.Nat.{ℕ, zero, suc, ◌-◌, ◌<◌}
use native.Mathlib.Omega.{arith}
use lib.ListN.{length, drop, replicate}
use borrow.Author.Tests.{ne_eqb}
use Rattle.wire.proofs.Widths.{integers}
use Rattle.protocol.specs.Fields.{Field, EndsBy, PlacesEndBy}
use Rattle.protocol.specs.Frames.{OfRow}
use Rattle.protocol.specs.Kinds.{Kind, unsigned, signed, string, specification, list, chunk, Row, end, ◌·◌}
use Rattle.protocol.specs.Table.{row_of}
use Rattle.protocol.specs.declared.offset.OffsetSpecification.{OffsetSpecification}
use Rattle.protocol.specs.declared.offset.OffsetSpecification.TheVariants.{None, First, Last, Next, Offset, Timestamp}
use Rattle.protocol.specs.declared.place.Place.{Place}
use Rattle.rules.specs.Exactness.{frame_length}
use Rattle.rules.specs.Reading.{Reading}
use Rattle.rules.proofs.Inside.{inside}
use Rattle.rules.proofs.Sound.{sound}
use Rattle.slots.specs.Demand2.{OthersAreZero}
use Rattle.slots.specs.Flat.{null_length, not_null, flat_octets, flat_offset, flat_field, flat_row, padded, flat_frame, slots_after}
use Rattle.slots.specs.Slots.{ZeroField, ZeroRow}
use Rattle.slots.specs.Unflat.{slot, slots_of}
use Rattle.slots.proofs.Fields.{plain_table, of_row}
use Rattle.slots.proofs.Inverse.{field_behind, spare}

zero_slot : (n i : ℕ) → slot (replicate n 0) i ≡ 0
zero_slot zero i = refl
zero_slot (suc n) zero = refl
zero_slot (suc n) (suc i) = zero_slot n i

module _ (m : ℕ) (below : m < null_length) where
  octets_zero : (nullable : Bool) (o : Option Place) (rest : List ℕ) → EndsBy m o → slot (flat_octets nullable o ++ rest) 1 ≡ null_length → slot (flat_octets nullable o ++ rest) 0 ≡ 0
  octets_zero false none rest i e = refl
  octets_zero true none rest i e = refl
  octets_zero false (some p) rest i e = absurd (omega (arith, below, i, e))
  octets_zero true (some p) rest i e =
      let short : p.len ≡ null_length → ⊥ = λ z. omega (arith, below, i, z) in
      let same : not_null p.len ≡ p.len = rw (ne_eqb p.len null_length short) in
      absurd (omega (arith, below, i, e, same))

  offset_zero : (o : OffsetSpecification) (rest : List ℕ) → slot (flat_offset o ++ rest) 0 < 4 → slot (flat_offset o ++ rest) 1 ≡ 0
  offset_zero None rest h = refl
  offset_zero First rest h = refl
  offset_zero Last rest h = refl
  offset_zero Next rest h = refl
  offset_zero (Offset x) rest h = absurd (omega (arith, h))
  offset_zero (Timestamp z) rest h = absurd (omega (arith, h))

  field_zero : (kind : Kind) (f : Field Place) (rest : List ℕ) → EndsBy m f.octets → ZeroField kind (flat_field kind f ++ rest)
  field_zero (unsigned n most) f rest i = tt
  field_zero (signed n) f rest i = tt
  field_zero (string form nullable) f rest i = octets_zero nullable f.octets rest i
  field_zero (specification b) f rest i = offset_zero f.offset rest
  field_zero (list rule row) f rest i = tt
  field_zero chunk f rest i = tt

  row_zero : (row : Row) (fs : List (Field Place)) (rest : List ℕ) → ((i : ℕ) → slot rest i ≡ 0) → OfRow row fs → PlacesEndBy m fs → ZeroRow row (flat_row row fs ++ rest)
  row_zero end [] rest z o i = z
  row_zero end (f ∷ fs) rest z o i = absurd o
  row_zero (kind · row) [] rest z o i = absurd o
  row_zero (kind · row) (f ∷ fs) rest z o i =
      subst (λ y. ZeroField kind y × ZeroRow row (drop (slots_of kind) y)) (sym (append_assoc (flat_field kind f) (flat_row row fs) rest)) (
        field_zero kind f (flat_row row fs ++ rest) i.0,
        subst (ZeroRow row) (sym (field_behind kind f (flat_row row fs ++ rest))) (row_zero row fs rest z o.1 i.1),
      )

pub others_are_zero : OthersAreZero
unfolding flat_frame padded
others_are_zero s old limit f b e =
    let v = sound s limit f b e in
    let row : Row = row_of f.key f.version in
    let of = of_row s row f.content (plain_table f.key f.version) v.valid.content in
    let below : frame_length s < null_length = omega (arith, (integers 4).range s 0 b) in
    subst (λ (r : Reading). ZeroRow row (drop 2 (slots_after old r))) (sym e) (row_zero (frame_length s) below row f.content (spare f) (zero_slot (24 - length (f.key ∷ f.version ∷ flat_row row f.content))) of.0 (inside s limit f e))
