-- Values that are put behind the first ones of padded slots make padded slots, and a field has as many slots as its kind says.
-- Assumes nothing.
use mathlib.Core.Path.{◌≡◌, refl}
use mathlib.Core.Bool.{Bool, true, false}
use mathlib.Core.List.{List, ◌++◌, append_assoc}
use mathlib.Core.Option.{Option, none, some}
use Prim.Native.Nat.{ℕ, zero, suc, ◌+◌, ◌-◌}
use native.Mathlib.Omega.{arith}
use lib.ListN.{length, drop, replicate, length-append}
use lib.Seq.{take-append_seam, drop-append-add}
use Rattle.wire.specs.Buffer.{splice}
use Rattle.protocol.specs.Fields.{Field}
use Rattle.protocol.specs.Kinds.{Kind, unsigned, signed, string, specification, list, chunk}
use Rattle.protocol.specs.declared.offset.OffsetSpecification.{OffsetSpecification}
use Rattle.protocol.specs.declared.offset.OffsetSpecification.TheVariants.{None, First, Last, Next, Offset, Timestamp}
use Rattle.protocol.specs.declared.place.Place.{Place}
use Rattle.slots.specs.Flat.{flat_octets, flat_offset, flat_field, padded}
use Rattle.slots.specs.Unflat.{slots_of}

abbrev zeros : ℕ → List ℕ
zeros n = replicate n 0

drop_zeros : (n m : ℕ) → drop n (zeros m) ≡ zeros (m - n)
drop_zeros zero m = let e : m - 0 ≡ m = omega arith in rw e
drop_zeros (suc n) zero = let e : 0 - suc n ≡ 0 = omega arith in rw e
drop_zeros (suc n) (suc m) = let e : suc m - suc n ≡ m - n = omega arith in rw e (drop_zeros n m)

pub splice_padded : (n : ℕ) (xs ys : List ℕ) → splice (padded n xs) (length xs) ys ≡ padded n (xs ++ ys)
unfolding splice padded
splice_padded n xs ys =
    let e : n - length xs - length ys ≡ n - (length xs + length ys) = omega arith in
    rw (take-append_seam, drop-append-add, drop_zeros, length-append, e, append_assoc)

-- ---- How many slots there are

octets_slots : (nullable : Bool) (o : Option Place) → length (flat_octets nullable o) ≡ 2
octets_slots false none = refl
octets_slots false (some p) = refl
octets_slots true none = refl
octets_slots true (some p) = refl

offset_slots : (o : OffsetSpecification) → length (flat_offset o) ≡ 2
offset_slots None = refl
offset_slots First = refl
offset_slots Last = refl
offset_slots Next = refl
offset_slots (Offset x) = refl
offset_slots (Timestamp z) = refl

pub field_slots_lem : (k : Kind) (f : Field Place) → length (flat_field k f) ≡ slots_of k
field_slots_lem (unsigned n most) f = refl
field_slots_lem (signed n) f = refl
field_slots_lem (string form nullable) f = octets_slots nullable f.octets
field_slots_lem (specification b) f = offset_slots f.offset
field_slots_lem (list rule row) f = refl
field_slots_lem chunk f = refl
