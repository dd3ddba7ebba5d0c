-- What is written of a field's slots, where the code goes another way than the field's kind. Assumes nothing.
use mathlib.Core.Path.{◌≡◌, refl, sym, ap}
use mathlib.Core.Bool.{Bool, true, false}
use Prim.Native.Nat.{ℕ, ◌^◌, ◌<◌}
use native.Mathlib.Omega.{arith}
use borrow.Author.Tests.{ne_eqb}
use Rattle.std.specs.Prelude.{Ok, Err}
use Rattle.wire.specs.Buffer.{Holds}
use Rattle.wire.specs.Integers.{digits}
use Rattle.wire.specs.Signed.{signed, unsigned}
use Rattle.wire.proofs.TwosComplement.{twos_complement}
use Rattle.protocol.specs.declared.offset.OffsetSpecification.TheVariants.{Offset}
use Rattle.protocol.specs.declared.refusal.Refusal.TheVariants.{ValueNotAdmitted}
use Rattle.rules.specs.Writing.{write_signed, write_offset}
use Rattle.fields.specs.Passes.{length_told, measured, put_offset}
use Rattle.fields.proofs.Encodings.{digits_size}
use Rattle.slots.specs.Unflat.{not_admitted, unflat_offset}
use Rattle.slot_writing.proofs.Narrowing.{whole_fits}

-- A signed number of eight bytes has the length of its bits, and is put as they are.
pub signed_measured : (x : ℕ) → x < 0x1_0000_0000_0000_0000 → length_told (Ok 8) ≡ measured (write_signed 8 (signed 8 x))
signed_measured x h = rw (whole_fits x h, digits_size 8 (unsigned 8 (signed 8 x)))

pub signed_bits : (x : ℕ) → x < 0x1_0000_0000_0000_0000 → digits 8 x ≡ digits 8 (unsigned 8 (signed 8 x))
signed_bits x h = ap (digits 8) (sym ((twos_complement 7).unsigned_signed x h))

-- ---- Offset specifications of a type above 5

module _ (admits_none : Bool) (k v : ℕ) (h : 5 < k) where
  type_unknown : unflat_offset admits_none k v ≡ not_admitted admits_none
  type_unknown =
      rw (ne_eqb k 0 (λ e. omega (arith, e, h)), ne_eqb k 1 (λ e. omega (arith, e, h)), ne_eqb k 2 (λ e. omega (arith, e, h)), ne_eqb k 3 (λ e. omega (arith, e, h)), ne_eqb k 4 (λ e. omega (arith, e, h)), ne_eqb k 5 (λ e. omega (arith, e, h)))

  pub unknown_measured : length_told (Err ValueNotAdmitted) ≡ measured (write_offset admits_none (unflat_offset admits_none k v))
  unfolding write_offset
  unknown_measured = rw type_unknown (by admits_none)
    where
      by : (t : Bool) → length_told (Err ValueNotAdmitted) ≡ measured (write_offset t (not_admitted t))
      by true = refl
      by false = refl

no_digits : digits 8 0 ≡ digits 8 (256 ^ 8)
unfolding digits
no_digits = refl

pub unknown_put : (admits_none : Bool) (k v : ℕ) (h : Holds) → 5 < k → admits_none ≡ true → put_offset (Offset 0) h ≡ put_offset (unflat_offset admits_none k v) h
unknown_put admits_none k v h l e = rw (type_unknown admits_none k v l, e, no_digits)
