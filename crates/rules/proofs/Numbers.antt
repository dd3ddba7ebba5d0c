-- A number is read exactly if its bytes are there, and is then below 256 ^ n, so that no value of a whole width is
-- refused. Assumes nothing.
use mathlib.Core.Path.{◌≡◌, ap, refl}
use mathlib.Core.Bool.{Bool, true, false}
use mathlib.Core.List.{List}
use lib.Dec.{ltb}
use Prim.Native.Nat.{ℕ, suc, ◌+◌, ◌^◌, ◌<◌, ◌≤◌}
use lib.ListN.{length}
use borrow.Author.Tests.{lt-ltb, le-ltb, ltb-true, ltb-false}
use native.Mathlib.Omega.{arith}
use Rattle.wire.specs.Integers.{big_endian, Bytes}
use Rattle.wire.proofs.Widths.{integers}
use Rattle.protocol.specs.Fields.{number}
use Rattle.protocol.specs.Refusals.{field_cut, value_not_admitted}
use Rattle.protocol.specs.declared.place.Place.{Place}
use Rattle.rules.specs.Outcome.{Outcome, got, refused, then, refuse_if, mapped}
use Rattle.rules.specs.Reading.{read_number, read_unsigned}

module _ (n : ℕ) (s : List ℕ) (at : ℕ) where
  pub number_there : at + n ≤ length s → read_number n s at ≡ got (big_endian n s at) (at + n)
  unfolding read_number
  number_there h = ap (λ t. refuse_if t field_cut at (got (big_endian n s at) (at + n))) (le-ltb (length s) (at + n) h)

  pub number_cut : length s < at + n → read_number n s at ≡ refused field_cut at
  unfolding read_number
  number_cut h = ap (λ t. refuse_if t field_cut at (got (big_endian n s at) (at + n))) (lt-ltb (length s) (at + n) h)

  -- By whether the bytes are there.
  pub number_cases : (P : Outcome ℕ → Type 0) → (at + n ≤ length s → P (got (big_endian n s at) (at + n))) → (length s < at + n → P (refused field_cut at)) → P (read_number n s at)
  number_cases P f g = by (ltb (length s) (at + n)) refl
    where
      by : (t : Bool) → ltb (length s) (at + n) ≡ t → P (read_number n s at)
      by true e = rw (number_cut (ltb-true _ _ e)) (g (ltb-true _ _ e))
      by false e = rw (number_there (ltb-false _ _ e)) (f (ltb-false _ _ e))

  pub whole_width : (most : ℕ) → 256 ^ n ≡ suc most → Bytes s → read_unsigned n most s at ≡ mapped number (read_number n s at)
  unfolding read_unsigned
  whole_width most e b =
      number_cases
      (λ o. then o (λ x next. refuse_if (ltb most x) value_not_admitted at (got (number {P = Place} x) next)) ≡ mapped number o)
      (λ h. rw (le-ltb most (big_endian n s at) (omega (arith, (integers n).range s at b, e))))
      (λ h. refl)
