-- A number that is admitted up to a largest value: one that is above it is there, since what is not there is 0. Assumes nothing.
use mathlib.Core.Path.{◌≡◌, refl, ◌∙◌}
use mathlib.Core.Bool.{Bool, true, false}
use mathlib.Core.List.{List}
use Prim.Native.Nat.{ℕ, ◌+◌, ◌<◌, ◌≤◌}
use native.Mathlib.Omega.{arith}
use lib.Dec.{ltb}
use lib.ListN.{length}
use borrow.Author.Tests.{lt-ltb, le-ltb, ltb-true, ltb-false}
use Rattle.wire.specs.Integers.{big_endian, number_or_zero}
use Rattle.wire.proofs.Widths.{or_zero_lem, or_zero_cut}
use Rattle.protocol.specs.Refusals.{value_not_admitted}
use Rattle.rules.specs.Outcome.{refused}
use Rattle.rules.specs.Reading.{read_number, read_unsigned}
use Rattle.rules.proofs.Numbers.{number_there, number_cut}
use Rattle.byte_strings.specs.Stops.{stop}
use Rattle.byte_strings.specs.Stops.{Stop}

module _ (n most : ℕ) (s : List ℕ) (at v : ℕ) (e : v ≡ number_or_zero n s at) where
  by_there : (P : Type 0) → (at + n ≤ length s → v ≡ big_endian n s at → P) → (length s < at + n → v ≡ 0 → P) → P
  by_there P f g = by (ltb (length s) (at + n)) refl
    where
      by : (t : Bool) → ltb (length s) (at + n) ≡ t → P
      by true i = let h = ltb-true _ _ i in g h (e ∙ or_zero_cut n s at h)
      by false i = let h = ltb-false _ _ i in f h (e ∙ or_zero_lem n s at h)

  pub not_admitted_lem : most < v → read_unsigned n most s at ≡ refused value_not_admitted at
  unfolding read_unsigned
  not_admitted_lem l =
      by_there (read_unsigned n most s at ≡ refused value_not_admitted at)
      (λ h i. rw (number_there n s at h, lt-ltb most (big_endian n s at) (rw i at l)))
      (λ h i. absurd (omega (arith, i, l)))

  pub admitted : v ≤ most → (r : Stop) → r ≡ stop (read_number n s at) → r ≡ stop (read_unsigned n most s at)
  unfolding read_unsigned
  admitted l r f =
      f ∙ by_there (stop (read_number n s at) ≡ stop (read_unsigned n most s at))
      (λ h i. rw (number_there n s at h, le-ltb most (big_endian n s at) (rw i at l)))
      (λ h i. rw (number_cut n s at h))
