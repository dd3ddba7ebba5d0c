-- An offset specification at a place: by its type, which says whether a number follows. Assumes nothing.
use mathlib.Core.Path.{◌≡◌, refl, ◌∙◌}
use mathlib.Core.Bool.{Bool, true, false, false≢true}
use mathlib.Core.List.{List}
use Prim.Native.Nat.{ℕ, zero, suc, ◌+◌, ◌<◌, ◌≤◌}
use native.Mathlib.Omega.{arith}
use lib.ListN.{length}
use borrow.Author.Tests.{ne_eqb}
use Rattle.wire.specs.Integers.{number_or_zero}
use Rattle.wire.specs.Signed.{signed}
use Rattle.wire.proofs.Widths.{or_zero_lem}
use Rattle.protocol.specs.Fields as F
use Rattle.protocol.specs.Refusals.{value_not_admitted}
use Rattle.protocol.specs.declared.offset.OffsetSpecification.{OffsetSpecification}
use Rattle.protocol.specs.declared.offset.OffsetSpecification.TheVariants.{None, First, Last, Next, Offset, Timestamp}
use Rattle.protocol.specs.declared.place.Place.{Place}
use Rattle.rules.specs.Outcome.{got, refused, then}
use Rattle.rules.specs.Reading.{read_number, read_offset, read_timestamp, read_typed, read_specification}
use Rattle.rules.proofs.Numbers.{number_there, number_cut, number_cases}
use Rattle.byte_strings.specs.Stops.{stop}

module _ (admits_none : Bool) (s : List ℕ) (at : ℕ) where
  pub type_cut : length s < at + 2 → read_specification admits_none s at ≡ refused 6 at
  unfolding read_specification
  type_cut h = rw (number_cut 2 s at h)

  module _ (there : at + 2 ≤ length s) (k : ℕ) (e : k ≡ number_or_zero 2 s at) where
    pub typed : read_specification admits_none s at ≡ read_typed admits_none s at k (at + 2)
    unfolding read_specification
    typed = rw (number_there 2 s at there, e ∙ or_zero_lem 2 s at there)

    pub none_refused : k ≡ 0 → admits_none ≡ false → read_specification admits_none s at ≡ refused value_not_admitted at
    unfolding read_typed
    none_refused i j = rw (typed, i, j)

    -- None, first, last and next have no number.
    pub without_number : (k ≡ 0 → admits_none ≡ true) → k < 4 → (o : OffsetSpecification) × (read_specification admits_none s at ≡ got (F.offset o) (at + 2))
    unfolding read_typed
    without_number h l = rw typed (by k admits_none h l)
      where
        by : (k : ℕ) (t : Bool) → (k ≡ 0 → t ≡ true) → k < 4 → (o : OffsetSpecification) × (read_typed t s at k (at + 2) ≡ got (F.offset o) (at + 2))
        by zero true h l = (None, refl)
        by zero false h l = absurd (false≢true (h refl))
        by (suc zero) t h l = (First, refl)
        by (suc (suc zero)) t h l = (Last, refl)
        by (suc (suc (suc zero))) t h l = (Next, refl)
        by (suc (suc (suc (suc k)))) t h l = absurd (omega (arith, l))

    -- An offset and a timestamp do.
    pub with_number : 4 ≤ k → k < 6 → stop (read_number 8 s (at + 2)) ≡ stop (read_specification admits_none s at)
    unfolding read_typed read_offset read_timestamp
    with_number h l = rw typed (by k h l)
      where
        by : (k : ℕ) → 4 ≤ k → k < 6 → stop (read_number 8 s (at + 2)) ≡ stop (read_typed admits_none s at k (at + 2))
        by zero h l = absurd (omega (arith, h))
        by (suc zero) h l = absurd (omega (arith, h))
        by (suc (suc zero)) h l = absurd (omega (arith, h))
        by (suc (suc (suc zero))) h l = absurd (omega (arith, h))
        by (suc (suc (suc (suc zero)))) h l = number_cases 8 s (at + 2) (λ o. stop o ≡ stop (then o (λ x next. got (F.offset {P = Place} (Offset x)) next))) (λ _. refl) (λ _. refl)
        by (suc (suc (suc (suc (suc zero))))) h l = number_cases 8 s (at + 2) (λ o. stop o ≡ stop (then o (λ x next. got (F.offset {P = Place} (Timestamp (signed 8 x))) next))) (λ _. refl) (λ _. refl)
        by (suc (suc (suc (suc (suc (suc k)))))) h l = absurd (omega (arith, l))

    pub type_unknown : 6 ≤ k → read_specification admits_none s at ≡ refused value_not_admitted at
    unfolding read_typed
    type_unknown h =
        rw (typed, ne_eqb k 0 (λ e. omega (arith, e, h)), ne_eqb k 1 (λ e. omega (arith, e, h)), ne_eqb k 2 (λ e. omega (arith, e, h)), ne_eqb k 3 (λ e. omega (arith, e, h)), ne_eqb k 4 (λ e. omega (arith, e, h)), ne_eqb k 5 (λ e. omega (arith, e, h)))
