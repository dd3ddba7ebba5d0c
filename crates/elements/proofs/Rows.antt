-- The fields of a row, one after another: the first that is refused is the row's refusal, and without one the row ends where its last
-- field does. Assumes nothing.
use mathlib.Core.Path.{◌≡◌, refl}
use mathlib.Core.List.{List, ◌∷◌}
use Rattle.std.specs.Prelude.{Ok, Err}
use Prim.Native.Nat.{ℕ, suc, ◌+◌, ◌-◌, ◌^◌, ◌<◌}
use lib.ListN.{length, get_or, drop}
use Rattle.wire.specs.Integers.{Bytes, width_of}
use Rattle.wire.specs.declared.integers.Width.{Width}
use Rattle.wire.proofs.Widths.{positive}
use native.Mathlib.Omega.{arith}
use Rattle.wire.specs.Signed as two's
use Rattle.protocol.specs.Fields.{Field, integer, number}
use Rattle.protocol.specs.Kinds.{Kind, Row, ◌·◌, unsigned, signed}
use Rattle.protocol.specs.Layouts.{kind_of, own_kind, row_from}
use Rattle.protocol.proofs.LayoutRows.{next, row_ends}
use Rattle.protocol.specs.declared.kind.FieldKind.{FieldKind}
use Rattle.protocol.specs.declared.kind.FieldKind.TheVariants.{Number}
use Rattle.protocol.specs.declared.place.Place.{Place}
use Rattle.rules.specs.Outcome.{Outcome, got, refused, then, mapped}
use Rattle.rules.specs.Reading.{read_number, read_signed, read_field, read_row}
use Rattle.rules.proofs.Bounds.{numbered_field}
use Rattle.rules.proofs.Numbers.{whole_width}
use Rattle.byte_strings.specs.Stops.{stop, told}
use Rattle.byte_strings.specs.declared.fault.Fault.{Fault}
use Rattle.byte_strings.proofs.Stops.{read_to, told_refused}

-- One field more does not change where a row stops.
in_front : (f : Field Place) (o : Outcome (List (Field Place))) → stop o ≡ stop (then o (λ fs last. got (f ∷ fs) last))
in_front f (got fs last) = refl
in_front f (refused n p) = refl

-- A loop over the fields of a row.
module _ (fields : List FieldKind) (s : List ℕ) where
  abbrev pub rest : ℕ → Row
  rest i = row_from (drop i fields)

  module _ (d : FieldKind) (i at : ℕ) (l : i < length fields) where
    abbrev next_kind : Kind
    next_kind = kind_of (get_or fields i d)

    pub next_field : rest i ≡ next_kind · rest (i + 1)
    next_field = next own_kind fields i d l

    pub row_refused : (f : Fault) → told (Err f) ≡ stop (read_field next_kind s at) → told (Err f) ≡ stop (read_row (rest i) s at)
    unfolding read_row
    row_refused f e = rw next_field (told_refused (read_field next_kind s at) _ f e)

    pub row_turns : (next : ℕ) → told (Ok next) ≡ stop (read_field next_kind s at) → stop (read_row (rest (i + 1)) s next) ≡ stop (read_row (rest i) s at)
    unfolding read_row
    row_turns next e =
        let r = read_to (read_field next_kind s at) next (numbered_field next_kind s at) e in
        rw (next_field, r.1) (in_front r.0 (read_row (rest (i + 1)) s next))

  pub row_ended : (i at : ℕ) → i ≡ length fields → told (Ok at) ≡ stop (read_row (rest i) s at)
  unfolding read_row
  row_ended i at h = rw (row_ends own_kind fields i h)

-- ---- Numbers that fill their bytes end where their bytes do

module _ (s : List ℕ) (at : ℕ) where
  unsigned_end : (n most : ℕ) → 256 ^ n ≡ suc most → Bytes s → stop (read_number n s at) ≡ stop (read_field (unsigned n most) s at)
  unfolding read_field
  unsigned_end n most i b = rw (whole_width n s at most i b) (by (read_number n s at))
    where
      by : (o : Outcome ℕ) → stop o ≡ stop (mapped (number {P = Place}) o)
      by (got x next) = refl
      by (refused m p) = refl

  pub number_end : (w : Width) → Bytes s → stop (read_number (width_of w) s at) ≡ stop (read_field (kind_of (Number w)) s at)
  number_end w b = unsigned_end (width_of w) (256 ^ width_of w - 1) (omega (arith, positive (width_of w))) b

  pub signed_end : (n : ℕ) → stop (read_number n s at) ≡ stop (read_field (signed n) s at)
  unfolding read_field read_signed
  signed_end n = by (read_number n s at)
    where
      by : (o : Outcome ℕ) → stop o ≡ stop (then o (λ x next. got (integer {P = Place} (two's.signed n x)) next))
      by (got x next) = refl
      by (refused m p) = refl
