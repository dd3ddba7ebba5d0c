-- The elements that have a quick way of their own end where their last field does: a refusal of any field is the element's.
-- Assumes nothing.
use mathlib.Core.Path.{◌≡◌, refl}
use mathlib.Core.Bool.{Bool, true, false}
use mathlib.Core.List.{List, [], ◌∷◌}
use Prim.Native.Nat.{ℕ, ◌+◌, ◌<◌, ◌≤◌}
use Rattle.std.specs.Prelude.{Option, Some, None}
use lib.Dec.{ltb}
use lib.ListN.{length}
use native.Mathlib.Omega.{arith}
use borrow.Author.Tests.{ltb-true, ltb-false}
use Rattle.wire.specs.Integers.{Bytes, big_endian}
use Rattle.protocol.specs.Fields.{Field, number}
use Rattle.protocol.specs.Kinds.{T, element_row, end, ◌·◌}
use Rattle.protocol.specs.declared.kind.Element.TheVariants.{Message, Name, Property}
use Rattle.protocol.specs.declared.kind.Form.TheVariants.{Text, Bytes as Raw}
use Rattle.protocol.specs.declared.place.Place.{Place}
use Rattle.rules.specs.Outcome.{Outcome, got, refused, then}
use Rattle.rules.specs.Reading.{read_unsigned, read_string, read_field, read_row}
use Rattle.rules.proofs.Numbers.{number_there, number_cut, whole_width}
use Rattle.byte_strings.specs.Stops.{end_of, only_end}
use Rattle.byte_strings.proofs.PlainEnds.{string_no_length}
use Rattle.byte_strings.proofs.Stops.{ended}

module _ (s : List ℕ) (at : ℕ) where
  pub name_end : (r : Option ℕ) → r ≡ end_of (read_string Text false s at) → r ≡ end_of (only_end (read_row (element_row Name) s at))
  unfolding read_row read_field
  name_end r h = by (read_string Text false s at) h
    where
      by : (o : Outcome (Field Place)) → r ≡ end_of o → r ≡ end_of (only_end (then o (λ f next. got (f ∷ []) next)))
      by (got f next) e = e
      by (refused n p) e = e

  id_cut : length s < at + 8 → None ≡ end_of (only_end (read_row (element_row Message) s at))
  unfolding read_row read_field read_unsigned
  id_cut h = rw (number_cut 8 s at h)

  pub message_end : (r : Option ℕ) → Bytes s → at + 8 ≤ length s → r ≡ end_of (read_string Raw false s (at + 8)) → r ≡ end_of (only_end (read_row (element_row Message) s at))
  unfolding read_row read_field
  message_end r b h e = rw (whole_width 8 s at 0xffff_ffff_ffff_ffff refl b, number_there 8 s at h) (by (number (big_endian 8 s at)) (read_string Raw false s (at + 8)) e)
    where
      by : (g : Field Place) (o : Outcome (Field Place)) → r ≡ end_of o → r ≡ end_of (only_end (then (then o (λ f next. got (f ∷ []) next)) (λ fs behind. got (g ∷ fs) behind)))
      by g (got f next) e = e
      by g (refused n p) e = e

  -- The publishing id is cut, or the message's length is.
  pub message_cut : Bytes s → length s < at + 12 → None ≡ end_of (only_end (read_row (element_row Message) s at))
  message_cut b h = by (ltb (length s) (at + 8)) refl
    where
      by : (t : Bool) → ltb (length s) (at + 8) ≡ t → None ≡ end_of (only_end (read_row (element_row Message) s at))
      by true i = id_cut (ltb-true _ _ i)
      by false i = message_end None b (ltb-false _ _ i) (string_no_length Raw s (at + 8) (omega arith))

-- A key, and then its value.
module _ (s : List ℕ) (at : ℕ) where
  pub property_stopped : None ≡ end_of (read_string Text false s at) → None ≡ end_of (only_end (read_row (element_row Property) s at))
  unfolding read_row read_field
  property_stopped h = by (read_string Text false s at) h
    where
      by : (o : Outcome (Field Place)) → None ≡ end_of o → None ≡ end_of (only_end (then o (λ f next. then (read_row (T · end) s next) (λ fs last. got (f ∷ fs) last))))
      by (got f next) e = cc
      by (refused n p) e = refl

  pub property_end : (key : ℕ) (r : Option ℕ) → Some key ≡ end_of (read_string Text false s at) → r ≡ end_of (read_string Text false s key) → r ≡ end_of (only_end (read_row (element_row Property) s at))
  unfolding read_row read_field
  property_end key r h e = let k = ended (read_string Text false s at) key h in rw k.1 (by k.0 (read_string Text false s key) e)
    where
      by : (g : Field Place) (o : Outcome (Field Place)) → r ≡ end_of o → r ≡ end_of (only_end (then (then o (λ f next. got (f ∷ []) next)) (λ fs behind. got (g ∷ fs) behind)))
      by g (got f next) e = e
      by g (refused n p) e = e
