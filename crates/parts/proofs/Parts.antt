-- Every place of a frame that was read lies within the source. So the part of the source at such a place is exactly the field's
-- bytes. Assumes nothing.
use mathlib.Core.Path.{◌≡◌, refl, ap, ap₂, subst}
use mathlib.Core.List.{List, [], ◌∷◌, map}
use mathlib.Core.Option
use mathlib.Core.Option.{Option, none, some}
use Prim.Native.Nat.{ℕ, ◌+◌}
use lib.ListN.{length}
use borrow.Author.Tests.{le-ltb}
use Rattle.std.proofs.Common.{None, Some}
use Rattle.protocol.specs.Fields.{Field, Fields, bytes_at, over_places, value_in, EndsBy, PlacesEndBy}
use Rattle.protocol.specs.declared.place.Place.{Place}
use Rattle.rules.specs.Exactness.{frame_length}
use Rattle.rules.specs.Reading.{frame, read_frame}
use Rattle.rules.proofs.Heads.{Head, head}
use Rattle.rules.proofs.Inside.{inside, ends_later}
use Rattle.parts.specs.Parts.{part_at, PartsAreTheFields, NullablePartIsTheField}

-- The part at a place within the source is the bytes at it.
pub part_inside : (s : List ℕ) (p : Place) → EndsBy (length s) (some p) → part_at s p ≡ bytes_at s p
part_inside s p h = rw (le-ltb (length s) (p.at + p.len) h)

-- The parts of fields whose places are within the source are their values.
parts_are_values : (s : List ℕ) (fs : List (Field Place)) → PlacesEndBy (length s) fs → map (over_places (part_at s)) fs ≡ map (value_in s) fs
parts_are_values s [] h = refl
parts_are_values s (f ∷ fs) h = ap₂ (λ x xs. x ∷ xs) (one f h.0) (parts_are_values s fs h.1)
  where
    by : (o : Option Place) → EndsBy (length s) o → Option.map (part_at s) o ≡ Option.map (bytes_at s) o
    by none h = refl
    by (some p) h = ap some (part_inside s p h)

    one : (f : Field Place) → EndsBy (length s) f.octets → over_places (part_at s) f ≡ over_places (bytes_at s) f
    one f h = λ i. record { number = f.number; integer = f.integer; octets = by f.octets h i; offset = f.offset; header = f.header }

pub places_there : (s : List ℕ) (limit : ℕ) (f : Fields Place) → read_frame s limit ≡ frame f → PlacesEndBy (length s) f.content
places_there s limit f e =
    let there : Head s (frame f) = subst (Head s) e (head s limit) in
    ends_later (frame_length s) (length s) f.content there.1 (inside s limit f e)

pub parts_are_the_fields : PartsAreTheFields
parts_are_the_fields s limit f e = parts_are_values s f.content (places_there s limit f e)

pub nullable_part_is_the_field : NullablePartIsTheField
nullable_part_is_the_field s None = refl
nullable_part_is_the_field s (Some p) = refl
