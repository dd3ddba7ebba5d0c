-- Parts of the source (01 "Numbers and text on the wire"): what stands at a place.
use Rattle.std.specs.Prelude.{◌≡◌, cond, List, [], map, ℕ, Option, None, Some}
use Rattle.std.proofs.Math.Option as maybe
use Rattle.std.proofs.Math.Option.{none, some}
use Rattle.protocol.specs.Fields.{Fields, bytes_at, outside, over_places, values_in}
use Rattle.protocol.specs.Frames.{nullable_field}
use Rattle.protocol.specs.declared.place.Place.{Place}
use Rattle.rules.specs.Reading.{frame, read_frame}

-- The part of the source at a place: empty if the place reaches outside.
abbrev pub part_at : List ℕ → Place → List ℕ
part_at s p = cond (outside p s) [] (bytes_at s p)

-- The part of the source at a place; a null gives an empty one.
abbrev pub nullable_part : List ℕ → Option Place → List ℕ
nullable_part s None = []
nullable_part s (Some p) = part_at s p

-- The bytes of a text or byte string; none for a null.
abbrev pub text_of : maybe.Option (List ℕ) → List ℕ
text_of none = []
text_of (some b) = b

-- The part of every place of a frame that was read is exactly that field's bytes.
abbrev pub PartsAreTheFields : Type 0
PartsAreTheFields =
    (s : List ℕ) (limit : ℕ) (f : Fields Place) → read_frame s limit ≡ frame f
    → map (over_places (part_at s)) f.content ≡ (values_in s f).content

-- The part of a place that may be null is the part of the field that it stands for; a null's is empty.
abbrev pub NullablePartIsTheField : Type 0
NullablePartIsTheField = (s : List ℕ) (p : Option Place) → nullable_part s p ≡ text_of (over_places (part_at s) (nullable_field p)).octets
