-- A reader that puts what it reads into slots. The places in what is read count from `base` bytes before the part.
use Rattle.std.specs.Prelude.{◌≡◌, List, ◌∷◌, map, ℕ, take}
use Rattle.protocol.specs.Fields.{Field, bytes_at, outside, over_places, further}
use Rattle.protocol.specs.Kinds.{Kind, Row}
use Rattle.protocol.specs.Refusals.{field_cut}
use Rattle.protocol.specs.declared.place.Place.{Place}
use Rattle.rules.specs.Outcome.{Outcome, got, refused, mapped, refuse_if}
use Rattle.rules.specs.Reading.{read_row}
use Rattle.slots.specs.Flat.{flat_field, flat_row, flat_element, overlaid, padded}

-- The slots after a field was read: its own from a place on, as far as there are slots. A refusal leaves them as they were.
abbrev pub field_slots : ℕ → Kind → Outcome (Field Place) → List ℕ → ℕ → List ℕ
field_slots base kind (got f next) old slot = overlaid old slot (flat_field kind (over_places (further base) f))
field_slots base kind (refused n at) old slot = old

-- The slots after the fields of a row were read. Of a refused row nothing is said.
abbrev pub Filled : ℕ → Row → Outcome (List (Field Place)) → List ℕ → ℕ → List ℕ → Type 0
Filled base row (got fs next) old slot new = new ≡ overlaid old slot (flat_row row (map (over_places (further base)) fs))
Filled base row (refused n at) old slot new = Unit

-- The slots after a content was read: key, version and those of its fields, as far as there are slots, the others 0. A refused
-- content leaves them as they were. Every layout has room.
abbrev pub content_slots : ℕ → ℕ → Row → Outcome (List (Field Place)) → List ℕ → List ℕ
content_slots key version row (got fs next) old =
    take 24 (padded 24 (key ∷ version ∷ flat_row row (map (over_places (further 8)) fs)))
content_slots key version row (refused n at) old = old

-- An element at a place of the part where the elements of a list stand: the part outside the source (6), then its fields, whose
-- places count from the source's first byte.
unfoldable pub element_in : Row → List ℕ → Place → ℕ → Outcome (List (Field Place))
element_in row s p at =
    refuse_if (outside p s) field_cut at
    (mapped (map (over_places (further p.at))) (read_row row (bytes_at s p) at))

-- The slots after an element was read. A refusal leaves them as they were.
abbrev pub element_slots : Row → Outcome (List (Field Place)) → List ℕ → List ℕ
element_slots row (got fs next) old = flat_element row fs
element_slots row (refused n at) old = old
