-- Questions about what was read (01 "Numbers and text on the wire", "Chunks"): the element of a list and the message of a
-- chunk at an index, and the parts of the source that they are.
use Rattle.std.specs.Prelude.{not, cond, List, [], ◌∷◌, map, ℕ, zero, suc, leb, ℤ}
use Rattle.std.proofs.Math.Option.{Option, none, some}
use Rattle.protocol.specs.Fields.{Field, bytes_at, outside, over_places, further}
use Rattle.protocol.specs.Kinds.{Row}
use Rattle.protocol.specs.Refusals.{field_cut, value_not_admitted}
use Rattle.protocol.specs.declared.chunk.ChunkHeader.{ChunkHeader}
use Rattle.protocol.specs.declared.place.Place.{Place}
use Rattle.rules.specs.Outcome.{Outcome, got, refused, then, repeated, mapped}
use Rattle.rules.specs.Reading.{has_entries, read_entry, read_row}
use Rattle.parts.specs.Parts.{part_at}

-- The answer to a question: what was asked for; or a refusal's number.
pub data Asked (A : Type 0) : Type 0 where
  found : A → Asked A
  refusal : ℕ → Asked A

-- What was read, as an answer.
abbrev pub asked : {A : Type 0} → Outcome A → Asked A
asked (got a next) = found a
asked (refused n at) = refusal n

-- A refusal's number; 0 says that there is none.
abbrev pub number_of : {A : Type 0} → Asked A → ℕ
number_of (found a) = 0
number_of (refusal n) = n

-- The one at an index, of those that stand one behind another from the part's start on. Those in front of it are
-- checked as when read, and it too; their first refusal is the answer. Those behind it are not looked at.
unfoldable pub read_nth : {A : Type 0} → (List ℕ → ℕ → Outcome A) → ℕ → List ℕ → Outcome A
read_nth read index part = then (repeated read index part 0) (λ _ at. read part at)

-- The fields of the element at an index: the place outside the source (6), the index at or above the count (10), then the
-- elements up to the one asked for, within the place. The places in it count from the source's first byte.
unfoldable pub element_at : Row → List ℕ → ℕ → Place → ℕ → Asked (List (Field Place))
element_at row s count p index =
    cond (outside p s) (refusal field_cut)
    (cond (leb count index) (refusal value_not_admitted)
    (asked (mapped (map (over_places (further p.at))) (read_nth (read_row row) index (bytes_at s p)))))

-- The place of the message at an index, by the chunk's type and entry count: the data's place outside the source (6), a type other
-- than 0 (10), the index at or above the entry count (10), then the entries up to the one asked for, within the place.
unfoldable pub message_of : List ℕ → ℤ → ℕ → Place → ℕ → Asked Place
message_of s type entries p index =
    cond (outside p s) (refusal field_cut)
    (cond (not (has_entries type)) (refusal value_not_admitted)
    (cond (leb entries index) (refusal value_not_admitted)
    (asked (mapped (further p.at) (read_nth read_entry index (bytes_at s p))))))

abbrev pub message_at : List ℕ → ChunkHeader → Place → ℕ → Asked Place
message_at s h p index = message_of s h.chunk_type h.entries p index

-- The part of a text or byte string. A null gives an empty one.
abbrev pub octets_in : List ℕ → Option Place → List ℕ
octets_in s none = []
octets_in s (some p) = part_at s p

-- The place in the field at an index of a row of fields.
abbrev pub place_in : ℕ → List (Field Place) → Option Place
place_in n [] = none
place_in zero (f ∷ fs) = f.octets
place_in (suc n) (f ∷ fs) = place_in n fs

-- The part of the field at an index of an element. A refusal gives an empty one.
abbrev pub field_part : ℕ → List ℕ → Asked (List (Field Place)) → List ℕ
field_part n s (found fs) = octets_in s (place_in n fs)
field_part n s (refusal m) = []

-- The part of a message. A refusal gives an empty one.
abbrev pub message_part : List ℕ → Asked Place → List ℕ
message_part s (found p) = part_at s p
message_part s (refusal m) = []
