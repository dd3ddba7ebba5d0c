-- The chunk reader as a host that is written in C holds it: four slots. The first is where the next entry begins, the
-- second how many entries are left. The last two are kept for later use: 0 when a chunk is opened, and then neither looked
-- at nor changed.
use Rattle.std.specs.Prelude.{List, [], ◌∷◌, ℕ, get_or, set}
use Rattle.protocol.specs.Fields.{Field}
use Rattle.protocol.specs.declared.place.Place.{Place}
use Rattle.questions.specs.Questions.{asked, number_of}
use Rattle.rules.specs.Outcome.{Outcome, got, refused}
use Rattle.rules.specs.Reading.{header_at, read_chunk}
use Rattle.slots.specs.Flat.{flat_place, padded}
use Rattle.questions.specs.Found.{message_count}
use Rattle.chunk_reader.specs.Reader.{spot, advanced}
use Rattle.chunk_reader.specs.declared.spot.Found.{Found}
use Rattle.chunk_reader.specs.declared.spot.Found.TheVariants.{Ready, Message, Done, Refused}
use Rattle.chunk_reader.specs.declared.spot.Spot.{Spot}

-- A chunk is opened: the number of the check that refuses it; 0 if it is well formed.
unfoldable pub open_number : List ℕ → ℕ
open_number s = number_of (asked (read_chunk s 0))

-- The reader's slots then: at the first entry, after the 48 bytes of the header, with all messages left. A refusal leaves
-- them as they were.
abbrev pub opened_from : List ℕ → List ℕ → Outcome (Field Place) → List ℕ
opened_from s old (got f next) = 48 ∷ message_count (header_at s 0) ∷ 0 ∷ 0 ∷ []
opened_from s old (refused n at) = old

unfoldable pub reader_opened : List ℕ → List ℕ → List ℕ
reader_opened s old = opened_from s old (read_chunk s 0)

-- The next entry is asked for: a question from the place that the slots say, whoever filled them.
unfoldable pub next_spot : List ℕ → List ℕ → Spot
next_spot s reader = advanced s (spot (get_or reader 0 0) (get_or reader 1 0) Ready)

-- The answer.
abbrev pub next_found : List ℕ → List ℕ → Found
next_found s reader = (next_spot s reader).found

-- Slots that are filled where a message is found. At the end and on a refusal they stay as they were.
abbrev pub filled_if : Found → List ℕ → (Place → List ℕ) → List ℕ
filled_if Ready old new = old
filled_if (Message m) old new = new m
filled_if Done old new = old
filled_if (Refused n) old new = old

-- The reader's slots then: past the entry, with one entry fewer left. The last two stay.
abbrev pub moved_to : Spot → List ℕ → List ℕ
moved_to p old = set (set old 0 p.at) 1 p.left

abbrev pub reader_moved : List ℕ → Spot → List ℕ
reader_moved old p = filled_if p.found old (λ m. moved_to p old)

abbrev pub reader_after : List ℕ → List ℕ → List ℕ
reader_after s reader = reader_moved reader (next_spot s reader)

-- The entry's eight slots: the place of its message, counted from the chunk's first byte, and its length.
abbrev pub entry_filled : List ℕ → Found → List ℕ
entry_filled old found = filled_if found old (λ m. padded 8 (flat_place m))

abbrev pub entry_after : List ℕ → List ℕ → List ℕ → List ℕ
entry_after s reader old = entry_filled old (next_found s reader)
