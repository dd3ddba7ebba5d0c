-- What a host finds that asks for message 0, 1, 2 and so on of a Deliver that was read: every one of them, and then refusal 10. So a
-- host that stops at the first refusal misses nothing.
use Rattle.std.specs.Prelude.{◌≡◌, List, [], ◌∷◌, ◌++◌, ℕ, ◌<◌, ◌≤◌, get_or}
use Rattle.wire.specs.Integers.{Bytes}
use Rattle.protocol.specs.Fields.{Field, Fields}
use Rattle.protocol.specs.Fields as F
use Rattle.protocol.specs.Refusals.{value_not_admitted}
use Rattle.protocol.specs.declared.chunk.ChunkHeader.{ChunkHeader}
use Rattle.protocol.specs.declared.place.Place.{Place}
use Rattle.rules.specs.Reading.{frame, read_frame}
use Rattle.questions.specs.Found.{message_count, AllMessages}
use Rattle.questions.specs.Questions.{found, refusal}
use Rattle.slots.specs.Flat.{flat_place, padded, flat_frame}
use Rattle.slot_questions.specs.Asked.{ask_message}

-- The messages of the chunk that is the frame's last field, each asked for in the frame's slots.
pub record EveryMessage (s : List ℕ) (f : Fields Place) : Type 0 where
  pub front : List (Field Place)
  pub header : ChunkHeader
  pub place : Place
  pub chunk : f.content ≡ front ++ (F.chunk header place ∷ [])
  pub all : AllMessages s header place
  pub found_at : (i : ℕ) → i < message_count header → ask_message (flat_frame f) s i ≡ found (padded 8 (flat_place (get_or all.messages i (F.place 0 0))))
  pub no_other : (i : ℕ) → message_count header ≤ i → ask_message (flat_frame f) s i ≡ refusal value_not_admitted

abbrev pub EveryMessageIsFound : Type 0
EveryMessageIsFound =
    (s : List ℕ) (limit : ℕ) (f : Fields Place) → Bytes s → read_frame s limit ≡ frame f → f.key ≡ 0x0008
    → EveryMessage s f
