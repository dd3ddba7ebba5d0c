-- The messages of a chunk (01 "Chunks"), by their places in the chunk's bytes `s`, header first.
use Rattle.std.specs.Prelude.{Bool, true, false, List, [], ◌∷◌, map, ℕ, zero, suc, ◌+◌, ◌-◌, get_or, take, drop}
use Rattle.protocol.specs.Fields.{Field, place, bytes_at}
use Rattle.protocol.specs.declared.place.Place.{Place}
use Rattle.parts.specs.Parts.{part_at}
use Rattle.questions.specs.Found.{message_count}
use Rattle.rules.specs.Outcome.{Outcome, got, refused}
use Rattle.rules.specs.Reading.{header_at, read_entry, read_chunk}
use Rattle.chunk_reader.specs.declared.spot.Found.{Found}
use Rattle.chunk_reader.specs.declared.spot.Found.TheVariants.{Ready, Message, Done, Refused}

-- An entry's message, and then those of the entries behind it.
abbrev pub with_next : Outcome Place → (ℕ → List Place) → List Place
with_next (got message next) rest = message ∷ rest next
with_next (refused n at) rest = []

-- The messages of n entries, one behind another.
unfoldable pub messages_at : ℕ → List ℕ → ℕ → List Place
messages_at zero s at = []
messages_at (suc n) s at = with_next (read_entry s at) (λ next. messages_at n s next)

-- The messages of a chunk: those of its entries, behind the 48 bytes of the header.
abbrev pub messages_of : List ℕ → List Place
messages_of s = messages_at (message_count (header_at s 0)) s 48

-- Their bytes.
abbrev pub messages : List ℕ → List (List ℕ)
messages s = map (bytes_at s) (messages_of s)

-- Message n of the chunk s.
abbrev pub message_no : List ℕ → ℕ → Place
message_no s n = get_or (messages_of s) n (place 0 0)

-- The message with an index; Done behind the last one.
abbrev pub message_or_done : List Place → ℕ → Found
message_or_done [] k = Done
message_or_done (message ∷ more) zero = Message message
message_or_done (message ∷ more) (suc k) = message_or_done more k

abbrev pub answer_in : Outcome (Field Place) → List Place → ℕ → Found
answer_in (got f behind) all k = message_or_done all k
answer_in (refused n at) all k = Refused n

-- What is said of index k: the refusal, if the bytes are not one well-formed chunk; else the message, or Done.
unfoldable pub answer : List ℕ → ℕ → Found
answer s k = answer_in (read_chunk s 0) (messages_of s) k

-- What was found is a refusal.
abbrev pub is_refused : Found → Bool
is_refused Ready = false
is_refused (Message p) = false
is_refused Done = false
is_refused (Refused n) = true

-- The place of the message; an empty place where none is found.
abbrev pub place_in : Found → Place
place_in Ready = place 0 0
place_in (Message p) = p
place_in Done = place 0 0
place_in (Refused n) = place 0 0

-- The bytes of the message; empty where none is found, or where a place that the host made up reaches outside.
abbrev pub message_in : List ℕ → Found → List ℕ
message_in s Ready = []
message_in s (Message p) = part_at s p
message_in s Done = []
message_in s (Refused n) = []

-- The chunk whose data stands at a place: its header is the 48 bytes before the data.
abbrev pub chunk_at : List ℕ → Place → List ℕ
chunk_at s p = take (48 + p.len) (drop (p.at - 48) s)
