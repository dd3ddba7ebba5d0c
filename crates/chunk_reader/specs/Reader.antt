-- The reader: how it begins, and what a question does to it.
use Rattle.std.specs.Prelude.{cond, List, ℕ, ◌-◌, eqb}
use Rattle.std.specs.Borrow.{Bor}
use Rattle.protocol.specs.Fields.{Field}
use Rattle.protocol.specs.declared.place.Place.{Place}
use Rattle.rules.specs.Outcome.{Outcome, got, refused}
use Rattle.rules.specs.Reading.{header_at, read_entry, read_chunk}
use Rattle.questions.specs.Found.{message_count}
use Rattle.chunk_reader.specs.Messages.{is_refused}
use Rattle.chunk_reader.specs.declared.reader.ChunkReader.{ChunkReader}
use Rattle.chunk_reader.specs.declared.spot.Found.{Found}
use Rattle.chunk_reader.specs.declared.spot.Found.TheVariants.{Ready, Message, Done, Refused}
use Rattle.chunk_reader.specs.declared.spot.Spot.{Spot}

-- A reader's place: where the next entry begins, how many entries are left, and what was found last.
abbrev pub spot : ℕ → ℕ → Found → Spot
spot a l f = record { at = a; left = l; found = f }

-- In front of a chunk's first entry, if the bytes are one well-formed chunk; else the refusal of reading it.
abbrev pub started_from : List ℕ → Outcome (Field Place) → Spot
started_from s (got f behind) = spot 48 (message_count (header_at s 0)) Ready
started_from s (refused n at) = spot 0 0 (Refused n)

unfoldable pub started : List ℕ → Spot
started s = started_from s (read_chunk s 0)

-- Behind an entry, with its message. In a chunk that was checked no entry is refused, so a refusal is met only from a
-- place that the host made up.
abbrev pub behind_entry : Spot → Outcome Place → Spot
behind_entry p (got message next) = spot next (p.left - 1) (Message message)
behind_entry p (refused n at) = spot p.at p.left (Refused n)

-- A question. A refusal stays; with no entry left it is done; else the entry at the place is read. This is the answer
-- at every place, also at one that the host made up: an entry that does not lie in the bytes gives 6, and an entry whose
-- top bit is 1 gives 10.
unfoldable pub advanced : List ℕ → Spot → Spot
advanced s p =
    cond (is_refused p.found) p
    (cond (eqb p.left 0) (spot p.at 0 Done)
    (behind_entry p (read_entry s p.at)))

-- A reader made of a chunk's bytes, and one that is asked for the next message.
abbrev pub new_reader : Bor (List ℕ) → ChunkReader
new_reader c = record { chunk = c; spot = started c.now }

abbrev pub next_reader : ChunkReader → ChunkReader
next_reader r = record { chunk = r.chunk; spot = advanced r.chunk.now r.spot }
