-- A message that is asked for by its index in a frame is the one that a reader of the frame's chunk gives for that question.
use Rattle.std.specs.Prelude.{◌≡◌, List, [], ◌∷◌, ◌++◌, ℕ, ◌-◌, ◌<◌, length}
use Rattle.wire.specs.Integers.{Bytes}
use Rattle.protocol.specs.Fields.{Field, Fields, further}
use Rattle.protocol.specs.Fields as F
use Rattle.protocol.specs.declared.chunk.ChunkHeader.{ChunkHeader}
use Rattle.protocol.specs.declared.place.Place.{Place}
use Rattle.rules.specs.Reading.{header_at, frame, read_frame}
use Rattle.questions.specs.Found.{message_count}
use Rattle.questions.specs.Questions.{found, message_at}
use Rattle.chunk_reader.specs.Messages.{messages_of, message_no, chunk_at}
use Rattle.chunk_reader.specs.Run.{WellFormed}

-- A reader of these bytes gives the messages of this header, as many as there are, and each is the one found at its index. The
-- reader's places count from the chunk's first byte.
pub record AskedAsRead (s : List ℕ) (h : ChunkHeader) (p : Place) : Type 0 where
  pub whole : WellFormed (chunk_at s p)
  pub header : header_at (chunk_at s p) 0 ≡ h
  pub as_many : length (messages_of (chunk_at s p)) ≡ message_count h
  pub message : (i : ℕ) → i < message_count h → message_at s h p i ≡ found (further (p.at - 48) (message_no (chunk_at s p) i))

-- So it is in every Deliver that was read, whose last field is its chunk.
abbrev pub MessagesAreTheReaders : Type 0
MessagesAreTheReaders =
    (s : List ℕ) (limit : ℕ) (f : Fields Place) → Bytes s → read_frame s limit ≡ frame f → f.key ≡ 0x0008
    → (front : List (Field Place)) (h : ChunkHeader) (p : Place) → f.content ≡ front ++ (F.chunk h p ∷ [])
    → AskedAsRead s h p
