-- What a reader says over its whole life. The proofs are in proofs/Runs.antt.
use Rattle.std.specs.Prelude.{◌≡◌, List, [], ℕ, zero, suc, ◌≤◌, ◌<◌, pos, length, get_or, drop}
use Rattle.std.specs.Borrow.{Bor}
use Rattle.wire.specs.Integers.{Bytes}
use Rattle.protocol.specs.Fields.{place}
use Rattle.rules.specs.Outcome.{Outcome, got, refused}
use Rattle.rules.specs.Reading.{header_at, read_chunk}
use Rattle.questions.specs.Found.{message_count, encode_entries}
use Rattle.chunk_reader.specs.Messages.{messages_of, messages, message_in, answer}
use Rattle.chunk_reader.specs.Reader.{new_reader, next_reader}
use Rattle.chunk_reader.specs.declared.reader.ChunkReader.{ChunkReader}
use Rattle.chunk_reader.specs.declared.spot.Found.{Found}
use Rattle.chunk_reader.specs.declared.spot.Found.TheVariants.{Message, Done, Refused}

-- A reader that is asked n times.
unfoldable pub asked : ℕ → ChunkReader → ChunkReader
asked zero r = r
asked (suc n) r = asked n (next_reader r)

-- What a reader of these bytes says when it was asked n times.
abbrev pub says : Bor (List ℕ) → ℕ → Found
says c n = (asked n (new_reader c)).spot.found

-- Something was read.
abbrev pub Good : {A : Type 0} → Outcome A → Type 0
Good (got a next) = Unit
Good (refused n at) = ⊥

-- The bytes are one well-formed chunk.
abbrev pub WellFormed : List ℕ → Type 0
WellFormed s = Good (read_chunk s 0)

-- Of any bytes, every question has the answer that the definition of a chunk's messages gives.
abbrev pub EachAnswer : Type 0
EachAnswer = (c : Bor (List ℕ)) (n : ℕ) → says c (suc n) ≡ answer c.now n

-- In a well-formed chunk question n + 1 gives message n, so that each is given once and in order.
abbrev pub EachMessage : Type 0
EachMessage =
    (c : Bor (List ℕ)) → WellFormed c.now → (n : ℕ) → n < length (messages_of c.now) →
    says c (suc n) ≡ Message (get_or (messages_of c.now) n (place 0 0))

-- The bytes that `message` then hands out are the chunk's messages, and empty behind the last one.
abbrev pub EachPart : Type 0
EachPart =
    (c : Bor (List ℕ)) → WellFormed c.now → (n : ℕ) →
    message_in c.now (says c (suc n)) ≡ get_or (messages c.now) n []

-- Behind the last one it is done, for ever.
abbrev pub DoneForEver : Type 0
DoneForEver = (c : Bor (List ℕ)) → WellFormed c.now → (n : ℕ) → length (messages_of c.now) ≤ n → says c (suc n) ≡ Done

-- There are as many as the header says.
abbrev pub AsManyAsTheHeaderSays : Type 0
AsManyAsTheHeaderSays = (s : List ℕ) → WellFormed s → length (messages_of s) ≡ message_count (header_at s 0)

-- None is left out: of a chunk of type 0 they are all that stands behind the header.
abbrev pub NothingElse : Type 0
NothingElse =
    (s : List ℕ) → Bytes s → WellFormed s → (header_at s 0).chunk_type ≡ pos 0 → drop 48 s ≡ encode_entries (messages s)

-- Bytes that are not one well-formed chunk: the check's refusal, from the beginning and for ever.
abbrev pub RefusedForEver : Type 0
RefusedForEver = (c : Bor (List ℕ)) (number at : ℕ) → read_chunk c.now 0 ≡ refused number at → (n : ℕ) → says c n ≡ Refused number
