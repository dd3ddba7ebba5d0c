-- What the reader in slots does over a whole run of calls. The proofs are in proofs/SlotRuns.antt and proofs/Delivers.antt.
use Rattle.std.specs.Prelude.{◌≡◌, false, List, [], ◌∷◌, ℕ, zero, suc, ◌+◌, ◌-◌, ◌≤◌, ◌<◌, length, get_or}
use Rattle.wire.specs.Integers.{Bytes}
use Rattle.protocol.specs.Fields.{Fields, place, outside}
use Rattle.protocol.specs.declared.place.Place.{Place}
use Rattle.rules.specs.Outcome.{got, refused}
use Rattle.rules.specs.Reading.{read_entry, read_chunk, frame, read_frame}
use Rattle.slots.specs.Flat.{flat_frame}
use Rattle.chunk_reader.specs.Messages.{messages_of, message_no, chunk_at}
use Rattle.chunk_reader.specs.Run.{WellFormed}
use Rattle.chunk_reader.specs.declared.spot.Found.{Found}
use Rattle.chunk_reader.specs.declared.spot.Found.TheVariants.{Message, Done, Refused}
use Rattle.slot_chunk_reader.specs.Slots.{open_number, reader_opened, next_found, reader_after, entry_after}

-- What the host lends to a question: the reader's four slots and the entry's eight.
pub record Lent : Type 0 where
  pub reader : List ℕ
  pub entry : List ℕ

abbrev pub lent : List ℕ → List ℕ → Lent
lent r e = record { reader = r; entry = e }

-- What they hold after a question, and after n questions, each of which finds what the last one left.
abbrev pub asked_once : List ℕ → Lent → Lent
asked_once s l = lent (reader_after s l.reader) (entry_after s l.reader l.entry)

unfoldable pub asked_times : ℕ → List ℕ → Lent → Lent
asked_times zero s l = l
asked_times (suc n) s l = asked_once s (asked_times n s l)

-- A question is answered so, and leaves this.
abbrev pub Answers : List ℕ → Lent → Found → Lent → Type 0
Answers s l found left = (next_found s l.reader ≡ found) × (asked_once s l ≡ left)

-- The reader of a chunk at its first entry, with all messages left. The last two slots hold x and y, whatever they are.
abbrev pub at_first : List ℕ → ℕ → ℕ → List ℕ
at_first s x y = 48 ∷ length (messages_of s) ∷ x ∷ y ∷ []

-- The reader when message n was given: it stands where that message ends.
abbrev pub past_message : List ℕ → ℕ → ℕ → ℕ → List ℕ
past_message s n x y = ((message_no s n).at + (message_no s n).len) ∷ (length (messages_of s) - suc n) ∷ x ∷ y ∷ []

-- The slots of an entry: the place of its message, its length, and six that are 0.
abbrev pub entry_slots : Place → List ℕ
entry_slots m = m.at ∷ m.len ∷ 0 ∷ 0 ∷ 0 ∷ 0 ∷ 0 ∷ 0 ∷ []

pub record SlotRun (s : List ℕ) : Type 0 where
  -- Bytes that are not one well-formed chunk are refused with the check's number, which is not 0, and the slots stay.
  pub refuses : (number at : ℕ) (old : List ℕ) → read_chunk s 0 ≡ refused number at
      → (open_number s ≡ number) × ((number ≡ 0 → ⊥) × (reader_opened s old ≡ old))
  -- A well-formed chunk is opened.
  pub opens : WellFormed s → (old : List ℕ) → (open_number s ≡ 0) × (reader_opened s old ≡ at_first s 0 0)
  -- Question n + 1 then gives message n, so that each is given once and in order.
  pub gives : WellFormed s → (x y : ℕ) (e : List ℕ) (n : ℕ) → n < length (messages_of s)
      → Answers s (asked_times n s (lent (at_first s x y) e)) (Message (message_no s n)) (lent (past_message s n x y) (entry_slots (message_no s n)))
  -- After the last one it is done, for ever, and nothing changes any more.
  pub done : WellFormed s → (x y : ℕ) (e : List ℕ) (n : ℕ) → length (messages_of s) ≤ n
      → Answers s (asked_times n s (lent (at_first s x y) e)) Done (asked_times n s (lent (at_first s x y) e))
  -- Any bytes and any reader, also one that the host made up: with no entries left it is done, whatever its place;
  pub nothing_left : (at x y : ℕ) (e : List ℕ)
      → Answers s (lent (at ∷ 0 ∷ x ∷ y ∷ []) e) Done (lent (at ∷ 0 ∷ x ∷ y ∷ []) e)
  -- else it gives what the entry at its place gives: a message, which lies in the bytes,
  pub entry_there : (at left x y : ℕ) (e : List ℕ) (m : Place) (next : ℕ) → read_entry s at ≡ got m next
      → Answers s (lent (at ∷ suc left ∷ x ∷ y ∷ []) e) (Message m) (lent (next ∷ left ∷ x ∷ y ∷ []) (entry_slots m)) × (outside m s ≡ false)
  -- or a refusal, whose number is not 0.
  pub entry_refused : (at left x y : ℕ) (e : List ℕ) (number p : ℕ) → read_entry s at ≡ refused number p
      → Answers s (lent (at ∷ suc left ∷ x ∷ y ∷ []) e) (Refused number) (lent (at ∷ suc left ∷ x ∷ y ∷ []) e) × (number ≡ 0 → ⊥)

-- Where a flat Deliver says that its chunk's data stands, from the slot i on: the 48 bytes of the header stand before the
-- data, the data lies in the bytes, and the two together are one well-formed chunk, which is opened.
pub record ChunkThere (s slots : List ℕ) (i : ℕ) : Type 0 where
  pub header : 48 ≤ get_or slots i 0
  pub inside : get_or slots i 0 + get_or slots (i + 1) 0 ≤ length s
  pub whole : WellFormed (chunk_at s (place (get_or slots i 0) (get_or slots (i + 1) 0)))
  pub opened : open_number (chunk_at s (place (get_or slots i 0) (get_or slots (i + 1) 0))) ≡ 0

-- So it is with the chunk of every Deliver that was read.
abbrev pub ChunkOfADeliver : Type 0
ChunkOfADeliver =
    (s : List ℕ) (limit : ℕ) (f : Fields Place) → Bytes s → read_frame s limit ≡ frame f → f.key ≡ 0x0008
    → (f.version ≡ 1 → ChunkThere s (flat_frame f) 15) × (f.version ≡ 2 → ChunkThere s (flat_frame f) 16)
