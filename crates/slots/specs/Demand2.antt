-- Demand 2 for a host, which reads and writes slots: the statements of demand 2 over fields (`rules`, specs/Demand2.antt), and the
-- same over the slots themselves.
use Rattle.std.specs.Prelude.{◌≡◌, List, ℕ, ◌≤◌, length as len, take, drop}
use Rattle.wire.specs.Integers.{Bytes}
use Rattle.protocol.specs.Fields.{Fields}
use Rattle.protocol.specs.Frames.{fields_of}
use Rattle.protocol.specs.Table.{row_of}
use Rattle.protocol.specs.declared.frame.Frame.{Frame}
use Rattle.protocol.specs.declared.place.Place.{Place}
use Rattle.rules.specs.Demand2 as fields
use Rattle.rules.specs.Exactness.{frame_length}
use Rattle.rules.specs.Reading.{frame, read_frame}
use Rattle.rules.specs.RoundTrips.{writes, WroteAndReads}
use Rattle.rules.specs.Writing.{length}
use Rattle.slots.specs.Flat.{flat_frame, slots_after}
use Rattle.slots.specs.Unflat.{unflat_frame, write_flat}
use Rattle.slots.specs.Slots.{Words, frame_of_slots, SameFrame, ZeroRow}

-- A frame is read into slots, and these are written from the bytes that were read, under the same limit, into enough room: the
-- same bytes come back, and the rest of the output is untouched.
abbrev pub ReadThenWrite : Type 0
ReadThenWrite =
    (s old : List ℕ) (limit : ℕ) (f : Fields Place) (out : List ℕ) → Bytes s
    → read_frame s limit ≡ frame f
    → frame_length s ≤ len out
    → write_flat (slots_after old (read_frame s limit)) s limit out ≡ writes (take (frame_length s) s) out

-- What is known of slots x that were written from src, whatever they are, with n for an answer.
pub record WroteAndReadsBack (x src : List ℕ) (limit : ℕ) (out : List ℕ) (n : ℕ) (after : List ℕ) : Type 0 where
  -- The answer, the room, and what the output then holds; it is read as a frame under the same limit.
  pub wrote : WroteAndReads (unflat_frame x) src limit out n after
  -- The bytes are those that the slots stand for.
  pub bytes : take n after ≡ frame_of_slots x src
  -- The slots that are read stand for the same fields.
  pub same : SameFrame x src (flat_frame wrote.back.0) after

-- Slots that were written are read back, under the same limit, as slots that stand for the same fields.
abbrev pub WriteThenRead : Type 0
WriteThenRead =
    (x src : List ℕ) (limit : ℕ) (out : List ℕ) (n : ℕ) → Words x → Bytes src
    → (write_flat x src limit out).answer ≡ length n
    → WroteAndReadsBack x src limit out n (write_flat x src limit out).out

-- The slots that a frame is read into are those of the typed frame that is read of the same bytes.
abbrev pub ReadsTheTypedFrame : Type 0
ReadsTheTypedFrame =
    (s old : List ℕ) (limit : ℕ) (f : Frame)
    → read_frame s limit ≡ frame (fields_of f)
    → slots_after old (read_frame s limit) ≡ flat_frame (fields_of f)

-- After a read the slots that say nothing are 0.
abbrev pub OthersAreZero : Type 0
OthersAreZero =
    (s old : List ℕ) (limit : ℕ) (f : Fields Place) → Bytes s
    → read_frame s limit ≡ frame f
    → ZeroRow (row_of f.key f.version) (drop 2 (slots_after old (read_frame s limit)))

pub record Demand2 : Type 0 where
  pub fields : fields.Demand2
  pub read_then_write : ReadThenWrite
  pub write_then_read : WriteThenRead
  pub reads_the_typed_frame : ReadsTheTypedFrame
  pub others_are_zero : OthersAreZero
