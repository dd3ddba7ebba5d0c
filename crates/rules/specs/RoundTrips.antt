-- Reading and writing against each other, under one frame limit, and what a refused write leaves of the output. A frame is
-- written from a lent source, in which its places are.
use Rattle.std.specs.Prelude.{◌≡◌, false, List, ◌++◌, ℕ, ◌≤◌, length as len, take, drop}
use Rattle.wire.specs.Integers.{Bytes}
use Rattle.protocol.specs.Fields.{Fields, values_in, PlacesEndBy}
use Rattle.protocol.specs.Frames.{fields_of, values_of}
use Rattle.protocol.specs.declared.frame.Frame.{Frame}
use Rattle.protocol.specs.declared.place.Place.{Place}
use Rattle.rules.specs.Grammar.{size_of, encode_frame, ValidFrame}
use Rattle.rules.specs.Reading.{frame, over_limit, read_frame}
use Rattle.rules.specs.Writing.{length, refusal, Writing, write_frame}
use Rattle.rules.specs.Exactness.{frame_length}

-- The answer is the length of these bytes, which stand at the start of the output, and behind them it is as it was.
abbrev pub writes : List ℕ → List ℕ → Writing
writes b out = record { answer = length (len b); out = b ++ drop (len b) out }

-- Under the same limit, writing a frame that was read, into enough room, gives the same bytes back. The rest of the
-- output is untouched.
abbrev pub ReadThenWrite : Type 0
ReadThenWrite =
    (s : List ℕ) (limit : ℕ) (f : Fields Place) (out : List ℕ) → Bytes s
    → read_frame s limit ≡ frame f
    → frame_length s ≤ len out
    → write_frame f s limit out ≡ writes (take (frame_length s) s) out

-- What is known of a frame that was written, with n for an answer: what the output then holds.
pub record WroteAndReads (f : Fields Place) (src : List ℕ) (limit : ℕ) (out : List ℕ) (n : ℕ) (after : List ℕ) : Type 0 where
  -- The answer is the frame's length, and the output had room for it.
  pub answer : n ≡ frame_length after
  pub room : n ≤ len out
  -- Every place of the frame lies in the source.
  pub inside : PlacesEndBy (len src) f.content
  -- Its bytes are the encoding of its fields, and no other byte of the output is touched.
  pub bytes : take n after ≡ encode_frame (values_in src f)
  pub untouched : drop n after ≡ drop n out
  pub as_long : len after ≡ len out
  -- Under the same limit the output is read as a frame with the same fields.
  pub back : (g : Fields Place) × (read_frame after limit ≡ frame g) × (values_in after g ≡ values_in src f)

-- Under the same limit, reading a frame that was written gives the same fields.
abbrev pub WriteThenRead : Type 0
WriteThenRead =
    (f : Frame) (src : List ℕ) (limit : ℕ) (out : List ℕ) (n : ℕ) → Bytes src
    → (write_frame (fields_of f) src limit out).answer ≡ length n
    → WroteAndReads (fields_of f) src limit out n (write_frame (fields_of f) src limit out).out

-- Every well-formed frame whose places lie in the source is written, under a limit that it is within, into enough room.
abbrev pub WellFormedIsWritten : Type 0
WellFormedIsWritten =
    (f : Frame) (src : List ℕ) (limit : ℕ) (out : List ℕ) → ValidFrame (values_of f src)
    → PlacesEndBy (len src) (fields_of f).content
    → over_limit limit (size_of (values_of f src)) ≡ false
    → len (encode_frame (values_of f src)) ≤ len out
    → write_frame (fields_of f) src limit out ≡ writes (encode_frame (values_of f src)) out

-- A refusal changes no byte of the output.
abbrev pub RefusedWriteTouchesNothing : Type 0
RefusedWriteTouchesNothing =
    (f : Fields Place) (src : List ℕ) (limit : ℕ) (out : List ℕ) (n : ℕ)
    → (write_frame f src limit out).answer ≡ refusal n
    → (write_frame f src limit out).out ≡ out
