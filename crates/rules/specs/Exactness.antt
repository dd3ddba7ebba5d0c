-- Reading against the grammar: a frame is read exactly if it is whole, within the frame limit and well formed, and what
-- is read is what was encoded.
use Rattle.std.specs.Prelude.{◌≡◌, false, cond, List, ◌++◌, ◌⊎◌, ℕ, ◌+◌, ◌<◌, ltb, take}
use Rattle.wire.specs.Integers.{Bytes, big_endian}
use Rattle.protocol.specs.Fields.{Fields, values_in, PlacesEndBy}
use Rattle.protocol.specs.declared.place.Place.{Place}
use Rattle.rules.specs.Grammar.{encode_frame, size_of, ValidFrame}
use Rattle.rules.specs.Reading.{frame, short, over_limit, read_frame}

-- s starts with the whole encoding of well-formed fields whose Size is within the limit.
pub record Starts (s : List ℕ) (limit : ℕ) (v : Fields (List ℕ)) : Type 0 where
  pub valid : ValidFrame v
  pub within : over_limit limit (size_of v) ≡ false
  pub rest : List ℕ
  pub whole : s ≡ encode_frame v ++ rest

-- Size + 4 bytes, as the first four say.
abbrev pub frame_length : List ℕ → ℕ
frame_length s = big_endian 4 s 0 + 4

pub record Exact : Type 0 where
  -- What is read is well formed, and it is what the bytes encode.
  pub sound : (s : List ℕ) (limit : ℕ) (f : Fields Place) → Bytes s → read_frame s limit ≡ frame f → Starts s limit (values_in s f)
  -- Whatever is well formed is read, as it was encoded.
  pub complete : (s : List ℕ) (limit : ℕ) (v : Fields (List ℕ)) → Starts s limit v → (f : Fields Place) × (read_frame s limit ≡ frame f) × (values_in s f ≡ v)
  -- Every place that is handed out lies within the frame.
  pub inside : (s : List ℕ) (limit : ℕ) (f : Fields Place) → read_frame s limit ≡ frame f → PlacesEndBy (frame_length s) f.content

-- Nothing beyond the declared size plays any part: bytes that agree as far as it reaches are read alike.
abbrev pub NothingBeyond : Type 0
NothingBeyond = (s t : List ℕ) (limit : ℕ) → take (frame_length s) s ≡ take (frame_length s) t → read_frame s limit ≡ read_frame t limit

-- A frame with its end missing is never read: it is refused with 1, and the answer names the bytes of the whole frame,
-- or 4 where Size itself is cut.
abbrev pub CutIsRefused : Type 0
CutIsRefused = (s : List ℕ) (limit n : ℕ) (f : Fields Place) → read_frame s limit ≡ frame f → n < frame_length s → read_frame (take n s) limit ≡ short (cond (ltb n 4) 4 (frame_length s))

-- An answer other than refusal 1 stays the same, whatever bytes follow. So a program that reads through a window needs
-- more bytes only where it is told so.
abbrev pub AnswerStays : Type 0
AnswerStays = (s rest : List ℕ) (limit : ℕ) → ((n : ℕ) × (read_frame s limit ≡ short n)) ⊎ (read_frame (s ++ rest) limit ≡ read_frame s limit)
