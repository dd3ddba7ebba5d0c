-- A frame that is read, written and read again.
use Rattle.std.specs.Prelude.{ℕ, zero, suc, Bool, true, false, cond, ◌&&◌, List, [], ◌∷◌, Option, None, Some, eqb, take, replicate}
use Rattle.protocol.specs.Fields.{Fields}
use Rattle.protocol.specs.declared.place.Place.{Place}
use Rattle.rules.specs.Reading.{Reading, frame, short, refusal, read_frame}
use Rattle.rules.specs.Writing as writing

-- The first n bytes of both are there, and they are the same.
unfoldable pub alike : ℕ → List ℕ → List ℕ → Bool
alike zero s t = true
alike (suc n) [] t = false
alike (suc n) (x ∷ s) [] = false
alike (suc n) (x ∷ s) (y ∷ t) = eqb x y && alike n s t

abbrev pub is_frame : Reading → Bool
is_frame (frame f) = true
is_frame (short needed) = false
is_frame (refusal n place) = false

-- n, if the first n bytes of out are those of s and are read as a frame.
abbrev pub length_if : ℕ → List ℕ → List ℕ → Option ℕ
length_if n s out = cond (alike n s out && is_frame (read_frame (take n out) 0)) (Some n) None

-- The same of what was written, by the answer and what the output holds; a frame that was refused did not come back.
abbrev pub length_back : List ℕ → writing.Written → List ℕ → Option ℕ
length_back s (writing.length n) out = length_if n s out
length_back s (writing.refusal n) out = None

-- The output before it is written to: 65,536 zeros.
unfoldable pub space : List ℕ
space = replicate 65536 0

-- The length of a frame whose places are in s, if it is written as the bytes at the start of s and they are read as a
-- frame.
abbrev pub written_back : List ℕ → Fields Place → Option ℕ
written_back s f = let w = writing.write_frame f s 0 space in length_back s w.answer w.out

-- The length of the frame at the start of s, if it is read and comes back as it was.
abbrev pub back : List ℕ → Reading → Option ℕ
back s (frame f) = written_back s f
back s (short needed) = None
back s (refusal n place) = None
