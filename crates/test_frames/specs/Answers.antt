-- What is printed of an answer.
use Rattle.std.specs.Prelude.{ℕ, zero, suc, ◌+◌, cond, ◌&&◌, List, [], ◌∷◌, eqb, take}
use Rattle.rules.specs.Reading.{Reading, frame, short, refusal, read_frame}

-- How many slots there are without the zeros after the last one that is not 0.
unfoldable pub used : List ℕ → ℕ
used [] = 0
used (x ∷ xs) = cond (eqb x 0 && eqb (used xs) 0) 0 (suc (used xs))

-- 1 if the answer is refusal 1 and n bytes are needed, else 0.
abbrev pub needs : ℕ → Reading → ℕ
needs n (frame f) = 0
needs n (short m) = cond (eqb m n) 1 0
needs n (refusal number place) = 0

-- How many of the cuts of s that are shorter than k need n bytes.
unfoldable pub cuts_needing : ℕ → List ℕ → ℕ → ℕ → ℕ
cuts_needing limit s n zero = 0
cuts_needing limit s n (suc k) = cuts_needing limit s n k + needs n (read_frame (take k s) limit)
