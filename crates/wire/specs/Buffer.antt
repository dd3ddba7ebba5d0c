-- Bytes put into a lent buffer.
use Rattle.std.specs.Prelude.{◌≡◌, cond, List, ◌++◌, ℕ, ◌+◌, ◌<◌, ◌≤◌, leb, length, get_or, take, drop}

-- What a buffer holds after bytes were put into it, and the place behind them.
pub record Holds : Type 0 where
  pub bytes : List ℕ
  pub next : ℕ

abbrev pub holds : List ℕ → ℕ → Holds
holds s at = record { bytes = s; next = at }

-- b in the place of as many bytes of s, from a place on.
unfoldable pub splice : List ℕ → ℕ → List ℕ → List ℕ
splice s at b = take at s ++ (b ++ drop (at + length b) s)

-- b put at a place of s. Where s has no room for it, s stays as it is.
unfoldable pub put : List ℕ → ℕ → List ℕ → Holds
put s at b = cond (leb (at + length b) (length s)) (holds (splice s at b) (at + length b)) (holds s at)

-- len bytes of src, from a place of it on, put at a place of s. Where src has not so many, s stays as it is.
unfoldable pub copied : List ℕ → ℕ → List ℕ → ℕ → ℕ → Holds
copied s at src from len = cond (leb (from + len) (length src)) (put s at (take len (drop from src))) (holds s at)

-- What the buffer holds afterwards, byte for byte, where there is room: b at its place, and the rest as it was.
pub record Written (s : List ℕ) (at : ℕ) (b : List ℕ) : Type 0 where
  pub as_long : length (splice s at b) ≡ length s
  pub before : (i : ℕ) → i < at → get_or (splice s at b) i 0 ≡ get_or s i 0
  pub within : (i : ℕ) → i < length b → get_or (splice s at b) (at + i) 0 ≡ get_or b i 0
  pub after : (i : ℕ) → at + length b ≤ i → get_or (splice s at b) i 0 ≡ get_or s i 0
