-- Text and numbers in ASCII.
use Rattle.std.specs.Prelude.{cond, List, [], ◌∷◌, ◌++◌, ℕ, zero, suc, ◌/◌, ltb}
use Prim.Native.Char.{code}
use Prim.Native.String.{String, [] as empty, ◌∷◌ as ◌before◌}
use Rattle.io.specs.Digits.{last_digits}
use Rattle.wire.specs.Buffer.{Holds, holds, put}

-- A text's codes.
abbrev pub ascii : String → List ℕ
ascii empty = []
ascii (c before s) = code c ∷ ascii s

-- How many decimal digits a number has, if they are at most so many more than one.
unfoldable pub places : ℕ → ℕ → ℕ
places zero n = 1
places (suc more) n = cond (ltb n 10) 1 (suc (places more (n / 10)))

-- A number in decimal, with no zeros in front. Every number below 2 ^ 64 has at most 20 digits.
unfoldable pub decimal : ℕ → List ℕ
decimal n = last_digits 10 (places 19 n) n

-- A uint16 as four lower-case hexadecimal digits.
unfoldable pub hex : ℕ → List ℕ
hex n = last_digits 16 4 n

-- Pieces of text put one behind another. A piece that has no room is left out.
unfoldable pub puts : List ℕ → ℕ → List (List ℕ) → Holds
puts out at [] = holds out at
puts out at (piece ∷ pieces) = puts (put out at piece).bytes (put out at piece).next pieces

-- Pieces as one text.
unfoldable pub joined : List (List ℕ) → List ℕ
joined [] = []
joined (piece ∷ pieces) = piece ++ joined pieces
