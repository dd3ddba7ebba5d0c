-- The texts that are tried: a leading byte, followed by bytes at the edges of the ranges that RFC 3629 names.
use Rattle.std.specs.Prelude.{ℕ, ◌/◌, ◌%◌, Bool, cond, List, [], ◌∷◌, take, get_or}
use Rattle.utf8_text.specs.Utf8.{utf8}
use Rattle.test_wire_text_keys.specs.Sums.{sum_below, one_if}
use Rattle.test_wire_text_keys.specs.declared.utf8.Accepted.{Accepted}

abbrev pub edges : List ℕ
edges = 0x00 ∷ 0x7f ∷ 0x80 ∷ 0x8f ∷ 0x90 ∷ 0x9f ∷ 0xa0 ∷ 0xbf ∷ 0xc0 ∷ 0xff ∷ []

-- The edge that a number's last decimal digit chooses.
abbrev pub edge : ℕ → ℕ
edge n = get_or edges (n % 10) 0

-- Text number k: the leading byte, then the edges that the decimal digits of k choose, the lowest first.
abbrev pub text_of : ℕ → ℕ → List ℕ
text_of lead k = lead ∷ edge k ∷ edge (k / 10) ∷ edge (k / 100) ∷ []

-- Whether its first len bytes are UTF-8.
unfoldable pub passes : ℕ → ℕ → ℕ → Bool
passes lead len k = utf8 (take len (text_of lead k))

-- How many of the texts of len bytes numbered below n pass, and the sum of their numbers.
abbrev pub count_below : ℕ → ℕ → ℕ → ℕ
count_below lead len n = sum_below (λ k. one_if (passes lead len k)) n

abbrev pub numbers_below : ℕ → ℕ → ℕ → ℕ
numbers_below lead len n = sum_below (λ k. cond (passes lead len k) k 0) n

abbrev pub accepted : ℕ → ℕ → ℕ → Accepted
accepted lead len n = record { count = count_below lead len n; sum = numbers_below lead len n }
