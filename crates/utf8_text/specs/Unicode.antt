-- What the ABNF means: UTF-8 text is the Unicode scalar values' encodings, one after another (RFC 3629, section 3).
use Rattle.std.specs.Prelude.{◌≡◌, cond, true, List, [], ◌∷◌, ◌++◌, ◌⊎◌, ◌↔◌, ℕ, ◌+◌, ◌/◌, ◌%◌, ◌≤◌, ltb}
use Rattle.utf8_text.specs.Utf8.{utf8}

-- A Unicode scalar value: any character number but a surrogate.
abbrev pub Scalar : ℕ → Type 0
Scalar c = (c ≤ 0xd7ff) ⊎ ((0xe000 ≤ c) × (c ≤ 0x10ffff))

-- A tail byte: 10 and the lowest six bits.
abbrev pub tail : ℕ → ℕ
tail c = 0x80 + c % 64

-- A character number's bytes: six bits in each tail byte, the upper ones in the first byte.
unfoldable pub character : ℕ → List ℕ
character c =
    cond (ltb c 0x80) (c ∷ [])
    (cond (ltb c 0x800) ((0xc0 + c / 64) ∷ tail c ∷ [])
    (cond (ltb c 0x10000) ((0xe0 + c / 4096) ∷ tail (c / 64) ∷ tail c ∷ [])
    ((0xf0 + c / 262144) ∷ tail (c / 4096) ∷ tail (c / 64) ∷ tail c ∷ [])))

-- A text's bytes.
unfoldable pub encoded : List ℕ → List ℕ
encoded [] = []
encoded (c ∷ cs) = character c ++ encoded cs

abbrev pub Scalars : List ℕ → Type 0
Scalars [] = Unit
Scalars (c ∷ cs) = Scalar c × Scalars cs

-- A text passes exactly if it is the concatenation of the encodings of Unicode scalar values.
abbrev pub Unicode : Type 0
Unicode = (s : List ℕ) → (utf8 s ≡ true) ↔ ((cs : List ℕ) × Scalars cs × (s ≡ encoded cs))
