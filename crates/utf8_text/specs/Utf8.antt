-- UTF-8 (RFC 3629, section 4: the ABNF).
use Rattle.std.specs.Prelude.{Bool, true, false, cond, ◌&&◌, List, [], ◌∷◌, ℕ, zero, suc, leb, ltb, replicate, Some, None}
use Rattle.std.specs.declared.option.Option as Known
use Rattle.std.proofs.Math.Option.{Option, none, some}
use Rattle.utf8_text.specs.declared.utf8.Pending.{Pending}

infix 70 ◌‥◌
-- The bytes from one to another, both included: `0xc2 ‥ 0xdf` is the ABNF's %x_c2-DF.
pub data Range : Type 0 where
  ◌‥◌ : ℕ → ℕ → Range

abbrev pub within : Range → ℕ → Bool
within (low ‥ high) b = leb low b && leb b high

-- UTF8-tail
abbrev pub tail : Range
tail = 0x80 ‥ 0xbf

-- UTF8-char: an alternative a line, in the ABNF's order. No two begin with the same byte.
unfoldable pub characters : List (List Range)
characters =
    (0x00 ‥ 0x7f ∷ [])
    ∷ (0xc2 ‥ 0xdf ∷ tail ∷ [])
    ∷ (0xe0 ‥ 0xe0 ∷ 0xa0 ‥ 0xbf ∷ tail ∷ [])
    ∷ (0xe1 ‥ 0xec ∷ tail ∷ tail ∷ [])
    ∷ (0xed ‥ 0xed ∷ 0x80 ‥ 0x9f ∷ tail ∷ [])
    ∷ (0xee ‥ 0xef ∷ tail ∷ tail ∷ [])
    ∷ (0xf0 ‥ 0xf0 ∷ 0x90 ‥ 0xbf ∷ tail ∷ tail ∷ [])
    ∷ (0xf1 ‥ 0xf3 ∷ tail ∷ tail ∷ tail ∷ [])
    ∷ (0xf4 ‥ 0xf4 ∷ 0x80 ‥ 0x8f ∷ tail ∷ tail ∷ [])
    ∷ []

-- The rest of the alternative that a byte begins; none where it begins no character.
unfoldable pub begun : List (List Range) → ℕ → Option (List Range)
begun [] b = none
begun ([] ∷ rows) b = begun rows b
begun ((r ∷ rs) ∷ rows) b = cond (within r b) (some rs) (begun rows b)

abbrev pub first : ℕ → Option (List Range)
first b = begun characters b

-- What has to follow one byte later: none once nothing can make the text right.
abbrev pub next : Option (List Range) → ℕ → Option (List Range)
next none b = none
next (some []) b = first b
next (some (r ∷ rs)) b = cond (within r b) (some rs) none

-- What has to follow a text.
unfoldable pub following : Option (List Range) → List ℕ → Option (List Range)
following o [] = o
following o (b ∷ s) = following (next o b) s

abbrev pub whole : Option (List Range) → Bool
whole none = false
whole (some []) = true
whole (some (r ∷ rs)) = false

-- UTF8-octets: the text is whole characters, one after another.
abbrev pub utf8 : List ℕ → Bool
utf8 s = whole (following (some []) s)

-- Every byte is ASCII.
unfoldable pub ascii : List ℕ → Bool
ascii [] = true
ascii (b ∷ s) = ltb b 0x80 && ascii s

-- What the code's state says has to follow.
abbrev pub ranges : ℕ → Range → List Range
ranges zero r = []
ranges (suc n) r = r ∷ replicate n tail

unfoldable pub expects : Known.Option Pending → Option (List Range)
expects None = none
expects (Some p) = some (ranges p.left (p.low ‥ p.high))
