-- Decimal numbers and hexadecimal bytes in ASCII.
use Rattle.std.specs.Prelude.{ℕ, ◌+◌, ◌-◌, ◌*◌, ◌%◌, Bool, false, cond, List, [], ◌∷◌, leb, ltb}

-- Whether a byte is one of "0" to "9".
abbrev pub is_digit : ℕ → Bool
is_digit b = cond (ltb b 0x30) false (leb b 0x39)

-- The value of a digit, decimal or hexadecimal in lower case: "a" is 0x61. Of any other byte, some number below 16.
abbrev pub digit_of : ℕ → ℕ
digit_of b = cond (ltb b 0x61) (b % 16) ((b - 0x57) % 16)

-- The number whose decimal digits a text begins with, after digits that make v.
unfoldable pub number_from : ℕ → List ℕ → ℕ
number_from v [] = v
number_from v (b ∷ bs) = cond (is_digit b) (number_from (v * 10 + digit_of b) bs) v

-- Of a longer number the last ten digits.
abbrev pub number_in : List ℕ → ℕ
number_in s = number_from 0 s % 10000000000

-- The bytes that pairs of hexadecimal digits make; a last digit without its second makes none.
unfoldable pub octets : List ℕ → List ℕ
octets [] = []
octets (a ∷ []) = []
octets (a ∷ b ∷ bs) = (digit_of a * 16 + digit_of b) ∷ octets bs
