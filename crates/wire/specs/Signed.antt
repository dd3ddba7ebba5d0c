-- Signed integers: two's complement over a width of n bytes.
use Rattle.std.specs.Prelude.{◌≡◌, cond, ℕ, ◌-◌, ◌/◌, ◌^◌, ◌<◌, ltb, ℤ, pos, negsuc}

-- The integer whose bits a number is: below half of the range the number itself, above it less the whole range.
-- (`negsuc k` is -1 - k.)
unfoldable pub signed : ℕ → ℕ → ℤ
signed n x = cond (ltb x (256 ^ n / 2)) (pos x) (negsuc (256 ^ n - 1 - x))

-- The bits of an integer.
unfoldable pub unsigned : ℕ → ℤ → ℕ
unsigned n (pos x) = x
unsigned n (negsuc k) = 256 ^ n - 1 - k

-- The integer fits n bytes.
abbrev pub Signed : ℕ → ℤ → Type 0
Signed n (pos x) = x < 256 ^ n / 2
Signed n (negsuc k) = k < 256 ^ n / 2

-- The law of a width of at least a byte: no bit is lost either way.
pub record SignedLaw (n : ℕ) : Type 0 where
  pub signed_unsigned : (z : ℤ) → Signed n z → signed n (unsigned n z) ≡ z
  pub unsigned_signed : (x : ℕ) → x < 256 ^ n → unsigned n (signed n x) ≡ x
  pub bits : (z : ℤ) → Signed n z → unsigned n z < 256 ^ n
  pub fits : (x : ℕ) → x < 256 ^ n → Signed n (signed n x)
