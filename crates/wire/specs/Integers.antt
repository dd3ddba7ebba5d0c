-- Big-endian unsigned integers (01 "Numbers and text on the wire": all integers are big endian).
use Rattle.std.specs.Prelude.{◌≡◌, cond, List, [], ◌∷◌, ◌++◌, ℕ, zero, suc, ◌+◌, ◌*◌, ◌/◌, ◌%◌, ◌^◌, ◌<◌, ◌≤◌, leb, length, get_or, take, drop, Some, None}
use Rattle.std.specs.declared.option.Option.{Option}
use Rattle.wire.specs.declared.integers.Width.{Width}
use Rattle.wire.specs.declared.integers.Width.TheVariants.{One, Two, Three, Four, Eight}

-- Every element is a byte.
unfoldable pub Bytes : List ℕ → Type 0
Bytes s = (i : ℕ) → get_or s i 0 < 256

-- The n low bytes of a number, big endian.
unfoldable pub digits : ℕ → ℕ → List ℕ
digits zero x = []
digits (suc n) x = digits n (x / 256) ++ (x % 256 ∷ [])

-- The number that the n bytes from a place on are, big endian.
unfoldable pub big_endian : ℕ → List ℕ → ℕ → ℕ
big_endian zero s at = 0
big_endian (suc n) s at = big_endian n s at * 256 + get_or s (at + n) 0

-- The bytes that a width has.
abbrev pub width_of : Width → ℕ
width_of One = 1
width_of Two = 2
width_of Three = 3
width_of Four = 4
width_of Eight = 8

-- The number of n bytes at a place, if they are all there.
unfoldable pub number_at : ℕ → List ℕ → ℕ → Option ℕ
number_at n s at = cond (leb (at + n) (length s)) (Some (big_endian n s at)) None

-- The same; 0 where they are not.
unfoldable pub number_or_zero : ℕ → List ℕ → ℕ → ℕ
number_or_zero n s at = cond (leb (at + n) (length s)) (big_endian n s at) 0

-- The law of a width: what is written is read, what is read is written, and neither leaves the width.
pub record Law (n : ℕ) : Type 0 where
  pub size : (x : ℕ) → length (digits n x) ≡ n
  pub bytes : (x : ℕ) → Bytes (digits n x)
  pub range : (s : List ℕ) (at : ℕ) → Bytes s → big_endian n s at < 256 ^ n
  pub read_written : (x : ℕ) (p q : List ℕ) → x < 256 ^ n → big_endian n (p ++ (digits n x ++ q)) (length p) ≡ x
  pub written_read : (s : List ℕ) (at : ℕ) → Bytes s → at + n ≤ length s → digits n (big_endian n s at) ≡ take n (drop at s)
