-- Elements of one width.
use Rattle.std.specs.Prelude.{◌≡◌, cond, ℕ, suc, ◌+◌, ◌-◌, ◌*◌, ◌/◌, ◌^◌, ltb, Result, Ok, Err}
use Rattle.wire.specs.Integers.{width_of}
use Rattle.wire.specs.declared.integers.Width.{Width}
use Rattle.protocol.specs.Kinds.{Kind, Row, end, ◌·◌, unsigned, list, plain}

-- A row of numbers that fill their bytes, and how many bytes it has.
pub data NumbersOf : Row → ℕ → Type 0 where
  none : NumbersOf end 0
  one_more : {row : Row} {w : ℕ} (n most : ℕ) → 256 ^ n ≡ suc most → NumbersOf row w → NumbersOf (unsigned n most · row) (n + w)

-- A list of numbers that fill their bytes.
abbrev pub numbers : Width → Kind
numbers width = list plain (unsigned (width_of width) (256 ^ width_of width - 1) · end)

-- Where so many elements of a width end, if they all lie within len bytes; or else where the first begins that does not.
unfoldable pub fixed_end : ℕ → ℕ → ℕ → ℕ → Result ℕ ℕ
fixed_end len at width count =
    cond (ltb ((len - at) / width) count)
    (Err (at + (len - at) / width * width))
    (Ok (at + count * width))
