-- A signed number in a slot's 64 bits: its bits in a field whose bits, all 1, are `ones`.
use Rattle.std.specs.Prelude.{cond, ℕ, ◌-◌, ltb}

unfoldable pub narrow : ℕ → ℕ → ℕ
narrow ones x = cond (ltb x 0x8000_0000_0000_0000) x (ones - (0xffff_ffff_ffff_ffff - x))
