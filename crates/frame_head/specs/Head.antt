-- What stands in front of a frame's content (01 "Frame and keys"): Size uint32, key uint16, version uint16.
use Rattle.std.specs.Prelude.{List, ℕ}
use Rattle.wire.specs.Integers.{number_or_zero}
use Rattle.frame_head.specs.declared.head.Head.{Head}

unfoldable pub head_of : List ℕ → Head
head_of s = record { size = number_or_zero 4 s 0; key = number_or_zero 2 s 4; version = number_or_zero 2 s 6 }
