-- The first i bytes are there, and after them out is as it was.
use Rattle.std.specs.Prelude.{◌≡◌, ◌++◌, take, drop}
use Rattle.test_text.specs.Digits.{octets}
use Rattle.test_text.proofs.digits.unhex.Given as goal

abbrev pub invariant-loop-i : goal.invariant-loop-i
invariant-loop-i l = l.out ≡ take l.i (octets l.text) ++ drop l.i l.fn.out
