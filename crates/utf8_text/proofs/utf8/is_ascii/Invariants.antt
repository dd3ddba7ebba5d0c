-- The bytes before i are ASCII. At the end those before the last eight are among them.
use Rattle.std.proofs.Common.{◌≡◌, ◌-◌, take, true}
use Rattle.utf8_text.specs.Utf8.{ascii}
use Rattle.utf8_text.proofs.utf8.is_ascii.Given as goal

abbrev pub invariant-loop-i : goal.invariant-loop-i
invariant-loop-i l = ascii (take l.i l.s) ≡ true

abbrev pub decreases-loop-i : goal.decreases-loop-i
decreases-loop-i l = l.last - l.i
