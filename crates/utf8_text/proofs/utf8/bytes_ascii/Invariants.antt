-- The bytes before the index are ASCII.
use Rattle.std.proofs.Common.{◌≡◌, take, true}
use Rattle.utf8_text.specs.Utf8.{ascii}
use Rattle.utf8_text.proofs.utf8.bytes_ascii.Given as goal

abbrev pub invariant-loop-b : goal.invariant-loop-b
invariant-loop-b l = ascii (take l.b-index l.s) ≡ true
