-- What is left from the place reached on decides.
use Rattle.std.specs.Prelude.{◌≡◌, ◌+◌, drop}
use Rattle.test_text.specs.Search.{index_of}
use Rattle.test_text.proofs.search.find.Given as goal

abbrev pub invariant-loop-at : goal.invariant-loop-at
invariant-loop-at l = l.from + index_of l.byte (drop l.from l.text) ≡ l.at + index_of l.byte (drop l.at l.text)
