-- By whether both are long enough.
use Rattle.std.proofs.Common.{◌∙◌, arith}
use Rattle.test_round_trips.proofs.SameBytes.{cut, same_bytes}
use Rattle.test_round_trips.proofs.trip.alike.Goals as goal

pub returns-then-s-len : goal.returns-then-s-len
returns-then-s-len c = cut _ _ _ c.then-s-len.either

pub returns : goal.returns
returns c = c.eq.ensures ∙ same_bytes _ _ _ (omega arith) (omega arith)
