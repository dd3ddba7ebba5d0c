-- What is said in the end is still to come: the questions that are left give what all of them give from the start.
use Rattle.std.proofs.Common.{◌≡◌, ◌-◌, suc}
use Rattle.chunk_reader.specs.Run.{asked}
use Rattle.chunk_reader.proofs.reader.nth.Given as goal

abbrev pub invariant-loop : goal.invariant-loop
invariant-loop l = (asked (suc (l.before - l.counter)) l.reader).spot.found ≡ (asked (suc l.before) l.initial.reader).spot.found
