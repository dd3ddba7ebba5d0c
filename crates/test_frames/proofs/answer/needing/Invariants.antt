-- The count is that of the cuts shorter than k.
use Rattle.std.proofs.Common.{◌≡◌, ◌≤◌}
use Rattle.test_frames.specs.Answers.{cuts_needing}
use Rattle.test_frames.proofs.answer.needing.Given as goal

abbrev pub invariant-loop-k : goal.invariant-loop-k
invariant-loop-k l = (l.count ≤ l.k) × (l.count ≡ cuts_needing l.limit l.frame l.n l.k)
