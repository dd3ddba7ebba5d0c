-- No slot from n on is used.
use Rattle.std.proofs.Common.{◌≡◌, ◌≤◌, length, take}
use Rattle.test_frames.specs.Answers.{used}
use Rattle.test_frames.proofs.answer.used.Given as goal

abbrev pub invariant-loop-n : goal.invariant-loop-n
invariant-loop-n l = (l.n ≤ length l.slots) × (used l.slots ≡ used (take l.n l.slots))
