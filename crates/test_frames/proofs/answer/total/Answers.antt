-- Size is there, and it is read.
use Rattle.std.proofs.Common.{ap, ◌+◌}
use Rattle.frame_head.proofs.Heads.{size_there}
use Rattle.test_frames.proofs.answer.total.Goals as goal

pub returns : goal.returns
returns c = ap (λ x. x + 4) (size_there _ _ c.head_of-head.ensures c.requires)
