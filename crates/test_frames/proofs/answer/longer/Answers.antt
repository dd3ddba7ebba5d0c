-- A frame that was read is there to its end.
use Rattle.test_frames.proofs.Cuts.{whole}
use Rattle.test_frames.proofs.answer.longer.Goals as goal

pub accepted-requires : goal.accepted-requires
accepted-requires c = whole _ _ c.in-Ok.ensures.value
