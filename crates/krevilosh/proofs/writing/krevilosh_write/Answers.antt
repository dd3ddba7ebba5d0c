-- A frame's length is bounded.
use Rattle.krevilosh.proofs.Lengths.{length_below}
use Rattle.krevilosh.proofs.writing.krevilosh_write.Goals as goal

pub packed-requires : goal.packed-requires
packed-requires c = length_below c.args.frame.now c.args.source.now c.args.limit c.args.out.now _ _ c.in-Ok.ensures
