-- The head alone.
use Rattle.std.proofs.Common.{[]}
use Rattle.fast_writing.proofs.Chain.{frame_put}
use Rattle.fast_writing.proofs.Encoded.{heartbeat_row}
use Rattle.fast_writing.proofs.writing.heartbeat.Goals as goal

pub returns : goal.returns
returns c = frame_put 0x0017 _ _ c.args.out.now _ _ _ _ (heartbeat_row [] []) (c.fits.ensures.0 c.if-not-fits.false) c.put_head.ensures
