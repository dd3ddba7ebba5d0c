-- A frame needs a bounded number of bytes.
use Rattle.std.proofs.Common.{arith}
use Rattle.wire.specs.Integers.{Bytes}
use Rattle.krevilosh.proofs.Answers.{needed_fits}
use Rattle.krevilosh.proofs.reading.krevilosh_read.Goals as goal

pub unread-requires : goal.unread-requires
unfolding Bytes
unread-requires c = needed_fits _ c.args.limit c.in-Err.error (λ i. omega (arith, c.type_inv.bytes i)) c.in-Err.ensures.refusal
