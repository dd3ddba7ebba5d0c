-- A frame needs a bounded number of bytes.
use Rattle.std.proofs.Common.{arith}
use Rattle.wire.specs.Integers.{Bytes}
use Rattle.krevilosh.proofs.Answers.{received_fits}
use Rattle.krevilosh.proofs.reading.krevilosh_credit_receive.Goals as goal

pub unread-requires : goal.unread-requires
unfolding Bytes
unread-requires c =
    let e = rw c.in-Err-Read.field-0-is at c.in-Err-Read.ensures.refusal in
    received_fits c.args.credits.now c.args.bytes.now c.args.limit c.in-Err-Read.error (λ i. omega (arith, c.type_inv.bytes i)) e
