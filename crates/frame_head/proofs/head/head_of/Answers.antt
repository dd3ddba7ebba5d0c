-- A number of so many bytes is below the power of so many.
use Rattle.std.proofs.Common.{arith}
use Rattle.wire.specs.Integers.{Bytes}
use Rattle.frame_head.proofs.Heads.{zero_below}
use Rattle.frame_head.proofs.head.head_of.Goals as goal

pub overflow_cast-result : goal.overflow_cast-result
unfolding Bytes
overflow_cast-result c = omega (arith, zero_below 4 _ 0 _ (λ i. omega (arith, c.type_inv.bytes i)) c.number_or_zero.ensures)

pub overflow_cast-result-2 : goal.overflow_cast-result-2
unfolding Bytes
overflow_cast-result-2 c = omega (arith, zero_below 2 _ 4 _ (λ i. omega (arith, c.type_inv.bytes i)) c.number_or_zero-2.ensures)

pub overflow_cast-result-3 : goal.overflow_cast-result-3
unfolding Bytes
overflow_cast-result-3 c = omega (arith, zero_below 2 _ 6 _ (λ i. omega (arith, c.type_inv.bytes i)) c.number_or_zero-3.ensures)
