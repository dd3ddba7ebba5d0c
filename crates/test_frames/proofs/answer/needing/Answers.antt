-- One cut more adds its own.
use Rattle.std.proofs.Common.{arith}
use Rattle.std.proofs.Math.Nat.{sub-zero}
use Rattle.test_frames.proofs.Cuts.{no_cuts, one_cut}
use Rattle.test_frames.proofs.answer.needing.Goals as goal

pub loop-k-init : goal.loop-k-init
loop-k-init c = (omega arith, no_cuts _ _ _)

pub loop-k-preserved : goal.loop-k-preserved
loop-k-preserved c =
    let l = c.loop-k in
    let i = l.invariant.0 in
    let u = c.short_of-count.ensures.upper_bound in
    (omega (arith, i, u), one_cut _ _ _ l.k l.count _ l.invariant.1 (rw sub-zero at c.short_of-count.ensures.value))
