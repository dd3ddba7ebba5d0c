-- The last slot alone says whether it is used: if it is 0, the slots before it say the rest.
use Rattle.std.proofs.Common.{◌∙◌, sym, arith}
use Rattle.test_frames.proofs.Used.{used_less, used_up_lem, used_none}
use Rattle.test_frames.proofs.answer.used.Goals as goal

pub returns-then-slots-n-ne0-clause-value : goal.returns-then-slots-n-ne0-clause-value
returns-then-slots-n-ne0-clause-value c =
    let i = c.loop-n.invariant in
    let u = used_up_lem _ c.loop-n.n (omega (arith, c.loop-n-test.true)) i.0 c.if-slots-n-ne0.true in
    omega (arith, i.1, u, c.loop-n-test.true)

pub loop-n-preserved : goal.loop-n-preserved
loop-n-preserved c =
    let i = c.loop-n.invariant in
    (omega (arith, i.0), i.1 ∙ used_less _ c.loop-n.n (omega (arith, c.loop-n-test.true)) i.0 c.if-slots-n-ne0.false)

pub returns-clause-value : goal.returns-clause-value
returns-clause-value c = let i = c.loop-n.invariant in sym (i.1 ∙ used_none _ c.loop-n.n (omega (arith, c.loop-n-test.false)))
