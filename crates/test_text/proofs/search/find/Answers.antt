-- A byte that was found ends the count, one that was passed adds 1 to it, and none are left at the end.
use Rattle.std.proofs.Common.{arith}
use Rattle.test_text.proofs.Places.{found, passed, all_passed}
use Rattle.test_text.proofs.search.find.Goals as goal

pub returns-then-text-at-clause-value : goal.returns-then-text-at-clause-value
returns-then-text-at-clause-value c = let f = found c.args.text.now c.loop-at.at c.args.byte c.loop-at-test.true c.if-text-at.true in omega (arith, f, c.loop-at.invariant)

pub loop-at-preserved : goal.loop-at-preserved
loop-at-preserved c = let p = passed c.args.text.now c.loop-at.at c.args.byte c.loop-at-test.true c.if-text-at.false in omega (arith, p, c.loop-at.invariant)

pub returns-clause-value : goal.returns-clause-value
returns-clause-value c =
    let p = all_passed c.args.text.now c.args.from c.loop-at.at c.args.byte (omega arith) c.loop-at.invariant c.loop-at.auto.at-end in
    omega (arith, p)
