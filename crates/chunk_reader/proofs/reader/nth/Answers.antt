-- Each turn asks one of the questions that are to come. At the end one is left, and they are as many as the answer needs.
use Rattle.std.proofs.Common.{◌≡◌, ◌-◌, ◌+◌, suc, arith, ◌∙◌}
use Rattle.chunk_reader.specs.Run.{asked}
use Rattle.chunk_reader.proofs.Runs.{enough}
use Rattle.chunk_reader.proofs.reader.nth.Goals as goal

pub loop-preserved : goal.loop-preserved
unfolding asked
loop-preserved c =
    let n = c.min-before.result in
    let e : n - c.loop.counter ≡ suc (n - (c.loop.counter + 1)) = omega arith in
    rw c.next-reader.ensures (rw e at c.loop.invariant)

pub returns : goal.returns
unfolding asked
returns c =
    let e : c.min-before.result - c.loop.counter ≡ 0 = omega arith in
    let last = rw e at c.loop.invariant in
    let all = rw (c.min-before.ensures, c.new-reader.ensures) at last in
    rw (c.found.ensures, c.next.ensures) (all ∙ enough c.args.chunk c.args.k)
