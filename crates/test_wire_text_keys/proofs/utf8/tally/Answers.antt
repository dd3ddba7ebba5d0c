-- A text that passes adds 1 and its number, any other one nothing.
use Rattle.std.proofs.Common.{◌∙◌, sym, arith}
use Rattle.test_wire_text_keys.proofs.Sums.{sum_none}
use Rattle.test_wire_text_keys.proofs.Tally.{passed, failed}
use Rattle.test_wire_text_keys.proofs.utf8.tally.Goals as goal
use Rattle.test_wire_text_keys.proofs.utf8.tally.Goals.{then-passes, else-passes}

pub loop-k-init : goal.loop-k-init
loop-k-init c = ((omega arith, omega arith), (sum_none _, sum_none _))

pub loop-k-preserved : goal.loop-k-preserved
loop-k-preserved c =
    let l = c.loop-k in
    let h = l.invariant.0 in
    let k = c.loop-k-test.true in
    elim c.if-passes.branch [
      | then-passes w ↦
          let p = passed c.args.lead c.args.len l.k l.count l.sum l.invariant.1.0 l.invariant.1.1 (sym c.passes.ensures ∙ w.if-passes.true) in
          ((omega (arith, h, w.count-is), omega (arith, h, k, c.requires, l.auto.k-end, w.sum-is)), (w.count-is ∙ p.0, w.sum-is ∙ p.1))
      | else-passes w ↦
          let p = failed c.args.lead c.args.len l.k l.count l.sum l.invariant.1.0 l.invariant.1.1 (sym c.passes.ensures ∙ w.if-passes.false) in
          ((omega (arith, h, w.count-is), omega (arith, h, w.sum-is)), (w.count-is ∙ p.0, w.sum-is ∙ p.1))
    ]
