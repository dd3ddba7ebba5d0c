-- One digit more, a byte that is none, or the end.
use Rattle.std.proofs.Common.{sym, ◌∙◌, arith}
use Rattle.test_text.proofs.Numbers.{number_more, number_stop, number_end}
use Rattle.test_text.proofs.digits.number.Goals as goal

pub loop-b-preserved : goal.loop-b-preserved
loop-b-preserved c =
    let i = c.loop-b.invariant in
    record {
      small = omega arith;
      same = i.same ∙ number_more c.args.text.now c.loop-b.b-index c.loop-b.value c.digit.result c.loop-b-test.true (sym c.is_digit.ensures ∙ c.if-not-is_digit.false) c.digit.ensures.value;
    }

pub returns-then-not-is_digit : goal.returns-then-not-is_digit
returns-then-not-is_digit c =
    let i = c.loop-b.invariant in
    sym (i.same ∙ number_stop c.args.text.now c.loop-b.b-index c.loop-b.value i.small c.loop-b-test.true (sym c.is_digit.ensures ∙ c.if-not-is_digit.true))

pub returns-after-loop-b : goal.returns-after-loop-b
returns-after-loop-b c = let i = c.loop-b.invariant in sym (i.same ∙ number_end c.args.text.now c.loop-b.b-index c.loop-b.value i.small c.loop-b-test.false)
