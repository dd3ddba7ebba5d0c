-- A byte more, and one that is not ASCII.
use Rattle.std.proofs.Common.{refl}
use Rattle.utf8_text.specs.Utf8.{ascii}
use Rattle.utf8_text.proofs.Ascii.{turn, broken, is_ascii, is_not}
use Rattle.utf8_text.proofs.utf8.bytes_ascii.Goals as goal

pub loop-b-init : goal.loop-b-init
unfolding ascii
loop-b-init c = refl

pub returns-then-b-gt127 : goal.returns-then-b-gt127
returns-then-b-gt127 c =
    broken c.args.s.now c.loop-b.b-index c.loop-b.invariant 1 (is_not _ _ c.loop-b-test.true c.if-b-gt127.true)

pub loop-b-preserved : goal.loop-b-preserved
loop-b-preserved c =
    turn c.args.s.now c.loop-b.b-index c.loop-b.invariant 1 (is_ascii _ _ c.loop-b-test.true c.if-b-gt127.false)
