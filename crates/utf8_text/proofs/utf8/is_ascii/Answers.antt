-- A word more, a word that is not ASCII, and the last eight bytes, which tell the rest.
use Rattle.std.proofs.Common.{◌-◌, ◌∙◌, refl, sym, length, arith}
use Rattle.utf8_text.specs.Utf8.{ascii}
use Rattle.utf8_text.proofs.Ascii.{turn, broken, ended}
use Rattle.utf8_text.proofs.utf8.is_ascii.Goals as goal

pub loop-i-init : goal.loop-i-init
unfolding ascii
loop-i-init c = refl

pub returns-then-not-word_ascii : goal.returns-then-not-word_ascii
returns-then-not-word_ascii c = broken c.args.s.now c.loop-i.i c.loop-i.invariant 8 (cc)

pub loop-i-preserved : goal.loop-i-preserved
loop-i-preserved c = turn c.args.s.now c.loop-i.i c.loop-i.invariant 8 (cc)

-- The eight bytes that were tested must be the last ones.
pub returns-then-word_ascii : goal.returns-then-word_ascii
returns-then-word_ascii c =
    let s = c.args.s.now in
    sym c.if-word_ascii.true
    ∙ c.word_ascii-2.ensures
    ∙ ended s c.loop-i.i 8 (length s - 8) c.loop-i.invariant (omega arith) (omega arith)

pub returns : goal.returns
returns c =
    let s = c.args.s.now in
    sym c.if-word_ascii.false
    ∙ c.word_ascii-2.ensures
    ∙ ended s c.loop-i.i 8 (length s - 8) c.loop-i.invariant (omega arith) (omega arith)
