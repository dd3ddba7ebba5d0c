-- By whether there is a space.
use Rattle.test_ledgers.proofs.Spaces.{a_space, no_space}
use Rattle.test_ledgers.proofs.script.after_space.Goals as goal

pub returns-then-at-text : goal.returns-then-at-text
returns-then-at-text c = a_space _ c.find-at.result c.find-at.ensures.value c.if-at-text.true

pub returns : goal.returns
returns c = no_space _ c.find-at.result c.find-at.ensures.value c.if-at-text.false
