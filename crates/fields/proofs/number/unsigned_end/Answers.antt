-- By the number that is there. One that is not is 0, and never above the largest.
use Rattle.fields.proofs.NumberEnds.{not_admitted_lem, admitted}
use Rattle.fields.proofs.number.unsigned_end.Goals as goal

pub returns-then-most-number_or_zero : goal.returns-then-most-number_or_zero
returns-then-most-number_or_zero c = rw (not_admitted_lem _ _ _ _ _ c.number_or_zero.ensures c.if-most-number_or_zero.true)

pub returns : goal.returns
returns c = admitted _ _ _ _ _ c.number_or_zero.ensures c.if-most-number_or_zero.false _ c.number_end.ensures
