-- By where the fields end.
use Rattle.std.proofs.lemmas.Result.{err_from_is_err_and}
use Rattle.slots.specs.Flat.{padded}
use Rattle.slot_reading.proofs.RowSlots.{content_refused, content_left, content_read}
use Rattle.slot_reading.proofs.reading.read_content.Goals as goal

pub returns-in_err-end-clause-value : goal.returns-in_err-end-clause-value
returns-in_err-end-clause-value g c =
    let p = err_from_is_err_and c.from_residual.result c.from_residual.ensures.1 in
    rw (p.1, p.2) (content_refused c.args.key c.args.version _ _ c.args.slots.now _ c.in_err-end.ensures.value).0

pub returns-in_err-end-clause-slots_after : goal.returns-in_err-end-clause-slots_after
returns-in_err-end-clause-slots_after g c = (content_refused c.args.key c.args.version _ _ _ _ c.in_err-end.ensures.value).1

pub returns-then-end-s-clause-value : goal.returns-then-end-s-clause-value
returns-then-end-s-clause-value g c = (content_left c.args.key c.args.version _ _ _ c.in_ok-end.ensures.value c.args.slots.now c.if-end-s.true).0

pub returns-then-end-s-clause-slots_after : goal.returns-then-end-s-clause-slots_after
returns-then-end-s-clause-slots_after g c = (content_left c.args.key c.args.version _ _ _ c.in_ok-end.ensures.value _ c.if-end-s.true).1

pub returns-clause-value : goal.returns-clause-value
unfolding padded
returns-clause-value g c = (content_read c.args.key c.args.version _ _ _ c.in_ok-end.ensures.value c.args.slots.now _ c.if-end-s.false c.read.ensures.filled).0

pub returns-clause-slots_after : goal.returns-clause-slots_after
unfolding padded
returns-clause-slots_after g c = (content_read c.args.key c.args.version _ _ _ c.in_ok-end.ensures.value _ _ c.if-end-s.false c.read.ensures.filled).1
