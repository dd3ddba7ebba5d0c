-- By whether a field is read.
use Rattle.std.proofs.Common.{◌∙◌, ◌<◌, length, arith}
use Rattle.std.proofs.lemmas.Result.{err_from_is_err_and}
use Rattle.elements.proofs.Rows.{row_ended, row_refused, row_turns}
use Rattle.elements.proofs.element.row_end.Goals as goal

pub returns-in_err-at : goal.returns-in_err-at
returns-in_err-at c =
    let fields = c.args.fields.now in
    let l : c.loop-field.field-index < length fields = omega arith in
    let p = err_from_is_err_and c.from_residual.result c.from_residual.ensures.1 in
    rw (p.1, p.2) (row_refused fields c.args.s.now _ c.loop-field.field-index c.loop-field.at l c.in_err-at.field-0.0 c.in_err-at.ensures ∙ c.loop-field.invariant)

pub loop-field-preserved : goal.loop-field-preserved
loop-field-preserved c =
    let fields = c.args.fields.now in
    let l : c.loop-field.field-index < length fields = omega arith in
    row_turns fields c.args.s.now _ c.loop-field.field-index c.loop-field.at l c.in_ok-at.at c.in_ok-at.ensures ∙ c.loop-field.invariant

pub returns : goal.returns
returns c = row_ended c.args.fields.now c.args.s.now c.loop-field.field-index c.loop-field.at (omega arith) ∙ c.loop-field.invariant
