-- By whether an element is read.
use Rattle.std.proofs.Common.{◌≡◌, ◌∙◌, ◌+◌, ◌-◌, arith}
use Rattle.std.proofs.lemmas.Result.{err_from_is_err_and}
use Rattle.protocol.specs.Layouts.{row_from}
use Rattle.rules.specs.Reading.{read_row}
use Rattle.byte_strings.proofs.Stops.{none_left}
use Rattle.elements.proofs.Walks.{after_read, at_refused}
use Rattle.elements.proofs.element.walked_end.Goals as goal

pub returns-in_err-at : goal.returns-in_err-at
returns-in_err-at c =
    let row = row_from c.element_fields-fields.result.now in
    let p = err_from_is_err_and c.from_residual.result c.from_residual.ensures.1 in
    rw (p.1, p.2, ← c.element_fields-fields.ensures.row) (at_refused row c.args.s.now (c.args.count - c.loop.counter) c.loop.at (λ e. omega (arith, e)) c.in_err-at.field-0.0 c.in_err-at.ensures ∙ c.loop.invariant)

pub loop-preserved : goal.loop-preserved
loop-preserved c =
    let row = row_from c.element_fields-fields.result.now in
    let one_less : c.args.count - (c.loop.counter + 1) ≡ c.args.count - c.loop.counter - 1 = omega arith in
    rw one_less (after_read row c.args.s.now (c.args.count - c.loop.counter) c.loop.at (λ e. omega (arith, e)) c.in_ok-at.at c.in_ok-at.ensures ∙ c.loop.invariant)

pub returns : goal.returns
returns c =
    let row = row_from c.element_fields-fields.result.now in
    rw (← c.element_fields-fields.ensures.row) (none_left (read_row row) c.args.s.now (c.args.count - c.loop.counter) c.loop.at (omega arith) ∙ c.loop.invariant)
