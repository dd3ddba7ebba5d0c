-- A field that stands for no kind leaves the row as it was. One that stands for a kind is the row's first, and the rest is put behind it.
use Rattle.std.proofs.Common.{◌∙◌, sym, arith}
use Rattle.protocol.proofs.LayoutRows.{kind_first, passed, row_ends}
use Rattle.slot_writing.proofs.Rows.{all_put, puts_next}
use Rattle.slot_writing.proofs.writing.put_fields.Goals as goal

pub loop-field-preserved-in_default : goal.loop-field-preserved-in_default
loop-field-preserved-in_default g c =
    rw (passed g.F.LayoutField.stands_for c.args.fields.now c.loop-field.field-index c.field-item.result c.field-item.is c.loop-field-test.true c.in_default.ensures) c.loop-field.invariant

pub loop-field-preserved : goal.loop-field-preserved
loop-field-preserved g c =
    let e = kind_first g.F.LayoutField.stands_for c.args.fields.now c.loop-field.field-index c.field-item.result c.field-item.is c.loop-field-test.true _ c.in-Some.ensures in
    rw c.slots_behind-rest.ensures (puts_next _ c.args.src.now c.loop-field.rest.now _ _ e _ _ c.put_field-at.ensures ∙ c.loop-field.invariant)

pub returns : goal.returns
returns g c =
    let e = row_ends g.F.LayoutField.stands_for c.args.fields.now c.loop-field.field-index (omega arith) in
    sym (all_put _ c.args.src.now c.loop-field.rest.now e _) ∙ c.loop-field.invariant
