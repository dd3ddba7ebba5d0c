-- A field that stands for no kind leaves the row as it was. One that stands for a kind is the row's first, and measuring goes on from it,
-- or stops there.
use Rattle.std.proofs.Common.{◌∙◌, arith}
use Rattle.protocol.proofs.LayoutRows.{kind_first, passed, row_ends}
use Rattle.slot_writing.proofs.Rows.{all_measured, all_stops, capped_min, measure_refused, measures_next, stops_here, stops_next}
use Rattle.slot_writing.proofs.writing.measure_fields.Goals as goal

pub loop-field-preserved-in_default : goal.loop-field-preserved-in_default
loop-field-preserved-in_default g c =
    rw (passed g.F.LayoutField.stands_for c.args.fields.now c.loop-field.field-index c.field-item.result c.field-item.is c.loop-field-test.true c.in_default.ensures) c.loop-field.invariant

pub returns-in-Err-clause-value : goal.returns-in-Err-clause-value
returns-in-Err-clause-value g c =
    let e = kind_first g.F.LayoutField.stands_for c.args.fields.now c.loop-field.field-index c.field-item.result c.field-item.is c.loop-field-test.true _ c.in-Some.ensures in
    stops_here _ c.args.src.now c.loop-field.rest.now _ _ e c.loop-field.size _ c.in-Err.ensures ∙ c.loop-field.invariant.stops

pub returns-in-Err-clause-length : goal.returns-in-Err-clause-length
returns-in-Err-clause-length g c =
    let e = kind_first g.F.LayoutField.stands_for c.args.fields.now c.loop-field.field-index c.field-item.result c.field-item.is c.loop-field-test.true _ c.in-Some.ensures in
    measure_refused _ c.args.src.now c.loop-field.rest.now _ _ e c.loop-field.size _ c.in-Err.ensures ∙ c.loop-field.invariant.length

pub loop-field-preserved : goal.loop-field-preserved
loop-field-preserved g c =
    let e = kind_first g.F.LayoutField.stands_for c.args.fields.now c.loop-field.field-index c.field-item.result c.field-item.is c.loop-field-test.true _ c.in-Some.ensures in
    let next = c.saturating_add-size.ensures ∙ capped_min _ in
    record {
      short = omega (arith, c.saturating_add-size.type_inv);
      length = rw c.slots_behind-rest.ensures (measures_next _ c.args.src.now c.loop-field.rest.now _ _ e c.loop-field.size _ _ c.in-Ok.ensures next ∙ c.loop-field.invariant.length);
      stops = rw c.slots_behind-rest.ensures (stops_next _ c.args.src.now c.loop-field.rest.now _ _ e c.loop-field.size _ _ c.in-Ok.ensures next ∙ c.loop-field.invariant.stops);
    }

pub returns-clause-value : goal.returns-clause-value
returns-clause-value g c =
    let e = row_ends g.F.LayoutField.stands_for c.args.fields.now c.loop-field.field-index (omega arith) in
    all_stops _ c.args.src.now c.loop-field.rest.now e c.loop-field.size ∙ c.loop-field.invariant.stops

pub returns-clause-length : goal.returns-clause-length
returns-clause-length g c =
    let e = row_ends g.F.LayoutField.stands_for c.args.fields.now c.loop-field.field-index (omega arith) in
    all_measured _ c.args.src.now c.loop-field.rest.now e c.loop-field.size c.loop-field.invariant.short ∙ c.loop-field.invariant.length
