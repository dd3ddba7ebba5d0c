-- Each field fills its slots, and what is left of the row fills those behind them.
use Rattle.std.proofs.Common.{◌≡◌, refl, ◌∙◌, ap, length, arith, rules}
use Rattle.std.proofs.lemmas.Result.{err_from_is_err_and}
use Rattle.protocol.proofs.LayoutRows.{kind_first, passed, row_ends}
use Rattle.slot_reading.proofs.RowSlots.{field_length, none_fills, none_stops, one_fills, one_refused, one_stops, refused_filled}
use Rattle.slot_reading.proofs.filling.Filling.read.Goals as goal

pub read_field-requires : goal.read_field-requires
read_field-requires g c = (search rules, rw c.loop-field.invariant.base c.requires)

pub loop-field-init : goal.loop-field-init
loop-field-init g c = record { base = refl; long = search rules; stops = refl; fills = λ new f. f }

pub loop-field-preserved-in_default : goal.loop-field-preserved-in_default
loop-field-preserved-in_default g c =
    rw (passed g.F.LayoutField.stands_for c.args.fields.now c.loop-field.field-index c.field-item.result c.field-item.is c.loop-field-test.true c.in_default.ensures) c.loop-field.invariant

pub returns-in_err-at-clause-value : goal.returns-in_err-at-clause-value
returns-in_err-at-clause-value g c =
    let e = kind_first g.F.LayoutField.stands_for c.args.fields.now c.loop-field.field-index c.field-item.result c.field-item.is c.loop-field-test.true _ c.in-Some.ensures in
    let p = err_from_is_err_and c.from_residual.result c.from_residual.ensures.1 in
    rw (p.1, p.2) (one_refused c.args.self.now.base c.args.s.now _ c.loop-field.at _ _ e _ c.in_err-at.ensures.value ∙ c.loop-field.invariant.stops)

pub returns-in_err-at-clause-filled : goal.returns-in_err-at-clause-filled
returns-in_err-at-clause-filled g c =
    let e = kind_first g.F.LayoutField.stands_for c.args.fields.now c.loop-field.field-index c.field-item.result c.field-item.is c.loop-field-test.true _ c.in-Some.ensures in
    refused_filled _ _ _ _ _ _ _ _ (one_refused c.args.self.now.base c.args.s.now _ c.loop-field.at _ _ e _ c.in_err-at.ensures.value ∙ c.loop-field.invariant.stops)

pub loop-field-preserved : goal.loop-field-preserved
loop-field-preserved g c =
    let v = c.loop-field.invariant in
    let a = c.args in
    let e = kind_first g.F.LayoutField.stands_for a.fields.now c.loop-field.field-index c.field-item.result c.field-item.is c.loop-field-test.true _ c.in-Some.ensures in
    let put = rw v.base at c.read_field.ensures.slots_after in
    let next = rw c.read_field.ensures.kept.0 at c.saturating_add-self.ensures in
    let long : length c.read_field.new.self.slots ≡ g.row.N = ap length put ∙ field_length a.self.now.base _ _ c.loop-field.self.slots c.loop-field.self.next ∙ v.long in
    record {
      base = c.read_field.ensures.kept.1 ∙ v.base;
      long = long;
      stops = one_stops a.self.now.base a.s.now _ c.loop-field.at _ _ e _ c.in_ok-at.ensures.value ∙ v.stops;
      fills = λ new f. v.fills new (one_fills a.self.now.base a.s.now _ c.loop-field.at _ _ e _ c.in_ok-at.ensures.value _ _ _ _ _ put c.slots_of.ensures.value next (omega (arith, long, g.N.fits)) new f);
    }

pub returns-clause-value : goal.returns-clause-value
returns-clause-value g c =
    none_stops c.args.self.now.base c.args.s.now _ c.loop-field.at (row_ends g.F.LayoutField.stands_for c.args.fields.now c.loop-field.field-index (omega arith)) ∙ c.loop-field.invariant.stops

pub returns-clause-filled : goal.returns-clause-filled
returns-clause-filled g c =
    c.loop-field.invariant.fills _ (none_fills c.args.self.now.base c.args.s.now _ c.loop-field.at (row_ends g.F.LayoutField.stands_for c.args.fields.now c.loop-field.field-index (omega arith)) _ _)
