-- A null by its length; other strings by the bytes after the length.
use Rattle.std.proofs.Common.{◌≡◌, ◌∙◌, sym, arith}
use borrow.Author.Tests.{eqb-true, eqb-false}
use Rattle.wire.specs.Integers.{Bytes}
use Rattle.protocol.specs.Kinds.{length_width, string}
use Rattle.rules.specs.Reading.{read_field}
use Rattle.slot_reading.proofs.FieldSlots.{body_slots, null_slots, slots_put, slots_stay, string_ends}
use Rattle.slot_reading.proofs.filling.Filling.read_string.Goals as goal

pub returns-in_err-end-clause-slots_after : goal.returns-in_err-end-clause-slots_after
unfolding read_field
returns-in_err-end-clause-slots_after g c =
    let a = c.args in
    slots_stay (string a.form a.nullable) a.s.now a.at a.self.now.base _ _ _ c.in_err-end.ensures

pub returns-then-is_null-clause-slots_after : goal.returns-then-is_null-clause-slots_after
unfolding read_field Bytes
returns-then-is_null-clause-slots_after g c =
    let a = c.args in
    let b : Bytes a.s.now = λ i. omega (arith, c.type_inv.s i) in
    let null = eqb-true _ _ (sym c.is_null.ensures ∙ c.if-is_null.true) in
    slots_put (string a.form a.nullable) a.s.now a.at _ c.in_ok-end.ensures a.self.now.base _ _ _ _ c.put.ensures.slots_after (null_slots a.s.now a.at a.self.now.base a.form a.nullable _ b null)

pub overflow_add-first : goal.overflow_add-first
unfolding read_field Bytes
overflow_add-first g c =
    let a = c.args in
    omega (arith, c.bytes.ensures, c.length_width.ensures, string_ends a.s.now a.at a.self.now.base a.form a.nullable _ c.in_ok-end.ensures (λ i. omega (arith, c.type_inv.s i)) (eqb-false _ _ (sym c.is_null.ensures ∙ c.if-is_null.false)))

pub overflow_add-self : goal.overflow_add-self
unfolding read_field Bytes
overflow_add-self g c =
    let a = c.args in
    omega (arith, c.bytes.ensures, c.length_width.ensures, string_ends a.s.now a.at a.self.now.base a.form a.nullable _ c.in_ok-end.ensures (λ i. omega (arith, c.type_inv.s i)) (eqb-false _ _ (sym c.is_null.ensures ∙ c.if-is_null.false)))

pub overflow_sub-end : goal.overflow_sub-end
unfolding read_field Bytes
overflow_sub-end g c =
    let a = c.args in
    omega (arith, c.bytes.ensures, c.length_width.ensures, string_ends a.s.now a.at a.self.now.base a.form a.nullable _ c.in_ok-end.ensures (λ i. omega (arith, c.type_inv.s i)) (eqb-false _ _ (sym c.is_null.ensures ∙ c.if-is_null.false)))

pub returns-clause-slots_after : goal.returns-clause-slots_after
unfolding read_field Bytes
returns-clause-slots_after g c =
    let a = c.args in
    let b : Bytes a.s.now = λ i. omega (arith, c.type_inv.s i) in
    let not_null = eqb-false _ _ (sym c.is_null.ensures ∙ c.if-is_null.false) in
    let width : c.bytes.result ≡ length_width a.form = c.bytes.ensures ∙ c.length_width.ensures in
    let put = rw width at c.put-2.ensures.slots_after in
    slots_put (string a.form a.nullable) a.s.now a.at _ c.in_ok-end.ensures a.self.now.base _ _ _ _ put (body_slots a.s.now a.at a.self.now.base a.form a.nullable _ c.requires b not_null)
