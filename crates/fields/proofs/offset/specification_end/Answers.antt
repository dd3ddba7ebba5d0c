-- By the type.
use borrow.Author.Tests.{leb-true, leb-false}
use Rattle.std.proofs.Common.{◌∙◌, sym, refl, arith}
use Rattle.fields.proofs.Specifications.{type_cut, none_refused, without_number, with_number, type_unknown}
use Rattle.fields.proofs.offset.specification_end.Goals as goal

pub returns-then-not-has_room : goal.returns-then-not-has_room
returns-then-not-has_room c =
    let a = c.args in
    rw (type_cut a.admits_none a.s.now a.at (leb-false _ _ (sym c.has_room.ensures ∙ c.if-not-has_room.true))) refl

pub returns-in-0 : goal.returns-in-0
returns-in-0 c =
    let a = c.args in
    let there = leb-true _ _ (sym c.has_room.ensures ∙ c.if-not-has_room.false) in
    rw (without_number a.admits_none a.s.now a.at there _ c.number_or_zero.ensures (λ _. c.if-admits_none.true) (omega (arith, c.in-0.is))).1 refl

pub returns-in-1-to-3 : goal.returns-in-1-to-3
returns-in-1-to-3 c =
    let a = c.args in
    let there = leb-true _ _ (sym c.has_room.ensures ∙ c.if-not-has_room.false) in
    rw (without_number a.admits_none a.s.now a.at there _ c.number_or_zero.ensures (λ e. absurd (omega (arith, e))) (omega arith)).1 refl

pub returns-in-4 : goal.returns-in-4
returns-in-4 c =
    let a = c.args in
    let there = leb-true _ _ (sym c.has_room.ensures ∙ c.if-not-has_room.false) in
    c.number_end.ensures ∙ with_number a.admits_none a.s.now a.at there _ c.number_or_zero.ensures (omega arith) (omega arith)

pub returns-in_default : goal.returns-in_default
returns-in_default c =
    let a = c.args in
    let there = leb-true _ _ (sym c.has_room.ensures ∙ c.if-not-has_room.false) in
    rw (none_refused a.admits_none a.s.now a.at there _ c.number_or_zero.ensures c.in-0.is c.if-admits_none.false) refl

pub returns-in_default-2 : goal.returns-in_default-2
returns-in_default-2 c =
    let a = c.args in
    let there = leb-true _ _ (sym c.has_room.ensures ∙ c.if-not-has_room.false) in
    rw (type_unknown a.admits_none a.s.now a.at there _ c.number_or_zero.ensures (omega arith)) refl
