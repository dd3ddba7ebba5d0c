-- By whether the number is there.
use borrow.Author.Tests.{leb-true, leb-false}
use Rattle.std.proofs.Common.{◌+◌, ◌<◌, ◌≤◌, length, sym, ◌∙◌}
use Rattle.wire.specs.Integers.{width_of}
use Rattle.rules.proofs.Numbers.{number_there, number_cut}
use Rattle.fields.proofs.number.number_end.Goals as goal

pub returns-then-not-has_room : goal.returns-then-not-has_room
returns-then-not-has_room c =
    let a = c.args in
    let cut : length a.s.now < a.at + width_of a.width = rw (← c.bytes-n.ensures) (leb-false _ _ (sym c.has_room.ensures ∙ c.if-not-has_room.true)) in
    rw (number_cut _ _ _ cut)

pub returns : goal.returns
returns c =
    let a = c.args in
    let there : a.at + width_of a.width ≤ length a.s.now = rw (← c.bytes-n.ensures) (leb-true _ _ (sym c.has_room.ensures ∙ c.if-not-has_room.false)) in
    rw (number_there _ _ _ there, c.bytes-n.ensures)
