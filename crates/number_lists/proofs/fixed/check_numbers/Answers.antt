-- By the count and the place, and then by the answer of `fixed_end` on the part there.
use Rattle.std.proofs.Common.{◌≡◌, refl, length, arith}
use Rattle.std.proofs.lemmas.Result.{err_from_is_err_and}
use Rattle.wire.specs.Integers.{Bytes}
use Rattle.protocol.proofs.Refused.{some_number}
use Rattle.protocol.specs.Fields.{bytes_at}
use Rattle.protocol.specs.Kinds.{plain}
use Rattle.protocol.specs.Refusals.{field_cut}
use Rattle.rules.proofs.Parts.{bytes_part, length_part}
use Rattle.byte_strings.specs.Stops.{stop_at}
use Rattle.number_lists.proofs.FixedWidth.{number_row, numbers_end, numbers_cut}
use Rattle.number_lists.proofs.Lists.{before_refused, before_passed, elements_refused, elements_used}
use Rattle.number_lists.proofs.fixed.check_numbers.Goals as goal

pub returns-in_err-check_place : goal.returns-in_err-check_place
returns-in_err-check_place c =
    let p = err_from_is_err_and c.from_residual.result c.from_residual.ensures.1 in
    rw (p.1, p.2) (before_refused plain _ _ _ _ _ c.in_err-check_place.ensures (some_number _))

pub returns-in-Ok : goal.returns-in-Ok
unfolding Bytes
returns-in-Ok c =
    let a = c.args in
    let l = a.list in
    let b = bytes_at a.src.now l.place in
    let row = number_row a.width in
    let inside = (before_passed plain row a.src.now l.count l.place 0 c.in_ok-check_place.ensures refl).0 in
    let size : length b ≡ l.place.len = length_part l.place.len l.place.at a.src.now inside in
    elements_used plain row a.src.now l.count l.place 0 c.in_ok-check_place.ensures refl (stop_at c.in-Ok.last 0)
    (numbers_end b (bytes_part l.place.len l.place.at a.src.now (λ i. omega (arith, c.type_inv.src i))) a.width 0 l.count _ (rw (size, ← c.bytes.ensures) c.in-Ok.ensures))
    _ refl c.check_left.ensures

pub returns-in-Err : goal.returns-in-Err
unfolding Bytes
returns-in-Err c =
    let a = c.args in
    let l = a.list in
    let b = bytes_at a.src.now l.place in
    let row = number_row a.width in
    let inside = (before_passed plain row a.src.now l.count l.place 0 c.in_ok-check_place.ensures refl).0 in
    let size : length b ≡ l.place.len = length_part l.place.len l.place.at a.src.now inside in
    elements_refused plain row a.src.now l.count l.place 0 c.in_ok-check_place.ensures refl (stop_at c.in-Err.field-0 field_cut)
    (numbers_cut b (bytes_part l.place.len l.place.at a.src.now (λ i. omega (arith, c.type_inv.src i))) a.width 0 l.count _ (rw (size, ← c.bytes.ensures) c.in-Err.ensures))
    (λ z. omega (arith, z))
