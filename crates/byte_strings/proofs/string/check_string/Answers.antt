-- The length's refusal is the byte string's, then the place's, then the text's.
use borrow.Author.Tests.{leb-true, leb-false}
use Rattle.std.proofs.Common.{◌∙◌, sym, refl, true, false}
use Rattle.std.proofs.lemmas.Result.{err_from_is_err_and}
use Rattle.protocol.proofs.Refused.{some_number}
use Rattle.byte_strings.proofs.StringFields.{length_refused, place_refused, text_told}
use Rattle.byte_strings.proofs.string.check_string.Goals as goal

pub returns-in_err-check_length : goal.returns-in_err-check_length
returns-in_err-check_length c =
    let a = c.args in
    let p = err_from_is_err_and c.from_residual.result c.from_residual.ensures.1 in
    rw (p.1, p.2) (length_refused a.form a.s.now a.at a.len _ c.in_err-check_length.ensures (some_number _))

pub returns-then-not-has_room : goal.returns-then-not-has_room
returns-then-not-has_room c =
    let a = c.args in
    place_refused a.form a.s.now a.at a.len 0 c.in_ok-check_length.ensures refl (leb-false _ _ (sym c.has_room.ensures ∙ c.if-not-has_room.true))

pub returns-then-not-is_text : goal.returns-then-not-is_text
returns-then-not-is_text c =
    let a = c.args in
    text_told a.form a.s.now a.at a.len 0 c.in_ok-check_length.ensures refl (leb-true _ _ (sym c.has_room.ensures ∙ c.if-not-has_room.false)) false (sym c.if-not-is_text.true ∙ c.is_text.ensures)

pub returns : goal.returns
returns c =
    let a = c.args in
    text_told a.form a.s.now a.at a.len 0 c.in_ok-check_length.ensures refl (leb-true _ _ (sym c.has_room.ensures ∙ c.if-not-has_room.false)) true (sym c.if-not-is_text.false ∙ c.is_text.ensures)
