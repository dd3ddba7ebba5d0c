-- A length or a place that is refused makes it no byte string, and after them the text tells.
use lib.Dec.{eqb}
use borrow.Author.Tests.{leb-true, leb-false, ne_eqb}
use Rattle.std.proofs.Common.{◌≡◌, ◌∙◌, sym, ap, ℕ, Bool, true, false, cond}
use Rattle.protocol.proofs.Refused.{ok_number, err_number}
use Rattle.protocol.specs.Refusals.{not_utf8}
use Rattle.byte_strings.proofs.StringFields.{length_refused, place_refused, text_told}
use Rattle.byte_strings.proofs.string.is_string.Goals as goal
use Rattle.byte_strings.proofs.string.is_string.Goals.{then-is_ok, else-is_ok}

told : (t : Bool) (n : ℕ) → cond t 0 not_utf8 ≡ n → t ≡ eqb n 0
told true n i = ap (λ (x : ℕ). eqb x 0) i
told false n i = ap (λ (x : ℕ). eqb x 0) i

pub returns-then-has_room : goal.returns-then-has_room
returns-then-has_room c =
    let a = c.args in
    elim c.if-is_ok.branch [
      | then-is_ok w ↦ told _ _ (text_told a.form a.s.now a.at a.len _ c.check_length.ensures (ok_number _ (sym c.is_ok.ensures.value ∙ w.if-is_ok.true)) (leb-true _ _ (sym w.has_room.ensures ∙ sym w.value-is ∙ c.if-has_room.true)) _ c.is_text.ensures)
      | else-is_ok w ↦ cc
    ]

pub returns-else-has_room : goal.returns-else-has_room
returns-else-has_room c =
    let a = c.args in
    elim c.if-is_ok.branch [
      | then-is_ok w ↦ c.if-has_room.false ∙ ap (λ (x : ℕ). eqb x 0) (place_refused a.form a.s.now a.at a.len _ c.check_length.ensures (ok_number _ (sym c.is_ok.ensures.value ∙ w.if-is_ok.true)) (leb-false _ _ (sym w.has_room.ensures ∙ sym w.value-is ∙ c.if-has_room.false)))
      | else-is_ok w ↦
          let n = err_number _ (sym c.is_ok.ensures.value ∙ w.if-is_ok.false) in
          let refused = length_refused a.form a.s.now a.at a.len _ c.check_length.ensures n in
          c.if-has_room.false ∙ sym (ne_eqb _ 0 (λ z. n (refused ∙ z)))
    ]
