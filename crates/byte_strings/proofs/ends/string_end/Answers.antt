-- By whether the length is there, whether it says null, and the check that refuses the rest.
use borrow.Author.Tests.{leb-true, leb-false}
use Rattle.std.proofs.Common.{◌≡◌, ◌∙◌, sym, ◌+◌, ◌-◌, ◌^◌, ◌≤◌, true, false, ◌&&◌, eqb, length, arith, refl}
use Rattle.wire.specs.Integers.{Bytes, number_or_zero}
use Rattle.protocol.proofs.Refused.{some_number}
use Rattle.protocol.specs.Kinds.{length_width}
use Rattle.byte_strings.proofs.StringFields.{admitted, length_cut, string_null, string_refused, string_found}
use Rattle.byte_strings.proofs.ends.string_end.Goals as goal
use Rattle.byte_strings.proofs.ends.string_end.Goals.{else-nullable-via-then-nullable+else-is_null, else-nullable-via-else-nullable}

pub returns-then-not-has_room : goal.returns-then-not-has_room
returns-then-not-has_room c =
    let a = c.args in
    let wide : c.bytes-n.result ≡ length_width a.form = c.bytes-n.ensures ∙ c.length_width-width.ensures in
    rw (length_cut a.form a.nullable a.s.now a.at (rw (← wide) (leb-false _ _ (sym c.has_room.ensures ∙ c.if-not-has_room.true))))

pub returns-then-is_null : goal.returns-then-is_null
returns-then-is_null c =
    let a = c.args in
    let wide : c.bytes-n.result ≡ length_width a.form = c.bytes-n.ensures ∙ c.length_width-width.ensures in
    let there : a.at + length_width a.form ≤ length a.s.now = rw (← wide) (leb-true _ _ (sym c.has_room.ensures ∙ c.if-not-has_room.false)) in
    let null : (a.nullable && eqb (number_or_zero (length_width a.form) a.s.now a.at) (256 ^ length_width a.form - 1)) ≡ true = rw c.if-nullable.true (sym c.if-is_null.ensures) in
    rw (wide, string_null a.form a.s.now a.at there _ refl a.nullable null)

pub returns-in-Err : goal.returns-in-Err
unfolding Bytes
returns-in-Err c =
    let a = c.args in
    let wide : c.bytes-n.result ≡ length_width a.form = c.bytes-n.ensures ∙ c.length_width-width.ensures in
    let there : a.at + length_width a.form ≤ length a.s.now = rw (← wide) (leb-true _ _ (sym c.has_room.ensures ∙ c.if-not-has_room.false)) in
    let is_length : c.number_or_zero-len.result ≡ number_or_zero (length_width a.form) a.s.now a.at = rw c.length_width-width.ensures at c.number_or_zero-len.ensures in
    let not_null : (a.nullable && eqb c.number_or_zero-len.result (256 ^ length_width a.form - 1)) ≡ false =
    elim c.else-nullable.branch [
      | else-nullable-via-then-nullable+else-is_null w ↦ rw (w.if-nullable.true, is_length) (sym w.is_null.ensures ∙ w.if-is_null.false)
      | else-nullable-via-else-nullable w ↦ rw w.if-nullable.false refl
    ] in
    rw (string_refused a.form a.s.now a.at there _ is_length a.nullable (λ k. omega (arith, c.type_inv.s k)) not_null _ (rw wide at c.in-Err.ensures) (some_number _))

pub overflow_add-result : goal.overflow_add-result
overflow_add-result c = omega (arith, (admitted _ _ _ _ (sym c.in-Ok.ensures)).inside)

pub returns-in-Ok : goal.returns-in-Ok
unfolding Bytes
returns-in-Ok c =
    let a = c.args in
    let wide : c.bytes-n.result ≡ length_width a.form = c.bytes-n.ensures ∙ c.length_width-width.ensures in
    let there : a.at + length_width a.form ≤ length a.s.now = rw (← wide) (leb-true _ _ (sym c.has_room.ensures ∙ c.if-not-has_room.false)) in
    let is_length : c.number_or_zero-len.result ≡ number_or_zero (length_width a.form) a.s.now a.at = rw c.length_width-width.ensures at c.number_or_zero-len.ensures in
    let not_null : (a.nullable && eqb c.number_or_zero-len.result (256 ^ length_width a.form - 1)) ≡ false =
    elim c.else-nullable.branch [
      | else-nullable-via-then-nullable+else-is_null w ↦ rw (w.if-nullable.true, is_length) (sym w.is_null.ensures ∙ w.if-is_null.false)
      | else-nullable-via-else-nullable w ↦ rw w.if-nullable.false refl
    ] in
    rw (wide, string_found a.form a.s.now a.at there _ is_length a.nullable (λ k. omega (arith, c.type_inv.s k)) not_null 0 (rw wide at c.in-Ok.ensures) refl)
