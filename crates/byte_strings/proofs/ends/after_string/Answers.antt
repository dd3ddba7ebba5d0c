-- By whether the length is there, and whether its bytes are a byte string.
use borrow.Author.Tests.{leb-true, leb-false}
use Rattle.std.proofs.Common.{◌≡◌, ◌∙◌, sym, ◌+◌, ◌≤◌, length, arith}
use Rattle.protocol.specs.Kinds.{length_width}
use Rattle.byte_strings.proofs.PlainEnds.{string_no_length, string_none, string_end}
use Rattle.byte_strings.proofs.StringFields.{passes}
use Rattle.byte_strings.proofs.ends.after_string.Goals as goal

pub returns-then-not-has_room : goal.returns-then-not-has_room
returns-then-not-has_room c =
    let wide : c.bytes-n.result ≡ length_width c.args.form = c.bytes-n.ensures ∙ c.length_width-width.ensures in
    string_no_length _ _ _ (rw (← wide) (leb-false _ _ (sym c.has_room.ensures ∙ c.if-not-has_room.true)))

pub returns-then-not-is_string : goal.returns-then-not-is_string
returns-then-not-is_string c =
    let wide : c.bytes-n.result ≡ length_width c.args.form = c.bytes-n.ensures ∙ c.length_width-width.ensures in
    let there : c.args.at + length_width c.args.form ≤ length c.args.s.now = rw (← wide) (leb-true _ _ (sym c.has_room.ensures ∙ c.if-not-has_room.false)) in
    string_none _ _ _ there _ (rw c.length_width-width.ensures at c.number_or_zero-len.ensures) _ (rw wide at c.is_string.ensures) c.if-not-is_string.true

pub overflow_add-result : goal.overflow_add-result
overflow_add-result c = omega (arith, (passes _ _ _ _ _ c.is_string.ensures c.if-not-is_string.false).inside)

pub returns : goal.returns
returns c =
    let wide : c.bytes-n.result ≡ length_width c.args.form = c.bytes-n.ensures ∙ c.length_width-width.ensures in
    let there : c.args.at + length_width c.args.form ≤ length c.args.s.now = rw (← wide) (leb-true _ _ (sym c.has_room.ensures ∙ c.if-not-has_room.false)) in
    rw wide (string_end _ _ _ there _ (rw c.length_width-width.ensures at c.number_or_zero-len.ensures) _ (rw wide at c.is_string.ensures) c.if-not-is_string.false)
