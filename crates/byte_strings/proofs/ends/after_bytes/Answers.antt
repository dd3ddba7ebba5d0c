-- By whether the length is there, and by the one comparison.
use borrow.Author.Tests.{leb-true, leb-false}
use Rattle.std.proofs.Common.{◌∙◌, sym}
use Rattle.protocol.specs.declared.kind.Form.TheVariants.{Bytes}
use Rattle.byte_strings.proofs.PlainEnds.{string_no_length, bytes_over, bytes_end}
use Rattle.byte_strings.proofs.ends.after_bytes.Goals as goal

pub returns-then-not-has_room : goal.returns-then-not-has_room
returns-then-not-has_room c = string_no_length Bytes _ _ (leb-false _ _ (sym c.has_room.ensures ∙ c.if-not-has_room.true))

pub returns-then-min-n : goal.returns-then-min-n
returns-then-min-n c = bytes_over _ _ (leb-true _ _ (sym c.has_room.ensures ∙ c.if-not-has_room.false)) _ c.number_or_zero-n.ensures _ c.min.ensures c.if-min-n.true

pub returns : goal.returns
returns c = bytes_end _ _ (leb-true _ _ (sym c.has_room.ensures ∙ c.if-not-has_room.false)) _ c.number_or_zero-n.ensures _ c.min.ensures c.if-min-n.false
