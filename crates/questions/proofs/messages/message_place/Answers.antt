-- By each check, and then by the data.
use Rattle.std.proofs.Common.{◌∙◌, sym, arith}
use Rattle.rules.proofs.Parts.{length_part}
use Rattle.byte_strings.proofs.Parts.{ends_inside, lent}
use Rattle.questions.proofs.Answers.{message_beyond, message_closed, message_outside, message_there}
use Rattle.questions.proofs.messages.message_place.Goals as goal

pub returns-then-is_outside : goal.returns-then-is_outside
returns-then-is_outside c n = message_outside _ _ _ _ _ (sym c.is_outside.ensures ∙ c.if-is_outside.true)

pub returns-then-not-has_entries : goal.returns-then-not-has_entries
returns-then-not-has_entries c n = message_closed _ _ _ _ _ (sym c.is_outside.ensures ∙ c.if-is_outside.false) (sym (c.has_entries.ensures n) ∙ c.if-not-has_entries.true)

pub returns-then-entries-index : goal.returns-then-entries-index
returns-then-entries-index c n = message_beyond _ _ _ _ _ (sym c.is_outside.ensures ∙ c.if-is_outside.false) (sym (c.has_entries.ensures n) ∙ c.if-not-has_entries.false) c.if-entries-index.true

pub overflow_add-end : goal.overflow_add-end
overflow_add-end c = omega (arith, ends_inside c.args.s.now c.args.«data» _ c.is_outside.ensures c.if-is_outside.false)

pub slice_bounds-nth_message-end : goal.slice_bounds-nth_message-end
slice_bounds-nth_message-end c = omega (arith, ends_inside c.args.s.now c.args.«data» _ c.is_outside.ensures c.if-is_outside.false)

pub nth_message-requires : goal.nth_message-requires
nth_message-requires c =
    let a = c.args in
    let within = ends_inside a.s.now a.«data» _ c.is_outside.ensures c.if-is_outside.false in
    rw (lent a.s.now a.«data».at a.«data».len, length_part a.«data».len a.«data».at a.s.now within) (omega (arith, within))

pub returns : goal.returns
returns c n =
    let a = c.args in
    message_there _ _ _ _ _ (sym c.is_outside.ensures ∙ c.if-is_outside.false) (sym (c.has_entries.ensures n) ∙ c.if-not-has_entries.false) _ c.if-entries-index.false (rw (lent a.s.now a.«data».at a.«data».len) at c.nth_message.ensures)
