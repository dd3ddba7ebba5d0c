-- By what is there, and what reading says of it.
use Rattle.std.proofs.Common.{refl, ◌∙◌, sym, ap}
use borrow.Author.Tests.{eqb-true, eqb-false}
use Rattle.frame_head.proofs.Heads.{size_there}
use Rattle.frame_reading.proofs.Told.{short_told, refusal_told}
use Rattle.captures.specs.Answer.{told}
use Rattle.captures.proofs.Followings.{nothing_left, something_left, frame_left}
use Rattle.captures.proofs.walker.next_frame.Goals as goal

pub returns-then-ended : goal.returns-then-ended
returns-then-ended c =
    let n = nothing_left c.args.rest.now c.args.slots.now _ _ c.args.limit (eqb-true _ _ (sym c.is_empty.ensures ∙ c.if-is_empty.true)) c.if-ended.true in
    record { value = n.0; slots_after = n.1 }

pub returns-then-is_empty : goal.returns-then-is_empty
returns-then-is_empty c =
    let n = nothing_left c.args.rest.now c.args.slots.now _ _ c.args.limit (eqb-true _ _ (sym c.is_empty.ensures ∙ c.if-is_empty.true)) c.if-ended.false in
    record { value = n.0; slots_after = n.1 }

pub returns-then-ended-2-clause-value : goal.returns-then-ended-2-clause-value
returns-then-ended-2-clause-value c =
    let e = rw c.in-Err-Short.field-0-is at c.in-Err-Short.ensures.value in
    ap told (something_left _ _ _ (eqb-false _ _ (sym c.is_empty.ensures ∙ c.if-is_empty.false)) _ _ (short_told _ _ e) c.if-ended-2.true)

pub returns-in-Ok-clause-value : goal.returns-in-Ok-clause-value
returns-in-Ok-clause-value c =
    frame_left _ _ _ (eqb-false _ _ (sym c.is_empty.ensures ∙ c.if-is_empty.false)) _ c.in-Ok.ensures.value (λ l. size_there _ _ c.head_of-head.ensures l)

pub returns-else-ended-2-clause-value : goal.returns-else-ended-2-clause-value
returns-else-ended-2-clause-value c =
    let e = rw c.in-Err-Short.field-0-is at c.in-Err-Short.ensures.value in
    ap told (something_left _ _ _ (eqb-false _ _ (sym c.is_empty.ensures ∙ c.if-is_empty.false)) _ _ (short_told _ _ e) c.if-ended-2.false)

pub returns-in-Err-Refused-clause-value : goal.returns-in-Err-Refused-clause-value
returns-in-Err-Refused-clause-value c =
    let e = rw c.in-Err-Refused.field-0-is at c.in-Err-Refused.ensures.value in
    ap told (something_left _ _ _ (eqb-false _ _ (sym c.is_empty.ensures ∙ c.if-is_empty.false)) _ _ (refusal_told _ _ _ e) refl)
