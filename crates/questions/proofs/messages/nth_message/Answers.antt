-- The message is read where the entries before it end.
use Rattle.std.proofs.Common.{arith, refl, Ok, Err}
use Rattle.std.proofs.lemmas.Result.{err_from_is_err_and}
use Rattle.protocol.proofs.Refused.{some_number}
use Rattle.byte_strings.specs.Stops.{told}
use Rattle.questions.proofs.Answers.{entries_refused, entry_found, entry_refused}
use Rattle.questions.proofs.messages.nth_message.Goals as goal

pub returns-in_err-at : goal.returns-in_err-at
returns-in_err-at c =
    let p = err_from_is_err_and c.from_residual.result c.from_residual.ensures.1 in
    rw (p.1, p.2) (entries_refused _ _ _ (told (Err c.in_err-at.field-0.0)) c.in_err-at.ensures (some_number _))

pub returns-in_err-end : goal.returns-in_err-end
returns-in_err-end c =
    let p = err_from_is_err_and c.from_residual-in_err-end.result c.from_residual-in_err-end.ensures.1 in
    rw (p.1, p.2) (entry_refused _ _ _ (told (Ok c.in_ok-at.at)) c.in_ok-at.ensures refl (told (Err c.in_err-end.field-0.0)) c.in_err-end.ensures (some_number _))

pub overflow_add-first : goal.overflow_add-first
overflow_add-first c =
    let r = (entry_found _ c.args.base _ (told (Ok c.in_ok-at.at)) c.in_ok-at.ensures refl (told (Ok c.in_ok-end.end)) c.in_ok-end.ensures refl).0 in
    omega (arith, r.after, r.within, c.requires)

pub overflow_add-result : goal.overflow_add-result
overflow_add-result c =
    let r = (entry_found _ c.args.base _ (told (Ok c.in_ok-at.at)) c.in_ok-at.ensures refl (told (Ok c.in_ok-end.end)) c.in_ok-end.ensures refl).0 in
    omega (arith, r.after, r.within, c.requires)

pub overflow_sub-result : goal.overflow_sub-result
overflow_sub-result c =
    let r = (entry_found _ c.args.base _ (told (Ok c.in_ok-at.at)) c.in_ok-at.ensures refl (told (Ok c.in_ok-end.end)) c.in_ok-end.ensures refl).0 in
    omega (arith, r.after)

pub returns : goal.returns
returns c = (entry_found _ c.args.base _ (told (Ok c.in_ok-at.at)) c.in_ok-at.ensures refl (told (Ok c.in_ok-end.end)) c.in_ok-end.ensures refl).1
