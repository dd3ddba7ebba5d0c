-- A frame that was read: the ledger has a credit for it, or refuses it.
use Rattle.std.proofs.Common.{◌∙◌, sym, Ok, Err}
use Rattle.std.proofs.lemmas.Result.{err_from_is_err_and}
use Rattle.credit_receiving.specs.Subscription.{id_of}
use Rattle.credit_receiving.specs.declared.receiving.ReceiveError.TheVariants.{Ledger}
use Rattle.credit_receiving.proofs.Answers.{Answers, handed, its_slots, not_refused, not_spent, refused}
use Rattle.credit_receiving.proofs.receiving.receive.Goals as goal
use Rattle.credit_receiving.proofs.receiving.receive.Goals.{then-affords+in_ok-read, else-affords+in_ok-read-2}

pub returns-in_err-spend : goal.returns-in_err-spend
returns-in_err-spend c =
    let a = c.args in
    let p = err_from_is_err_and c.from_residual-in_err-spend.result c.from_residual-in_err-spend.ensures.1 in
    let k = c.in_err-spend.field-0.0 in
    let all : Answers a.credits.now a.bytes.now a.limit a.slots.now (Err (Ledger k)) c.spend.new.credits c.if-affords.slots = elim c.if-affords.branch [
      | then-affords+in_ok-read w ↦ absurd (not_refused a.credits.now (id_of c.subscription_of-subscription.result) _ (sym c.affords.ensures ∙ w.if-affords.true) c.in_err-spend.ensures.refusal)
      | else-affords+in_ok-read-2 w ↦ refused _ _ _ _ w.in_ok-read-2.ensures.value _ _ c.subscription_of-subscription.ensures c.spend.ensures.credits_after _ k w.slots-is c.in_err-spend.ensures.refusal
    ] in
    rw (p.1, p.2) (record { value = all.0; credits_after = all.1.0; slots_after = all.1.1.0; refusal = all.1.1.1 })

pub returns : goal.returns
returns c =
    let a = c.args in
    let all : Answers a.credits.now a.bytes.now a.limit a.slots.now (Ok tt) c.spend.new.credits c.if-affords.slots = elim c.if-affords.branch [
      | then-affords+in_ok-read w ↦ handed _ _ _ _ w.in_ok-read.ensures.value _ _ c.subscription_of-subscription.ensures c.spend.ensures.credits_after _ (w.slots-is ∙ its_slots _ _ w.in_ok-read.ensures.value _ _ w.in_ok-read.ensures.slots_after) c.in_ok-spend.ensures.refusal
      | else-affords+in_ok-read-2 w ↦ absurd (not_spent a.credits.now (id_of c.subscription_of-subscription.result) (sym c.affords.ensures ∙ w.if-affords.false) c.in_ok-spend.ensures.refusal)
    ] in
    record { value = all.0; credits_after = all.1.0; slots_after = all.1.1.0; refusal = all.1.1.1 }
