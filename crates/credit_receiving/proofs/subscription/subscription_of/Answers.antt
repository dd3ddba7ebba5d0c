-- By the key, where there is one.
use Rattle.std.proofs.Common.{◌∙◌, sym, arith}
use Rattle.frame_head.proofs.Heads.{key_there}
use Rattle.credit_receiving.proofs.Addressed.{too_short, other_key, this_key}
use Rattle.credit_receiving.proofs.subscription.subscription_of.Goals as goal
use Rattle.credit_receiving.proofs.subscription.subscription_of.Goals.{else-bytes-gt8-via-then-bytes-gt8+else-head_of-eq8, else-bytes-gt8-via-else-bytes-gt8}

pub returns-then-head_of-eq8 : goal.returns-then-head_of-eq8
returns-then-head_of-eq8 c = this_key _ c.if-bytes-gt8.true (sym (key_there _ _ c.head_of.ensures (omega arith)) ∙ c.if-head_of-eq8.true)

pub returns : goal.returns
returns c =
    elim c.else-bytes-gt8.branch [
      | else-bytes-gt8-via-then-bytes-gt8+else-head_of-eq8 w ↦ other_key _ (λ e. w.if-head_of-eq8.false (key_there _ _ w.head_of.ensures (omega arith) ∙ e))
      | else-bytes-gt8-via-else-bytes-gt8 w ↦ too_short _ (omega arith)
    ]
