-- It is written exactly if it is not refused.
use Rattle.std.proofs.Common.{sym, ◌∙◌}
use Rattle.protocol.proofs.Refused.{ok_number}
use Rattle.frame_head.proofs.Heads.{fits, not_refused, number_ok}
use Rattle.frame_head.proofs.size.fits.Goals as goal

pub returns : goal.returns
returns c =
    (λ e. fits _ _ _ (sym c.check_size.ensures ∙ ok_number c.check_size.result (sym c.is_ok.ensures.value ∙ e)), λ h. c.is_ok.ensures.value ∙ number_ok c.check_size.result (c.check_size.ensures ∙ not_refused _ _ _ h))
