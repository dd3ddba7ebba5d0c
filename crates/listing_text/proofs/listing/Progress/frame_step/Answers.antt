-- A frame that is not too long has its line.
use Rattle.std.proofs.Common.{sym, ◌∙◌, arith}
use Rattle.listing_lines.proofs.Texts.{prints_none}
use Rattle.listing_text.proofs.Listings.{not_long}
use Rattle.listing_text.proofs.listing.Progress.frame_step.Goals as goal

pub returns-then-too_long-clause-prints : goal.returns-then-too_long-clause-prints
returns-then-too_long-clause-prints c = rw (sym c.too_long.ensures ∙ c.if-too_long.true) prints_none

pub overflow_add-result-2 : goal.overflow_add-result-2
overflow_add-result-2 c = let h = not_long _ _ _ (sym c.too_long.ensures ∙ c.if-too_long.false) in record { fits = omega (arith, h.0) }

pub overflow_add-result-3 : goal.overflow_add-result-3
overflow_add-result-3 c = let h = not_long _ _ _ (sym c.too_long.ensures ∙ c.if-too_long.false) in record { fits = omega (arith, h.1) }
