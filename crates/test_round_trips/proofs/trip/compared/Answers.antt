-- By whether the bytes are alike, and whether they are a frame.
use Rattle.std.proofs.Common.{◌∙◌, sym, rules}
use Rattle.test_round_trips.proofs.SameBytes.{both_there, not_empty}
use Rattle.test_round_trips.proofs.trip.compared.Goals as goal

pub slice_bounds-is_frame-end : goal.slice_bounds-is_frame-end
slice_bounds-is_frame-end c = let h = both_there _ _ _ (sym c.alike.ensures ∙ c.if-alike.true) in search rules

pub returns-then-is_frame-clause-within : goal.returns-then-is_frame-clause-within
returns-then-is_frame-clause-within c = let h = both_there _ _ _ (sym c.alike.ensures ∙ c.if-alike.true) in (not_empty _ _ (sym c.is_frame.ensures ∙ c.if-is_frame.true), h.0)
