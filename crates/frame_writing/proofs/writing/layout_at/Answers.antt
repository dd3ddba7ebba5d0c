-- No layout has a key or a version that a u16 does not hold.
use Rattle.frame_writing.proofs.Decided.{narrowed, decided_at, row_at}
use Rattle.frame_writing.proofs.writing.layout_at.Goals as goal

pub returns-clause-decision : goal.returns-clause-decision
returns-clause-decision c =
    decided_at _ _ _ _ (narrowed _ _ _ c.try_from.ensures c.unwrap_or-listed_key.ensures) (narrowed _ _ _ c.try_from-2.ensures c.unwrap_or-listed_version.ensures) c.layout_of.result c.layout_of.ensures.decision

pub returns-clause-row : goal.returns-clause-row
returns-clause-row c =
    row_at _ _ _ _ (narrowed _ _ _ c.try_from.ensures c.unwrap_or-listed_key.ensures) (narrowed _ _ _ c.try_from-2.ensures c.unwrap_or-listed_version.ensures) c.layout_of.result c.layout_of.ensures.decision c.layout_of.ensures.row
