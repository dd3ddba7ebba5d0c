-- A number of eight bytes is two of four, one after the other.
use Rattle.wire.proofs.Widths.{join}
use Rattle.fast_reading.proofs.number.Goals as goal

pub returns-in-Eight : goal.returns-in-Eight
returns-in-Eight c = rw (c.in-Eight.is, c.part.ensures.0, c.part-in-Eight.ensures.0) (join 4 4 _ _)
