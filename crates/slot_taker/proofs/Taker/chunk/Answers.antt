-- The header, then the place of the data.
use Rattle.slot_taker.proofs.Taken.{header_and_place}
use Rattle.slot_taker.proofs.Taker.chunk.Goals as goal

pub returns : goal.returns
returns c = header_and_place c.args.self.now.slots.now _ _ _ _ c.header.ensures.0 c.place.ensures.0 c.header.ensures.1 c.place.ensures.1
