-- Nothing was read, and the whole listing is left.
use Rattle.listing_loop.proofs.Standings.{start_stands}
use Rattle.listing_loop.proofs.session.Session.start.Goals as goal

pub returns-clause-stands : goal.returns-clause-stands
returns-clause-stands c = start_stands _ c.start.ensures.offset c.start.ensures.shows
