-- What the window shows is what was read from the offset on.
use Rattle.std.proofs.Common.{refl, arith}
use Rattle.listing_loop.proofs.Listings.{listed_stands}
use Rattle.listing_loop.proofs.session.Session.listed.Goals as goal

pub returns-clause-stands : goal.returns-clause-stands
returns-clause-stands c =
    λ h on st. listed_stands h _ _ _ st on c.list-p.result _ _ _ _ _ (c.rest-rest.ensures _ st.input) refl c.list-p.ensures.lists c.list-p.ensures.stops (c.taken.ensures.shows _ _ st.input) (omega arith) refl
