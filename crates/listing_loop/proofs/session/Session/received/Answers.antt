-- What the read gave is shown by the window.
use Rattle.listing_loop.proofs.Standings.{read_stands}
use Rattle.listing_loop.proofs.session.Session.received.Goals as goal

pub returns-clause-stands : goal.returns-clause-stands
returns-clause-stands c =
    λ h text reading st. read_stands h _ _ text st reading c.args.got _ _ _ (c.received.ensures.shows _ st.input c.requires) c.received.ensures.offset c.after_read.ensures
