-- The text that waited was handed to the output.
use Rattle.listing_loop.proofs.Standings.{write_stands}
use Rattle.listing_loop.proofs.session.Session.wrote.Goals as goal

pub returns-clause-stands : goal.returns-clause-stands
returns-clause-stands c = λ h window text e st. write_stands h _ window text st c.args.taken _ _ e c.after_write.ensures
