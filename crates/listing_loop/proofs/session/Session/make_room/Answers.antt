-- The window shows what it showed.
use Rattle.listing_loop.proofs.Standings.{left_short}
use Rattle.listing_loop.proofs.session.Session.make_room.Goals as goal

pub returns-clause-room : goal.returns-clause-room
returns-clause-room c = λ h text reading st holds. c.make_room.ensures.room _ st.input (left_short h _ _ text st reading) holds
