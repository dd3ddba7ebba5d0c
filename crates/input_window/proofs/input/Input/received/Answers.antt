-- What a read gave.
use Rattle.input_window.proofs.Windows.{received_shows}
use Rattle.input_window.proofs.input.Input.received.Goals as goal

pub returns-clause-shows : goal.returns-clause-shows
returns-clause-shows c = λ reads s room. received_shows reads _ _ s _ c.inside-at.ensures.value _ _ _ c.in-Some.is c.min-n.ensures
