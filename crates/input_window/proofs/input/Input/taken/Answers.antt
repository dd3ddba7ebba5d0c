-- Where so many bytes are there.
use Rattle.std.proofs.Common.{refl}
use Rattle.input_window.proofs.Windows.{taken_shows}
use Rattle.input_window.proofs.input.Input.taken.Goals as goal

pub returns-clause-shows : goal.returns-clause-shows
returns-clause-shows c = λ reads window s there fits. (taken_shows reads _ window s _ there, refl)
