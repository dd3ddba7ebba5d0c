-- Nothing was read.
use Rattle.input_window.proofs.Windows.{start_shows}
use Rattle.input_window.proofs.input.Input.start.Goals as goal

pub returns-clause-shows : goal.returns-clause-shows
returns-clause-shows c = start_shows
