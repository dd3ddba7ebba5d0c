-- By whether four letters are there.
use Rattle.std.proofs.Common.{◌∙◌}
use Rattle.wire.proofs.Widths.{is_there, is_cut}
use Rattle.test_ledgers.proofs.Words.{word_there, word_cut}
use Rattle.test_ledgers.proofs.script.first_word.Goals as goal

pub returns-in-Some : goal.returns-in-Some
returns-in-Some c =
    let l = is_there 4 _ 0 _ c.in-Some.ensures in
    c.word_of.ensures ∙ word_there _ _ l.0 l.1

pub returns-in-None : goal.returns-in-None
returns-in-None c = word_cut _ (is_cut 4 _ 0 c.in-None.ensures)
