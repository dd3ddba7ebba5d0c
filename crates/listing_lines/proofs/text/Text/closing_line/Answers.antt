-- The pieces, one behind another.
use Rattle.listing_lines.proofs.Texts.{then}
use Rattle.listing_lines.proofs.text.Text.closing_line.Goals as goal

pub returns : goal.returns
returns c = then c.word.ensures (then c.decimal.ensures c.word-2.ensures)
