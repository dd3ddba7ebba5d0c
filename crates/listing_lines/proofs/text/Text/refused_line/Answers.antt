-- The pieces, one behind another.
use Rattle.listing_lines.proofs.Texts.{then}
use Rattle.listing_lines.proofs.text.Text.refused_line.Goals as goal

pub returns : goal.returns
returns c = then c.decimal.ensures (then c.word.ensures (then c.decimal-2.ensures c.word-2.ensures))
