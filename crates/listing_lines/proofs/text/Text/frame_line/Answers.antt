-- The pieces, one behind another.
use Rattle.listing_lines.proofs.Texts.{then}
use Rattle.listing_lines.proofs.text.Text.frame_line.Goals as goal

pub returns : goal.returns
returns c = then c.decimal.ensures (then c.word.ensures (then c.decimal-2.ensures (then c.word-2.ensures (then c.hex.ensures (then c.word-3.ensures (then c.decimal-3.ensures c.word-4.ensures))))))
