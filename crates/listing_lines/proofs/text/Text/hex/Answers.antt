-- Four digits hold a uint16.
use Rattle.std.proofs.Common.{◌∙◌, arith}
use Rattle.listing_lines.specs.Text.{hex}
use Rattle.listing_lines.proofs.Texts.{hex_digits, same_piece}
use Rattle.listing_lines.proofs.text.Text.hex.Goals as goal

pub returns : goal.returns
unfolding hex
returns c = let d = c.hex-k.ensures in same_piece (d.digits ∙ hex_digits _ _ _ (omega arith) d.len) c.word.ensures
