-- The fewest digits that hold the number.
use Rattle.std.proofs.Common.{◌∙◌, arith}
use Rattle.listing_lines.proofs.Texts.{decimal_digits, same_piece}
use Rattle.listing_lines.proofs.text.Text.decimal.Goals as goal

pub returns : goal.returns
returns c = let d = c.decimal-k.ensures in same_piece (d.digits ∙ decimal_digits _ _ (omega arith) d.len) c.word.ensures
