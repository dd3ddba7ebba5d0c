-- A copy of the whole word.
use Rattle.std.proofs.Common.{refl}
use Rattle.listing_lines.proofs.Texts.{put_whole}
use Rattle.listing_lines.proofs.text.Text.word.Goals as goal

pub returns : goal.returns
returns c = record { text = put_whole _ _ _ _ c.put_bytes-self.ensures; same_buffer = refl }
