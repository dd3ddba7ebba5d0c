-- What is put behind a text in a lent buffer.
use Rattle.std.specs.Prelude.{◌≡◌, List, ℕ}
use Rattle.wire.specs.Buffer.{holds}
use Rattle.listing_lines.specs.Text.{puts}
use Rattle.listing_lines.specs.declared.text.Text.{Text}

-- Pieces put behind a text, in the same buffer.
pub record Prints (pieces : List (List ℕ)) (old new : Text) : Type 0 where
  pub text : holds new.out.now new.len ≡ puts old.out.now old.len pieces
  pub same_buffer : new.out.ghost_name ≡ old.out.ghost_name
