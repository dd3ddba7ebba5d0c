-- What a whole run does, of what it read and what it handed to the output.
use Rattle.std.specs.Prelude.{◌≡◌, true, List, [], ◌∷◌, ◌++◌, ◌⊎◌, ℕ, ◌+◌, ◌≤◌, length}
use Rattle.captures.specs.Following.{refused, Rest}
use Rattle.listing_text.specs.Listing.{listing}
use Rattle.listing_text.specs.Steps.{greatest}
use Rattle.listing_text.specs.declared.listing.State.TheVariants.{Done}
use Rattle.listing_loop.specs.History.{History, capture, handed, ended}
use Rattle.listing_loop.specs.Stages.{is_over}
use Rattle.listing_loop.specs.Standing.{next, Stands}
use Rattle.listing_loop.specs.declared.session.Session.{Session}
use Rattle.listing_loop.specs.declared.session.Stage.TheVariants.{Listed}

pub record Ran (r : Session) (window text : List ℕ) : Type 0 where
  pub history : History
  pub stands : Stands history r window text
  -- It is over and no text waits; or 2^64 - 2 bytes or more were read and written.
  pub stops : ((is_over r.stage ≡ true) × (r.waiting ≡ 0)) ⊎ (greatest ≤ length (capture history) + length (handed history) + 1)
  -- In whatever stage it ends, the listing of the capture begins with the text handed to the output, whatever was not read.
  pub begun : (rest : List ℕ) → Rest (ended history) rest → (left : List ℕ) × (listing (capture history ++ rest) ≡ handed history ++ left)
  -- Once it is listed, that text is the whole listing of what was read,
  pub whole : r.stage ≡ Listed Done → handed history ≡ listing (capture history)
  -- and the last read gave nothing, or a frame is refused.
  pub closed : r.stage ≡ Listed Done → ((earlier : List (List ℕ)) × (history.reads ≡ [] ∷ earlier)) ⊎ ((number : ℕ) × (next history r ≡ refused number))
