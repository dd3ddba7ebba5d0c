-- Where a listing stands after any number of reads and writes (01 "The listing program").
use Rattle.std.specs.Prelude.{◌≡◌, true, List, ◌++◌, ℕ, ◌+◌, ◌≤◌, ◌<◌, length, take, drop}
use Rattle.protocol.specs.Fields.{Fields}
use Rattle.protocol.specs.declared.place.Place.{Place}
use Rattle.captures.specs.Following.{Next, framed, more, following, Rest}
use Rattle.input_window.specs.Window.{Shows}
use Rattle.listing_text.specs.Listing.{limit, closes, lines_of, listing}
use Rattle.listing_text.specs.Steps.{too_long}
use Rattle.listing_text.specs.declared.listing.State.TheVariants.{Going, More, Done, TooLong}
use Rattle.listing_loop.specs.History.{History, capture, handed, ended}
use Rattle.listing_loop.specs.Stages.{is_failed}
use Rattle.listing_loop.specs.declared.session.Session.{Session}
use Rattle.listing_loop.specs.declared.session.Stage.{Stage}
use Rattle.listing_loop.specs.declared.session.Stage.TheVariants.{Listing, Listed, Unreadable, Unwritable}

-- The listing of a capture is the text made so far, followed by the lines that are left. None are left once it is listed;
-- what is left after a write that failed is not said.
abbrev pub Begins : Stage → List ℕ → List ℕ → List ℕ → Type 0
Begins Listing all made left = all ≡ made ++ left
Begins (Listed Going) all made left = all ≡ made ++ left
Begins (Listed More) all made left = all ≡ made ++ left
Begins (Listed Done) all made left = all ≡ made
Begins (Listed TooLong) all made left = all ≡ made ++ left
Begins Unreadable all made left = all ≡ made ++ left
Begins Unwritable all made left = (unwritten : List ℕ) × (all ≡ made ++ unwritten)

-- What comes next in what was read.
abbrev pub next : History → Session → Next
next h s = following (drop s.input.offset (capture h)) (ended h) limit

-- Why a session is at its stage, where n comes next: its text, of so many bytes, has no room for another line; more bytes are
-- needed; what comes next closes the listing; or a frame would end beyond the greatest offset or count.
abbrev pub Because : Stage → Next → ℕ → ℕ → ℕ → ℕ → Type 0
Because Listing n len waiting offset frames = Unit
Because (Listed Going) n len waiting offset frames = len < waiting + 128
Because (Listed More) n len waiting offset frames = n ≡ more
Because (Listed Done) n len waiting offset frames = closes n ≡ true
Because (Listed TooLong) n len waiting offset frames = (f : Fields Place) × (total : ℕ) × (n ≡ framed f total) × (too_long offset frames total ≡ true)
Because Unreadable n len waiting offset frames = n ≡ more
Because Unwritable n len waiting offset frames = Unit

-- A session stands where a history has led to, with this window and this text.
pub record Stands (h : History) (s : Session) (window text : List ℕ) : Type 0 where
  -- The window shows the bytes that were read and are not listed yet.
  pub input : Shows h.reads s.input window
  pub room : s.waiting ≤ length text
  -- A read or a write has failed exactly if the history says so.
  pub fails : is_failed s.stage ≡ h.failed
  -- The text handed to the output and the text that waits are the listing so far, whatever will be read.
  pub lines : (rest : List ℕ) → Rest (ended h) rest
      → Begins s.stage (listing (capture h ++ rest)) (handed h ++ take s.waiting text) (lines_of (drop s.input.offset (capture h ++ rest)) s.input.offset s.frames)
  pub because : Because s.stage (next h s) (length text) s.waiting s.input.offset s.frames
