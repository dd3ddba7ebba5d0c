-- A listing in steps, through a window: each step prints what comes next (01 "The listing program").
use Rattle.std.specs.Prelude.{◌≡◌, Bool, true, cond, List, [], ◌++◌, ℕ, ◌+◌, ◌≤◌, ◌<◌, ltb, length, drop}
use Rattle.wire.specs.Buffer.{holds, splice}
use Rattle.protocol.specs.Fields.{Fields}
use Rattle.protocol.specs.declared.place.Place.{Place}
use Rattle.captures.specs.Following.{Next, framed, whole, cut, refused, more, following, Rest}
use Rattle.listing_lines.specs.Text.{ascii, puts}
use Rattle.listing_lines.specs.Line.{frame_line, cut_line, refused_line, closing_line}
use Rattle.listing_text.specs.Listing.{limit, closes, lines_of}
use Rattle.listing_text.specs.declared.listing.Progress.{Progress}
use Rattle.listing_text.specs.declared.listing.State.{State}
use Rattle.listing_text.specs.declared.listing.State.TheVariants.{Going, More, Done, TooLong}

-- The greatest offset and count of frames that is kept. No real capture gets there.
abbrev pub greatest : ℕ
greatest = 0xffff_ffff_ffff_ffff

-- A frame whose end, or whose count, would be beyond that.
unfoldable pub too_long : ℕ → ℕ → ℕ → Bool
too_long offset frames total = cond (ltb greatest (offset + total)) true (ltb greatest (frames + 1))

-- At the start of a window and of a text.
abbrev pub begun : ℕ → ℕ → Progress
begun offset frames = record { from = 0; offset = offset; frames = frames; written = 0; state = Going }

-- No further in the capture, with so much text.
abbrev pub halted : Progress → ℕ → State → Progress
halted p written state = record { from = p.from; offset = p.offset; frames = p.frames; written = written; state = state }

-- One frame further.
abbrev pub advanced : Progress → ℕ → ℕ → Progress
advanced p total written = record { from = p.from + total; offset = p.offset + total; frames = p.frames + 1; written = written; state = Going }

-- What a step prints of what comes next, and how far the listing is then.
abbrev pub printed : Next → Progress → List (List ℕ)
printed (framed f total) p = cond (too_long p.offset p.frames total) [] (frame_line p.offset total f.key f.version)
printed whole p = closing_line p.frames (ascii " whole\n")
printed (cut left needed) p = cut_line p.offset left needed ++ closing_line p.frames (ascii " cut\n")
printed (refused number) p = refused_line p.offset number ++ closing_line p.frames (ascii " refused\n")
printed more p = []

abbrev pub moved : Next → Progress → ℕ → Progress
moved (framed f total) p written = cond (too_long p.offset p.frames total) (halted p written TooLong) (advanced p total written)
moved whole p written = halted p written Done
moved (cut left needed) p written = halted p written Done
moved (refused number) p written = halted p written Done
moved more p written = halted p written More

pub record Steps (next : Next) (p : Progress) (entry exit : List ℕ) (r : Progress) : Type 0 where
  pub text : holds exit r.written ≡ puts entry p.written (printed next p)
  pub place : r ≡ moved next p r.written

-- The lines behind those that are written.
abbrev pub behind : State → List ℕ → List ℕ
behind Going s = s
behind More s = s
behind Done s = []
behind TooLong s = s

-- A listing of the window w gone on with from p to r: the text that is put behind p's is the start of the lines that
-- the capture has from p on, whatever follows the window, and r tells where the others start, in the window and in the
-- capture. If it is done, there are no others.
pub record Lists (w : List ℕ) (ended : Bool) (p : Progress) (entry exit : List ℕ) (r : Progress) : Type 0 where
  pub text : List ℕ
  pub put : exit ≡ splice entry p.written text
  pub written : r.written ≡ p.written + length text
  pub room : r.written ≤ length entry
  pub within : r.from ≤ length w
  pub place : r.offset + p.from ≡ p.offset + r.from
  pub lines : (rest : List ℕ) → Rest ended rest → lines_of (drop p.from (w ++ rest)) p.offset p.frames ≡ text ++ behind r.state (lines_of (drop r.from (w ++ rest)) r.offset r.frames)

-- Why a listing of the window w stopped where r says: less than 128 of so many bytes are left for the text; the
-- window's rest doesn't tell what comes next; what comes next closes the listing; or the next frame would end beyond the
-- greatest offset or count.
abbrev pub Stopped : State → List ℕ → Bool → ℕ → Progress → Type 0
Stopped Going w ended len r = len < r.written + 128
Stopped More w ended len r = following (drop r.from w) ended limit ≡ more
Stopped Done w ended len r = closes (following (drop r.from w) ended limit) ≡ true
Stopped TooLong w ended len r = (f : Fields Place) × (total : ℕ) × (following (drop r.from w) ended limit ≡ framed f total) × (too_long r.offset r.frames total ≡ true)

abbrev pub Stops : List ℕ → Bool → ℕ → Progress → Type 0
Stops w ended len r = Stopped r.state w ended len r
