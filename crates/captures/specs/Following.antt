-- A capture is frames one after another (01 "The listing program"). What comes next in it is told by reading a frame.
use Rattle.std.specs.Prelude.{◌≡◌, Bool, true, false, cond, List, [], ◌∷◌, ◌++◌, ◌⊎◌, ℕ, ◌+◌, ◌<◌, length, get_or}
use Rattle.wire.specs.Integers.{Bytes}
use Rattle.protocol.specs.Fields.{Fields}
use Rattle.protocol.specs.declared.place.Place.{Place}
use Rattle.rules.specs.Exactness.{frame_length}
use Rattle.rules.specs.Reading.{Reading, frame, short, refusal, read_frame}
use Rattle.slots.specs.Flat.{slots_after}

-- What comes next: a frame, with its length in bytes; the capture's end after a frame; a frame that is cut, of which so many
-- bytes are left of so many; a refusal. Of a part that more bytes may follow the answer can be that more are needed.
pub data Next : Type 0 where
  framed : Fields Place → ℕ → Next
  whole : Next
  cut : ℕ → ℕ → Next
  refused : ℕ → Next
  more : Next

abbrev pub next_of : Reading → Bool → ℕ → ℕ → Next
next_of (frame f) ended left len = framed f len
next_of (short needed) ended left len = cond ended (cut left needed) more
next_of (refusal n at) ended left len = refused n

-- What comes next under a frame limit, where s is what is left of a capture that has ended, or where more may follow s.
unfoldable pub following : List ℕ → Bool → ℕ → Next
following [] ended limit = cond ended whole more
following (b ∷ s) ended limit = next_of (read_frame (b ∷ s) limit) ended (length (b ∷ s)) (frame_length (b ∷ s))

-- What each answer says of reading: a frame is the one that is read, and its length is Size and the four bytes of Size itself; a
-- cut frame has the bytes that are there and needs those that reading needs; a refusal has reading's number.
abbrev pub Says : List ℕ → Bool → ℕ → Next → Type 0
Says s ended limit (framed f len) = (read_frame s limit ≡ frame f) × (len ≡ frame_length s)
Says s ended limit whole = (s ≡ []) × (ended ≡ true)
Says s ended limit (cut left needed) = (read_frame s limit ≡ short needed) × ((left ≡ length s) × (ended ≡ true))
Says s ended limit (refused n) = (at : ℕ) × (read_frame s limit ≡ refusal n at)
Says s ended limit more = ((s ≡ []) ⊎ ((needed : ℕ) × (read_frame s limit ≡ short needed))) × (ended ≡ false)

abbrev pub SaysWhatIsRead : Type 0
SaysWhatIsRead = (s : List ℕ) (ended : Bool) (limit : ℕ) → Says s ended limit (following s ended limit)

-- What may follow a part of a capture: nothing, if the capture has ended.
abbrev pub Rest : Bool → List ℕ → Type 0
Rest true rest = rest ≡ []
Rest false rest = Unit

-- What comes next in a part is what comes next in the capture, unless more bytes are needed to tell.
abbrev pub WindowTells : Type 0
WindowTells = (w rest : List ℕ) (ended : Bool) (limit : ℕ) → Rest ended rest → (following w ended limit ≡ more) ⊎ (following (w ++ rest) true limit ≡ following w ended limit)

-- Where more bytes are needed, fewer are there than Size has or than the frame has; and under a limit, which is not 0, fewer
-- than the longest frame within it. So a window that holds such a frame always has room for more.
abbrev pub MoreIsShort : Type 0
MoreIsShort = (s : List ℕ) (ended : Bool) (limit : ℕ) → following s ended limit ≡ more → ((length s < 4) ⊎ (length s < frame_length s)) × (0 < limit → length s < limit + 4)

-- The first two slots of a frame that comes next are its key and its version, which have two bytes each.
pub record KeySlots (f : Fields Place) (slots : List ℕ) : Type 0 where
  pub key : get_or slots 0 0 ≡ f.key
  pub version : get_or slots 1 0 ≡ f.version
  pub key_fits : get_or slots 0 0 < 65536
  pub version_fits : get_or slots 1 0 < 65536

abbrev pub SlotsTell : Type 0
SlotsTell = (s old : List ℕ) (ended : Bool) (limit : ℕ) (f : Fields Place) (len : ℕ) → Bytes s → following s ended limit ≡ framed f len → KeySlots f (slots_after old (read_frame s limit))
