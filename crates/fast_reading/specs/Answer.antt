-- What a reader that knows only some frames may answer of a content: that it has read the frame, and then the slots are the
-- frame's; that the content is refused; or that it leaves the content unread, which says nothing of it. In the last two cases
-- the slots are as they were.
use Rattle.std.specs.Prelude.{◌≡◌, List, ℕ, ◌+◌, Option, Some, None, Result, Ok, Err}
use Rattle.protocol.specs.Fields.{Fields}
use Rattle.protocol.specs.Refusals.{number_of}
use Rattle.protocol.specs.declared.place.Place.{Place}
use Rattle.rules.specs.Reading.{Reading, frame, refusal}
use Rattle.slots.specs.Flat.{flat_frame}
use Rattle.byte_strings.specs.declared.fault.Fault.{Fault}

-- The place of a refusal counts from the content's first byte, which is byte 8 of the frame.
abbrev pub Answers : Reading → List ℕ → Option (Result Unit Fault) → List ℕ → Type 0
Answers reading old (Some (Ok read)) new = (f : Fields Place) × ((reading ≡ frame f) × (new ≡ flat_frame f))
Answers reading old (Some (Err fault)) new = (reading ≡ refusal (number_of fault.refusal) (8 + fault.at)) × (new ≡ old)
Answers reading old None new = new ≡ old

-- The same of a reader that refuses nothing.
abbrev pub ReadsAs : Reading → List ℕ → Option Unit → List ℕ → Type 0
ReadsAs reading old (Some read) new = Answers reading old (Some (Ok read)) new
ReadsAs reading old None new = Answers reading old None new
