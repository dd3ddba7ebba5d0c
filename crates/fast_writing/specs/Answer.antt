-- What a writer that knows only some frames may answer: the frame's length, and then the output is what writing gives; why the
-- frame is refused; or that it leaves the frame unwritten, which says nothing of it. In the last two cases the output is as it was.
use Rattle.std.specs.Prelude.{◌≡◌, List, ◌++◌, ℕ, drop, Option, None, Some, Result, Ok, Err}
use Rattle.wire.specs.Integers.{digits}
use Rattle.protocol.specs.Refusals.{number_of}
use Rattle.protocol.specs.Table.{row_of}
use Rattle.protocol.specs.declared.refusal.Refusal.{Refusal}
use Rattle.rules.specs.Writing.{Writing, length, unwritten, write_row, write_encoded}
use Rattle.slots.specs.Unflat.{unflat_row}

abbrev pub WritesAs : Writing → List ℕ → Option (Result ℕ Refusal) → List ℕ → Type 0
WritesAs w old (Some (Ok n)) new = w ≡ record { answer = length n; out = new }
WritesAs w old (Some (Err r)) new = (w ≡ unwritten (number_of r) old) × (new ≡ old)
WritesAs w old None new = new ≡ old

-- Writing the slots of a key and a version.
abbrev pub write_row_of : ℕ → ℕ → List ℕ → List ℕ → ℕ → List ℕ → Writing
write_row_of key version slots src limit out = write_encoded key version (write_row (row_of key version) src (unflat_row (row_of key version) (drop 2 slots))) limit out

-- A publisher's id, then a list: its count, and its encoded elements.
abbrev pub listed : ℕ → ℕ → List ℕ → List ℕ
listed id count elements = digits 1 id ++ (digits 4 count ++ elements)
