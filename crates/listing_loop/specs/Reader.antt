-- What a reader gives, where the bytes that it has left are known.
use Rattle.std.specs.Prelude.{◌≡◌, Option, None, Some, List, ℕ, ◌<◌, length, take}
use Rattle.std.specs.Io.KnownBytes.{Consumes, IsAtEnd, Keeps}

-- A read that answers a number put so many of them at the start of this part, and none only at their end. One that failed took
-- none.
abbrev pub Gives : Option (List ℕ) → Option (List ℕ) → Option ℕ → List ℕ → Type 0
Gives old new (Some n) part = Consumes old new (take n part) × (n ≡ 0 → 0 < length part → IsAtEnd new)
Gives old new None part = Keeps old new
