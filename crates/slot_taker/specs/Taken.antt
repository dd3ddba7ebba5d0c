-- Fields that are taken from slots, one after the other.
use Rattle.std.specs.Prelude.{◌≡◌, List, ℕ, drop}

-- A field of n slots was taken: it is what the slots there say, and the next field's follow its own.
abbrev pub Taken : ℕ → List ℕ → List ℕ → (List ℕ → Type 0) → Type 0
Taken n slots left Says = Says slots × (left ≡ drop n slots)
