-- The reads of an input. No contract says which bytes a read gives, so the statements hold of every list of reads.
use Rattle.std.specs.Prelude.{◌≡◌, Bool, true, false, List, [], ◌∷◌, ◌++◌, ℕ, Option, None, Some, take}

-- Pieces one after another, where the last one comes first: what each read gave makes the input, as far as it was read.
unfoldable pub in_order : List (List ℕ) → List ℕ
in_order [] = []
in_order (last ∷ earlier) = in_order earlier ++ last

-- The input has ended once a read gave nothing.
unfoldable pub ended : List (List ℕ) → Bool
ended [] = false
ended ([] ∷ earlier) = true
ended ((b ∷ last) ∷ earlier) = false

abbrev pub EndsByNothing : Type 0
EndsByNothing = (reads : List (List ℕ)) → ended reads ≡ true → (earlier : List (List ℕ)) × (reads ≡ [] ∷ earlier)

-- A read put so many bytes at the start of this part of the window, or none, as it failed.
abbrev pub after_read : Option ℕ → List ℕ → List (List ℕ) → List (List ℕ)
after_read (Some n) part reads = take n part ∷ reads
after_read None part reads = reads
