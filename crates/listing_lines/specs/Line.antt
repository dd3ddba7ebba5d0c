-- What each line of a listing says, in pieces (01 "The listing program").
use Rattle.std.specs.Prelude.{List, [], ◌∷◌, ℕ}
use Rattle.listing_lines.specs.Text.{ascii, decimal, hex}

-- One line a frame: offset, total bytes, key as four lower-case hex digits, version.
abbrev pub frame_line : ℕ → ℕ → ℕ → ℕ → List (List ℕ)
frame_line offset total key version =
    decimal offset ∷ ascii " " ∷ decimal total ∷ ascii " " ∷ hex key ∷ ascii " " ∷ decimal version ∷ ascii "\n" ∷ []

-- The line of a frame that is cut.
abbrev pub cut_line : ℕ → ℕ → ℕ → List (List ℕ)
cut_line offset left needed = decimal offset ∷ ascii " CUT " ∷ decimal left ∷ ascii " of " ∷ decimal needed ∷ ascii "\n" ∷ []

-- The line of any other refusal.
abbrev pub refused_line : ℕ → ℕ → List (List ℕ)
refused_line offset number = decimal offset ∷ ascii " REFUSED " ∷ decimal number ∷ ascii "\n" ∷ []

-- The closing line: k frames, and how the capture ended.
abbrev pub closing_line : ℕ → List ℕ → List (List ℕ)
closing_line k ending = ascii "frames " ∷ decimal k ∷ ending ∷ []
