-- What the listing program prints for a capture (01 "The listing program").
use Rattle.std.specs.Prelude.{◌≡◌, Bool, true, false, List, [], ◌++◌, ℕ, zero, suc, ◌+◌, length, drop}
use Rattle.captures.specs.Following.{Next, framed, whole, cut, refused, more, following}
use Rattle.listing_lines.specs.Text.{ascii, joined}
use Rattle.listing_lines.specs.Line.{frame_line, cut_line, refused_line, closing_line}

-- The frame limit of a listing.
abbrev pub limit : ℕ
limit = 65532

-- What comes next closes the listing: the capture's end, after a frame or inside one, or a refusal.
abbrev pub closes : Next → Bool
closes (framed f total) = false
closes whole = true
closes (cut left needed) = true
closes (refused number) = true
closes more = false

-- The lines from what comes next on, at an offset, behind k frames; `behind` gives the lines behind a frame of so many
-- bytes. The listing stops at the first refusal.
abbrev pub lines_from : Next → ℕ → ℕ → (ℕ → List ℕ) → List ℕ
lines_from (framed f total) offset k behind = joined (frame_line offset total f.key f.version) ++ behind total
lines_from whole offset k behind = joined (closing_line k (ascii " whole\n"))
lines_from (cut left needed) offset k behind = joined (cut_line offset left needed) ++ joined (closing_line k (ascii " cut\n"))
lines_from (refused number) offset k behind = joined (refused_line offset number) ++ joined (closing_line k (ascii " refused\n"))
lines_from more offset k behind = []

-- At most so many lines of s, which is what is left of a capture.
unfoldable pub lines : ℕ → List ℕ → ℕ → ℕ → List ℕ
lines zero s offset k = []
lines (suc most) s offset k = lines_from (following s true limit) offset k (λ total. lines most (drop total s) (offset + total) (suc k))

-- All lines of s. No frame is empty, so there are at most as many as bytes.
unfoldable pub lines_of : List ℕ → ℕ → ℕ → List ℕ
lines_of s offset k = lines (suc (length s)) s offset k

-- They are the line of what comes next, and the lines of what is behind it.
abbrev pub LinesUnfold : Type 0
LinesUnfold = (s : List ℕ) (offset k : ℕ) → lines_of s offset k ≡ lines_from (following s true limit) offset k (λ total. lines_of (drop total s) (offset + total) (suc k))

-- All that is printed for a capture.
abbrev pub listing : List ℕ → List ℕ
listing s = lines_of s 0 0
