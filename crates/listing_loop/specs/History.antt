-- What has passed between a listing and the operating system. No contract says which bytes a read gives or what becomes of
-- those that a write takes, so the statements hold of every history.
use Rattle.std.specs.Prelude.{Bool, true, false, cond, List, [], ◌∷◌, ℕ, Option, None, Some}
use Rattle.input_window.specs.Reads as input

-- What each read gave, and the text that each write was handed, the last one first; and whether one of them failed.
pub record History : Type 0 where
  pub reads : List (List ℕ)
  pub writes : List (List ℕ)
  pub failed : Bool

-- Before the first read.
abbrev pub nothing_yet : History
nothing_yet = record { reads = []; writes = []; failed = false }

-- The capture, as far as it was read.
abbrev pub capture : History → List ℕ
capture h = input.in_order h.reads

-- The text, as far as it was handed to the output.
abbrev pub handed : History → List ℕ
handed h = input.in_order h.writes

-- The capture has no more bytes.
abbrev pub ended : History → Bool
ended h = input.ended h.reads

-- A read that answers no number failed.
abbrev pub gave : Option ℕ → Bool
gave (Some n) = true
gave None = false

-- A read gave the start of this part of the window, or failed.
abbrev pub after_read : Option ℕ → List ℕ → History → History
after_read got part h = record { reads = input.after_read got part h.reads; writes = h.writes; failed = cond (gave got) h.failed true }

-- A write was handed this text, and took it or failed.
abbrev pub after_write : Bool → List ℕ → History → History
after_write taken text h = record { reads = h.reads; writes = text ∷ h.writes; failed = cond taken h.failed true }
