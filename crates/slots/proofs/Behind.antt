-- Every slot behind a place is below a bound of all slots. Assumes nothing.
use Prim.Native.Nat.{ℕ, ◌+◌, ◌<◌}
use mathlib.Core.List.{List}
use lib.ListN.{get_or, drop}
use lib.Seq.{get_or-drop}

pub slot_below : (l : List ℕ) (at i b : ℕ) → ((j : ℕ) → get_or l j 0 < b) → get_or (drop at l) i 0 < b
slot_below l at i b h = rw (get_or-drop at l i 0) (h (at + i))
