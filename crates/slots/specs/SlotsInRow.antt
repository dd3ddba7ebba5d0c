-- The slots of a row are those of what stands for its fields, together: what is no kind takes none.
use Rattle.std.specs.Prelude.{◌≡◌, List, ◌∷◌, ◌+◌}
use Rattle.std.proofs.Math.Option.{Option}
use Rattle.protocol.specs.Kinds.{Kind}
use Rattle.protocol.specs.Layouts.{row_by}
use Rattle.slots.specs.Unflat.{slots_for, slots_in}

abbrev pub SlotsInRow : Type 1
SlotsInRow = (A : Type 0) (stands_for : A → Option Kind) (x : A) (xs : List A) → slots_in (row_by stands_for (x ∷ xs)) ≡ slots_for (stands_for x) + slots_in (row_by stands_for xs)
