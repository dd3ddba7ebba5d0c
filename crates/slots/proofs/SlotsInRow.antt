-- A kind stands in front of the row of those behind it; what stands for none adds nothing.
use mathlib.Core.Path.{◌≡◌, refl}
use Prim.Native.Nat.{◌+◌}
use native.Mathlib.Omega.{arith}
use Rattle.std.proofs.Math.Option.{Option, none, some}
use Rattle.protocol.specs.Kinds.{Kind, Row}
use Rattle.protocol.specs.Layouts.{front, row_by}
use Rattle.slots.specs.SlotsInRow.{SlotsInRow}
use Rattle.slots.specs.Unflat.{slots_for, slots_in}

pub slots_in_row : SlotsInRow
unfolding row_by
slots_in_row A stands_for x xs = by (stands_for x) (row_by stands_for xs)
  where
    by : (o : Option Kind) (row : Row) → slots_in (front o row) ≡ slots_for o + slots_in row
    by none row = omega arith
    by (some kind) row = refl
