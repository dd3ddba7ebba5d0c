-- Slots that are filled in wire order.
use Rattle.std.specs.Prelude.{cond, List, ℕ, ◌+◌, leb, length}
use Rattle.wire.specs.Buffer.{splice}
use Rattle.slots.specs.Flat.{padded}
use Rattle.slot_builder.specs.declared.Builder.{Builder}

-- The first slots hold these numbers.
unfoldable pub started : List ℕ → Builder
started xs = record { slots = padded 24 xs; used = length xs }

-- Numbers after those that are there. Where there is no room for all, none is put.
unfoldable pub appended : Builder → List ℕ → Builder
appended b xs = cond (leb (b.used + length xs) 24) (record { slots = splice b.slots b.used xs; used = b.used + length xs }) b
