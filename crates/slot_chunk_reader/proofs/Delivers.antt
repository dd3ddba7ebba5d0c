-- The chunk of a Deliver is its last field, and the slots have the place of its data at 15, in version 2 at 16. Assumes nothing.
use mathlib.Core.Path.{◌≡◌, refl}
use mathlib.Core.List.{List, [], ◌∷◌}
use Prim.Native.Nat.{ℕ, ◌+◌, ◌-◌}
use lib.ListN.{get_or, take, drop}
use Rattle.protocol.specs.Fields.{Field, Fields}
use Rattle.protocol.specs.Fields as F
use Rattle.protocol.specs.Table.{table, row_in}
use Rattle.protocol.specs.declared.chunk.ChunkHeader.{ChunkHeader}
use Rattle.protocol.specs.declared.place.Place.{Place}
use Rattle.slots.specs.Flat.{flat_frame, padded}
use Rattle.chunk_reader.specs.Run.{WellFormed}
use Rattle.chunk_reader.proofs.Delivers.{ChunkStands, delivered}
use Rattle.slot_chunk_reader.specs.SlotRun.{ChunkThere, ChunkOfADeliver}
use Rattle.slot_chunk_reader.proofs.SlotRuns.{slot_run}

there : (s slots : List ℕ) (i : ℕ) (h : ChunkHeader) (p : Place) → ChunkStands s h p → (get_or slots i 0 ≡ p.at) × (get_or slots (i + 1) 0 ≡ p.len) → ChunkThere s slots i
there s slots i h p c (a, l) =
    let whole : WellFormed (take (48 + get_or slots (i + 1) 0) (drop (get_or slots i 0 - 48) s)) = rw (a, l) c.whole in
    record { header = rw a c.room; inside = rw (a, l) c.inside; whole = whole; opened = ((slot_run _).opens whole []).0 }

-- The two versions of a Deliver.
slots_1 : (f : Fields Place) (x : Field Place) (h : ChunkHeader) (p : Place) → f.key ≡ 0x0008 → f.version ≡ 1 → f.content ≡ x ∷ F.chunk h p ∷ [] → (get_or (flat_frame f) 15 0 ≡ p.at) × (get_or (flat_frame f) 16 0 ≡ p.len)
unfolding flat_frame padded row_in table
slots_1 f x h p k v c = rw (k, v, c) (refl, refl)

slots_2 : (f : Fields Place) (x y : Field Place) (h : ChunkHeader) (p : Place) → f.key ≡ 0x0008 → f.version ≡ 2 → f.content ≡ x ∷ y ∷ F.chunk h p ∷ [] → (get_or (flat_frame f) 16 0 ≡ p.at) × (get_or (flat_frame f) 17 0 ≡ p.len)
unfolding flat_frame padded row_in table
slots_2 f x y h p k v c = rw (k, v, c) (refl, refl)

pub chunk_of_a_deliver : ChunkOfADeliver
chunk_of_a_deliver s limit f b e k =
    let d = delivered s limit f b e k in (
      λ v. let (x, c) = d.first v in there s (flat_frame f) 15 _ _ c.stands (slots_1 f x _ _ k v c.fields),
      λ v. let (x, y, c) = d.second v in there s (flat_frame f) 16 _ _ c.stands (slots_2 f x y _ _ k v c.fields),
    )
