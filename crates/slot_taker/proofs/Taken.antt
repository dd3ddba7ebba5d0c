-- Taking a slot drops it, so the k-th that is taken is slot k of what was there. Assumes nothing.
use mathlib.Core.Path.{◌≡◌, ◌∙◌, ap}
use mathlib.Core.List.{List}
use Prim.Native.Nat.{ℕ, ◌+◌}
use native.Mathlib.Omega.{arith}
use lib.ListN.{drop}
use lib.Seq.{drop-drop, get_or-drop}
use Rattle.protocol.specs.Fields.{place}
use Rattle.protocol.specs.Fields as F
use Rattle.protocol.specs.declared.chunk.ChunkHeader.{ChunkHeader}
use Rattle.protocol.specs.declared.place.Place.{Place}
use Rattle.slots.specs.Unflat.{slot}
use Rattle.slot_taker.specs.Typed.{typed_header}

-- After k slots: the next one, and what follows it.
pub nth : (k : ℕ) (l m : List ℕ) → m ≡ drop k l → slot m 0 ≡ slot l k
nth k l m e = let z : k + 0 ≡ k = omega arith in rw (e) (rw z at (get_or-drop k l 0 0))

pub next : (k : ℕ) (l m n : List ℕ) → m ≡ drop k l → n ≡ drop 1 m → n ≡ drop (k + 1) l
next k l m n e f = f ∙ ap (drop 1) e ∙ drop-drop 1 k l

-- A chunk's header takes twelve slots, and the place of its data the next two.
pub header_and_place : (l m n : List ℕ) (h : ChunkHeader) (p : Place)
    → h ≡ typed_header l → p ≡ place (slot m 0) (slot m 1) → m ≡ drop 12 l → n ≡ drop 2 m
    → (F.chunk h p ≡ F.chunk (typed_header l) (place (slot l 12) (slot l 13))) × (n ≡ drop 14 l)
header_and_place l m n h p a b e f =
    (rw (a, b, e, get_or-drop 12 l 0 0, get_or-drop 12 l 1 0), f ∙ ap (drop 2) e ∙ drop-drop 2 12 l)
