-- A frame is what its content is read as: where reading stops tells the outcome, and the slots of every layout's fields have room.
-- Assumes nothing.
use mathlib.Core.Path.{◌≡◌, refl, ◌∙◌, ap, subst}
use mathlib.Core.List.{List, ◌∷◌, map}
use Prim.Native.Nat.{ℕ, ◌+◌, ◌≤◌}
use native.Mathlib.Omega.{arith}
use lib.Dec.{leb}
use lib.ListN.{length, take}
use lib.Seq.{take_all}
use borrow.Author.Tests.{leb-true}
use Rattle.protocol.specs.Decision.{Decision, layout, unlisted_key, unlisted_version, decide}
use Rattle.protocol.specs.Fields.{Field, over_places, further}
use Rattle.protocol.specs.Kinds.{Row}
use Rattle.protocol.specs.Table.{table, row_of}
use Rattle.protocol.specs.declared.place.Place.{Place}
use Rattle.rules.specs.Outcome.{Outcome, got, refused}
use Rattle.rules.specs.Reading.{Reading, frame, short, refusal, read_content, read_decided, read_layout, reading_of}
use Rattle.rules.proofs.Bounds.{Bounded, numbered, bounded_content}
use Rattle.rules.proofs.Listed.{row_passes}
use Rattle.std.specs.Prelude.{Ok, Err}
use Rattle.protocol.specs.Refusals.{number_of}
use Rattle.byte_strings.specs.Stops.{stop}
use Rattle.byte_strings.specs.Stops as stops
use Rattle.byte_strings.specs.declared.fault.Fault.{Fault}
use Rattle.byte_strings.proofs.Stops.{read_to, refused_at}
use Rattle.slots.specs.Flat.{flat_row, padded, flat_frame, slots_after}
use Rattle.slots.specs.Unflat.{slots_in}
use Rattle.slots.proofs.Overlaid.{padded_length}
use Rattle.slot_reading.specs.Reading.{content_slots}
use Rattle.slot_reading.proofs.RowSlots.{row_slots}
use Rattle.frame_reading.specs.Answer.{FrameRead, Frame, Refused, told}

-- The answer of a reader: what it tells, and what the slots hold afterwards.
abbrev pub Answers : Reading → List ℕ → FrameRead → List ℕ → Type 0
Answers reading old r new = (r ≡ told reading) × (new ≡ slots_after old reading)

pub answered : (x reading : Reading) (old : List ℕ) (r : FrameRead) (new : List ℕ) → x ≡ reading → Answers x old r new → Answers reading old r new
answered x reading old r new e a = subst (λ (y : Reading). Answers y old r new) e a

-- Every row of the table has room after the slots of key and version.
pub roomy : (k v : ℕ) → slots_in (row_of k v) ≤ 22
unfolding table
roomy k v = leb-true (slots_in (row_of k v)) 22 (row_passes (λ row. leb (slots_in row) 22) refl table k v refl)

-- The place of a refusal does not leave the frame.
pub place_inside : (k v : ℕ) (s : List ℕ) (n p : ℕ) → read_decided (decide k v) s ≡ refusal n p → p ≤ 8 + length s
unfolding read_decided read_layout
place_inside k v s n p e = subst (Within s) e (decided (decide k v))
  where
    Within : List ℕ → Reading → Type 0
    Within s (frame f) = Unit
    Within s (short m) = Unit
    Within s (refusal m q) = q ≤ 8 + length s

    content : (k v : ℕ) (o : Outcome (List (Field Place))) → Bounded s 0 o → Within s (reading_of k v o)
    content k v (got fs next) b = tt
    content k v (refused m q) b = let h = b.1 (omega arith) in omega (arith, h)

    decided : (d : Decision) → Within s (read_decided d s)
    decided (layout k v) = content k v (read_content (row_of k v) s) (bounded_content (row_of k v) s)
    decided unlisted_key = omega arith
    decided unlisted_version = omega arith

module _ (k v : ℕ) (s : List ℕ) (row : Row) (is_row : row ≡ row_of k v) where
  module _ (fault : Fault) (h : stops.told (Err fault) ≡ stop (read_content row s)) where
    -- What is refused is refused within the content.
    pub inside : fault.at ≤ length s
    inside = by (read_content row s) (bounded_content row s) (refused_at (read_content row s) fault h)
      where
        by : (o : Outcome (List (Field Place))) → Bounded s 0 o → o ≡ refused (number_of fault.refusal) fault.at → fault.at ≤ length s
        by (got fs next) b i = cc
        by (refused n p) b i = let j : p ≡ fault.at = cc in rw (← j) (b.1 (omega arith))

    pub content_refused : (old new : List ℕ) (r : FrameRead) → new ≡ content_slots k v row (read_content row s) old → r ≡ Refused (number_of fault.refusal) (8 + fault.at) → Answers (read_layout k v s) old r new
    unfolding read_layout
    content_refused old new r g t =
        let o = refused_at (read_content row s) fault h in
        rw (← is_row, o) (t, rw o at g)

  pub content_read : (last : ℕ) → stops.told (Ok last) ≡ stop (read_content row s) → (old new : List ℕ) → new ≡ content_slots k v row (read_content row s) old → Answers (read_layout k v s) old Frame new
  unfolding read_layout flat_frame
  content_read last h old new g =
      let o = read_to (read_content row s) last (numbered s 0 (read_content row s) (bounded_content row s)) h in
      let gs = map (over_places (further 8)) o.0 in
      let slots = k ∷ v ∷ flat_row row gs in
      let fits : length slots ≤ 24 = omega (arith, row_slots row gs, rw (← is_row) at (roomy k v)) in
      let all : take 24 (padded 24 slots) ≡ padded 24 slots = take_all 24 (padded 24 slots) (omega (arith, padded_length 24 slots fits)) in
      rw (← is_row, o.1) (refl, (rw (o.1, all) at g) ∙ ap (λ (r : Row). padded 24 (k ∷ v ∷ flat_row r gs)) is_row)
