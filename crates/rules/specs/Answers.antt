-- Answers in 01's terms ("A refusal returns its number; 1 also returns the bytes needed"), and the numbers that can occur.
use Rattle.std.specs.Prelude.{◌≡◌, List, ◌⊎◌, ◌↔◌, ℕ, ◌≤◌}
use Rattle.std.proofs.Math.Option.{Option, none, some}
use Rattle.wire.specs.Integers.{Bytes}
use Rattle.protocol.specs.Fields.{Fields}
use Rattle.protocol.specs.Refusals as refusals
use Rattle.protocol.specs.declared.place.Place.{Place}
use Rattle.rules.specs.Reading.{Reading, frame, short, refusal, read_frame}
use Rattle.rules.specs.Writing.{Written, length, write_frame}
use Rattle.rules.specs.Writing as writing

-- A refusal: its number, and the bytes needed if it is 1.
pub record Refusal : Type 0 where
  pub number : ℕ
  pub needed : Option ℕ

abbrev pub numbered : ℕ → Refusal
numbered n = record { number = n; needed = none }

-- Fewer bytes are there than the frame needs.
abbrev pub needing : ℕ → Refusal
needing n = record { number = refusals.short; needed = some n }

-- The refusal that an answer is. An accepted one is none.
abbrev pub reading_refusal : Reading → Option Refusal
reading_refusal (frame f) = none
reading_refusal (short n) = some (needing n)
reading_refusal (refusal n place) = some (numbered n)

abbrev pub writing_refusal : Written → Option Refusal
writing_refusal (length n) = none
writing_refusal (writing.refusal n) = some (numbered n)

-- ---- The numbers

-- Something holds of the refusal, if there is one.
abbrev pub IfRefused : (Refusal → Type 0) → Option Refusal → Type 0
IfRefused P none = Unit
IfRefused P (some r) = P r

-- The bytes needed: Size + 4, or 4 where Size itself is cut.
abbrev pub Needs : Option ℕ → Type 0
Needs none = ⊥
Needs (some n) = (4 ≤ n) × (n ≤ 4294967299)

-- Reading gives 1 to 11, and the bytes needed exactly with 1.
pub record ReadingNumber (r : Refusal) : Type 0 where
  pub least : 1 ≤ r.number
  pub most : r.number ≤ 11
  pub needs : (r.number ≡ 1) ↔ Needs r.needed

-- Writing gives 2 or 4 to 12.
pub record WritingNumber (r : Refusal) : Type 0 where
  pub number : (r.number ≡ 2) ⊎ ((4 ≤ r.number) × (r.number ≤ 12))
  pub needs_none : r.needed ≡ none

pub record Numbers : Type 0 where
  pub reading : (s : List ℕ) (limit : ℕ) → Bytes s → IfRefused ReadingNumber (reading_refusal (read_frame s limit))
  pub writing : (f : Fields Place) (src : List ℕ) (limit : ℕ) (out : List ℕ) → IfRefused WritingNumber (writing_refusal (write_frame f src limit out).answer)
