-- What a call can ask of an id, and how a call can be answered.
use Rattle.std.specs.Prelude.{ℕ}
use Rattle.std.proofs.Math.Option.{Option, none, some}

-- Open the id with a balance, add n to its balance, take n from it (refusal k where it has less), or close it.
pub data Op : Type 0 where
  start : ℕ → Op
  add : ℕ → Op
  take : (n k : ℕ) → Op
  stop : Op

-- The id that a call is for, and what it asks of it; or that it is for no id.
pub data Purpose : Type 0 where
  for_none : Purpose
  for_id : ℕ → Op → Purpose

-- What a call hands back beside the ledger: Y is what an accepted one can hand back, R what a refused one can.
pub data Answer (Y R : Type 0) : Type 0 where
  accepted : Y → Answer Y R
  refused : R → Answer Y R

abbrev pub Accepted : {Y R : Type 0} → Answer Y R → Type 0
Accepted (accepted y) = Unit
Accepted (refused r) = ⊥

-- The answer, where this refusal or none is given.
abbrev pub answer_by : {Y R : Type 0} → (ℕ → R) → Option ℕ → Y → Answer Y R
answer_by refusing none y = accepted y
answer_by refusing (some n) y = refused (refusing n)
