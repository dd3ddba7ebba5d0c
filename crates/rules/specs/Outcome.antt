-- What reading something gives, and how one check follows another (01 "Which check comes first").
use Rattle.std.specs.Prelude.{Bool, true, false, List, ℕ, zero, suc}

-- What was read, and the place behind it; or a refusal's number, and the place that is at fault.
pub data Outcome (A : Type 0) : Type 0 where
  got : A → ℕ → Outcome A
  refused : ℕ → ℕ → Outcome A

-- One thing is read and then the next, from the place behind it. The first refusal is the answer.
abbrev pub then : {A B : Type 0} → Outcome A → (A → ℕ → Outcome B) → Outcome B
then (got a next) f = f a next
then (refused n at) f = refused n at

-- A check: where it fails, the refusal with this number at this place is the answer.
abbrev pub refuse_if : {A : Type 0} → Bool → ℕ → ℕ → Outcome A → Outcome A
refuse_if true n at rest = refused n at
refuse_if false n at rest = rest

-- The same thing n times over, one behind another.
unfoldable pub repeated : {A : Type 0} → (List ℕ → ℕ → Outcome A) → ℕ → List ℕ → ℕ → Outcome Unit
repeated read zero s at = got tt at
repeated read (suc n) s at = then (read s at) (λ a next. repeated read n s next)

-- What was read, as something else.
abbrev pub mapped : {A B : Type 0} → (A → B) → Outcome A → Outcome B
mapped f (got a next) = got (f a) next
mapped f (refused n at) = refused n at
