-- The numbers that a question is refused with (01 "Refusal numbers"): 6 to 11, which a field can have; of a message also 4 and 5.
use Rattle.std.specs.Prelude.{List, ℕ, ◌≤◌}
use Rattle.std.proofs.Math.Option.{Option}
use Rattle.protocol.specs.declared.kind.Element.{Element}
use Rattle.protocol.specs.declared.place.Place.{Place}
use Rattle.questions.specs.Questions.{Asked, found, refusal}
use Rattle.slot_questions.specs.Asked.{ask_element, ask_message}

-- A refusal has a number from `least` to 11.
abbrev pub NumberFrom : ℕ → {A : Type 0} → Asked A → Type 0
NumberFrom least (found a) = Unit
NumberFrom least (refusal n) = (least ≤ n) × (n ≤ 11)

-- For any arguments.
pub record QuestionNumbers : Type 0 where
  pub element : (shape : Option Element) (s : List ℕ) (count : ℕ) (p : Place) (i : ℕ) → NumberFrom 6 (ask_element shape s count p i)
  pub message : (slots s : List ℕ) (i : ℕ) → NumberFrom 4 (ask_message slots s i)
