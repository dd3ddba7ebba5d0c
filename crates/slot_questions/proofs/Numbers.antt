-- A question that the shape, key and version admit is refused with a field's number. Assumes nothing.
use mathlib.Core.Path.{◌≡◌, refl}
use mathlib.Core.List.{List}
use mathlib.Core.Option.{Option, none, some}
use Prim.Native.Nat.{ℕ}
use native.Mathlib.Omega.{arith}
use lib.Dec.{eqb}
use lib.ListN.{get_or}
use Rattle.protocol.specs.Fields.{Field}
use Rattle.protocol.specs.Kinds.{Row, element_row}
use Rattle.protocol.specs.declared.kind.Element.{Element}
use Rattle.protocol.specs.declared.place.Place.{Place}
use Rattle.rules.proofs.Bounds.{FieldNumber}
use Rattle.rules.proofs.Gives.{choice}
use Rattle.questions.specs.Answer.{flat_asked}
use Rattle.questions.specs.Questions.{Asked, found, refusal, element_at}
use Rattle.questions.proofs.Questions.{element_number, message_number}
use Rattle.slot_questions.specs.Asked.{ask_element, flat_message, message_from, ask_message}
use Rattle.slot_questions.specs.Numbers.{NumberFrom, QuestionNumbers}

flat_number : (row : Row) (a : Asked (List (Field Place))) → ((n : ℕ) → a ≡ refusal n → FieldNumber n) → NumberFrom 6 (flat_asked row a)
flat_number row (found fs) h = tt
flat_number row (refusal n) h = h n refl

element_numbers : (o : Option Element) (s : List ℕ) (count : ℕ) (p : Place) (i : ℕ) → NumberFrom 6 (ask_element o s count p i)
element_numbers none s count p i = (omega arith, omega arith)
element_numbers (some k) s count p i = flat_number (element_row k) (element_at (element_row k) s count p i) (element_number s p i (element_row k) count)

place_number : (a : Asked Place) → ((n : ℕ) → a ≡ refusal n → FieldNumber n) → NumberFrom 4 (flat_message a)
place_number (found p) h = tt
place_number (refusal n) h = let (least, most) = h n refl in (omega (arith, least), most)

message_numbers : (slots s : List ℕ) (i : ℕ) → NumberFrom 4 (ask_message slots s i)
message_numbers slots s i =
    choice (NumberFrom 4) (eqb (get_or slots 0 0) 8) _ _
    (λ _. choice (NumberFrom 4) (eqb (get_or slots 1 0) 1) _ _ (λ _. from 3)
    (λ _. choice (NumberFrom 4) (eqb (get_or slots 1 0) 2) _ _ (λ _. from 4) (λ _. (omega arith, omega arith))))
    (λ _. (omega arith, omega arith))
  where
    from : (at : ℕ) → NumberFrom 4 (message_from at slots s i)
    from at = place_number _ (message_number s _ i _ _)

pub question_numbers : QuestionNumbers
question_numbers = record { element = element_numbers; message = message_numbers }
