-- What the answers to questions say, in the terms of the rules.
use Rattle.std.specs.Prelude.{List, ℕ, Result, Ok, Err}
use Rattle.protocol.specs.Fields.{Field}
use Rattle.protocol.specs.Kinds.{Row}
use Rattle.protocol.specs.declared.place.Place.{Place}
use Rattle.protocol.specs.Refusals.{number_of}
use Rattle.protocol.specs.declared.refusal.Refusal.{Refusal}
use Rattle.slots.specs.Flat.{flat_element}
use Rattle.questions.specs.Questions.{Asked, found, refusal}

-- An element as its slots.
abbrev pub flat_asked : Row → Asked (List (Field Place)) → Asked (List ℕ)
flat_asked row (found fs) = found (flat_element row fs)
flat_asked row (refusal n) = refusal n

-- The slots afterwards: a refusal leaves them as they were.
abbrev pub asked_slots : List ℕ → Asked (List ℕ) → List ℕ
asked_slots old (found slots) = slots
asked_slots old (refusal n) = old

-- The message's place, or the refusal's number.
abbrev pub place_answer : Result Place Refusal → Asked Place
place_answer (Ok p) = found p
place_answer (Err r) = refusal (number_of r)
