-- What the host's questions are answered: the slots of an element or of a message, or a refusal.
use Rattle.std.specs.Prelude.{cond, List, ℕ, ◌+◌, eqb, ltb, get_or}
use Rattle.std.proofs.Math.Option.{Option, none, some}
use Rattle.wire.specs.Signed as two's
use Rattle.protocol.specs.Fields.{place}
use Rattle.protocol.specs.Kinds.{element_row}
use Rattle.protocol.specs.Refusals.{unknown_key, unknown_version, value_not_admitted}
use Rattle.protocol.specs.declared.kind.Element.{Element}
use Rattle.protocol.specs.declared.kind.Element.TheVariants.{Message, FilteredMessage, PublishingId, PublishingError, Property, Name, CommandVersions, Broker, StreamMetadata, Statistic, BrokerReference}
use Rattle.protocol.specs.declared.place.Place.{Place}
use Rattle.questions.specs.Answer.{flat_asked}
use Rattle.questions.specs.Questions.{Asked, found, refusal, element_at, message_of}
use Rattle.slots.specs.Flat.{flat_place, padded}

-- The numbers that stand for the kinds of element.
abbrev pub shape_of : ℕ → Option Element
shape_of n =
    cond (eqb n 1) (some Message)
    (cond (eqb n 2) (some FilteredMessage)
    (cond (eqb n 3) (some PublishingId)
    (cond (eqb n 4) (some PublishingError)
    (cond (eqb n 5) (some Property)
    (cond (eqb n 6) (some Name)
    (cond (eqb n 7) (some CommandVersions)
    (cond (eqb n 8) (some Broker)
    (cond (eqb n 9) (some StreamMetadata)
    (cond (eqb n 10) (some Statistic)
    (cond (eqb n 11) (some BrokerReference)
    none))))))))))

-- An element of a list. A number that stands for no kind is refused with 10, first.
abbrev pub ask_element : Option Element → List ℕ → ℕ → Place → ℕ → Asked (List ℕ)
ask_element none s count p index = refusal value_not_admitted
ask_element (some kind) s count p index = flat_asked (element_row kind) (element_at (element_row kind) s count p index)

-- The entry count that a slot tells. No chunk has as many entries as a count that is too wide for its field, so no index is below
-- it (10).
abbrev pub asked_entries : ℕ → ℕ
asked_entries entries = cond (ltb 0xffff entries) 0 entries

abbrev pub flat_message : Asked Place → Asked (List ℕ)
flat_message (found p) = found (padded 8 (flat_place p))
flat_message (refusal n) = refusal n

-- The message at an index of the chunk whose fourteen slots start at `at`.
abbrev pub message_from : ℕ → List ℕ → List ℕ → ℕ → Asked (List ℕ)
message_from at slots s index =
    flat_message (message_of s (two's.signed 8 (get_or slots (at + 1) 0)) (asked_entries (get_or slots (at + 2) 0)) (place (get_or slots (at + 12) 0) (get_or slots (at + 13) 0)) index)

-- A message of a flat Deliver. Another key is refused with 4, another version with 5, first.
abbrev pub ask_message : List ℕ → List ℕ → ℕ → Asked (List ℕ)
ask_message slots s index =
    cond (eqb (get_or slots 0 0) 0x0008)
    (cond (eqb (get_or slots 1 0) 1) (message_from 3 slots s index)
    (cond (eqb (get_or slots 1 0) 2) (message_from 4 slots s index)
    (refusal unknown_version)))
    (refusal unknown_key)
