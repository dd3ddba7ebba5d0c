-- What a host finds that asks for element 0, 1, 2 and so on of a list in a frame that was read: every one of them, and then refusal
-- 10. So a host that stops at the first refusal misses nothing.
use Rattle.std.specs.Prelude.{◌≡◌, List, [], ◌∷◌, ℕ, ◌<◌, ◌≤◌, get_or}
use Rattle.wire.specs.Integers.{Bytes}
use Rattle.protocol.specs.Fields.{Field, Fields}
use Rattle.protocol.specs.Kinds.{Kind, unsigned, signed, string, specification, list, chunk, Row, end, ◌·◌, element_row}
use Rattle.protocol.specs.Refusals.{value_not_admitted}
use Rattle.protocol.specs.Table.{row_of}
use Rattle.protocol.specs.declared.kind.Element.{Element}
use Rattle.protocol.specs.declared.kind.Element.TheVariants.{Message, FilteredMessage, PublishingId, PublishingError, Property, Name, CommandVersions, Broker, StreamMetadata, Statistic, BrokerReference}
use Rattle.protocol.specs.declared.place.Place.{Place}
use Rattle.rules.specs.Reading.{frame, read_frame}
use Rattle.rules.specs.Writing.{place_of}
use Rattle.questions.specs.Found.{Each, AllElements}
use Rattle.questions.specs.Questions.{found, refusal}
use Rattle.slots.specs.Flat.{flat_row, padded}
use Rattle.slot_questions.specs.Asked.{ask_element, shape_of}

-- The shape of each kind of element, as the host's header numbers them.
abbrev pub shape_number : Element → ℕ
shape_number Message = 1
shape_number FilteredMessage = 2
shape_number PublishingId = 3
shape_number PublishingError = 4
shape_number Property = 5
shape_number Name = 6
shape_number CommandVersions = 7
shape_number Broker = 8
shape_number StreamMetadata = 9
shape_number Statistic = 10
shape_number BrokerReference = 11

-- The elements of a list, each asked for with the list's shape, and flattened like a frame's fields.
pub record EveryElement (s : List ℕ) (k : Element) (count : ℕ) (p : Place) : Type 0 where
  pub all : AllElements s (element_row k) count p
  pub found_at : (i : ℕ) → i < count → ask_element (shape_of (shape_number k)) s count p i ≡ found (padded 8 (flat_row (element_row k) (get_or all.elements i [])))
  pub no_other : (i : ℕ) → count ≤ i → ask_element (shape_of (shape_number k)) s count p i ≡ refusal value_not_admitted

-- Every list has a shape, and by it every element is found: of a field that is a list, whose count and place are its three slots, and
-- of the lists in its elements.
unfoldable mutual
  pub FieldAsked : List ℕ → Kind → Field Place → Type 0
  FieldAsked s (unsigned n most) f = Unit
  FieldAsked s (signed n) f = Unit
  FieldAsked s (string form nullable) f = Unit
  FieldAsked s (specification admits_none) f = Unit
  FieldAsked s (list rule row) f =
      (k : Element) × (row ≡ element_row k) × (every : EveryElement s k f.number (place_of f.octets)) × Each (λ e. RowAsked s row e) every.all.elements
  FieldAsked s chunk f = Unit

  pub RowAsked : List ℕ → Row → List (Field Place) → Type 0
  RowAsked s end fs = Unit
  RowAsked s (kind · row) [] = Unit
  RowAsked s (kind · row) (f ∷ fs) = FieldAsked s kind f × RowAsked s row fs

abbrev pub EveryElementIsFound : Type 0
EveryElementIsFound =
    (s : List ℕ) (limit : ℕ) (f : Fields Place) → Bytes s → read_frame s limit ≡ frame f
    → RowAsked s (row_of f.key f.version) f.content
