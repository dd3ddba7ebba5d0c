-- What the kinds of field in the code are, which one a number stands for, and the row of several, one after another.
use Rattle.std.specs.Prelude.{Bool, true, false, ◌||◌, List, [], ◌∷◌, ℕ, ◌-◌, ◌^◌, eqb, get_or, Some, None}
use Rattle.std.specs.declared.option.Option as code
use Rattle.std.proofs.Math.Option.{Option, none, some}
use Rattle.protocol.specs.Kinds.{Kind, Row, end, ◌·◌, list, plain, chunk, u8, u16, u32, u64, i64, active, T, T?, R, R?, B, B?, spec, spec₀, element_row, unsigned, string, specification, list_of}
use Rattle.wire.specs.Integers.{width_of}
use Rattle.protocol.specs.declared.kind.Element.{Element}
use Rattle.protocol.specs.declared.kind.Element.TheVariants.{Message, FilteredMessage, PublishingId, PublishingError, Property, Name, CommandVersions, Broker, StreamMetadata, Statistic, BrokerReference}
use Rattle.protocol.specs.declared.kind.FieldKind.{FieldKind}
use Rattle.protocol.specs.declared.kind.FieldKind.TheVariants.{Number, Active, Signed, String, Specification, List as Listed, Chunk}

-- What a kind in the code is.
abbrev pub kind_of : FieldKind → Kind
kind_of (Number width) = unsigned (width_of width) (256 ^ width_of width - 1)
kind_of Active = active
kind_of Signed = i64
kind_of (String form nullable) = string form nullable
kind_of (Specification admits_none) = specification admits_none
kind_of (Listed k) = list_of k
kind_of Chunk = chunk

-- The same where there may be none.
abbrev pub kind_said : code.Option FieldKind → Option Kind
kind_said None = none
kind_said (Some kind) = some (kind_of kind)

-- A kind stands for itself.
abbrev pub own_kind : FieldKind → Option Kind
own_kind kind = some (kind_of kind)

-- The kinds by their numbers, which are the library's own and stand in no frame. 0 is no kind's; from 16 on they are the lists.
unfoldable pub kinds : List (Option Kind)
kinds =
    none
    ∷ some u8
    ∷ some u16
    ∷ some u32
    ∷ some u64
    ∷ some i64
    ∷ some active
    ∷ some T
    ∷ some R
    ∷ some B
    ∷ some T?
    ∷ some R?
    ∷ some B?
    ∷ some spec
    ∷ some spec₀
    ∷ some chunk
    ∷ some (list plain (element_row Message))
    ∷ some (list plain (element_row FilteredMessage))
    ∷ some (list plain (element_row PublishingId))
    ∷ some (list plain (element_row PublishingError))
    ∷ some (list plain (element_row Property))
    ∷ some (list plain (element_row Name))
    ∷ some (list plain (element_row CommandVersions))
    ∷ some (list plain (element_row Broker))
    ∷ some (list plain (element_row StreamMetadata))
    ∷ some (list plain (element_row Statistic))
    ∷ some (list plain (element_row BrokerReference))
    ∷ []

-- The kind that a number stands for.
abbrev pub kind_numbered : ℕ → Option Kind
kind_numbered n = get_or kinds n none

-- A kind in front of a row.
abbrev pub front : Option Kind → Row → Row
front none row = row
front (some kind) row = kind · row

-- The row of what stands for kinds. What stands for none is passed over.
unfoldable pub row_by : {A : Type 0} → (A → Option Kind) → List A → Row
row_by stands_for [] = end
row_by stands_for (x ∷ xs) = front (stands_for x) (row_by stands_for xs)

-- The row of a layout, and of a list's element.
abbrev pub row_from : List FieldKind → Row
row_from fields = row_by own_kind fields

-- The one kind of list that stands in an element: [u16].
abbrev pub is_of_numbers : Element → Bool
is_of_numbers Message = false
is_of_numbers FilteredMessage = false
is_of_numbers PublishingId = false
is_of_numbers PublishingError = false
is_of_numbers Property = false
is_of_numbers Name = false
is_of_numbers CommandVersions = false
is_of_numbers Broker = false
is_of_numbers StreamMetadata = false
is_of_numbers Statistic = false
is_of_numbers BrokerReference = true

-- Of all kinds, elements have numbers, text and bytes, and [u16].
abbrev pub is_in_elements : FieldKind → Bool
is_in_elements (Number width) = true
is_in_elements Active = false
is_in_elements Signed = true
is_in_elements (String form nullable) = true
is_in_elements (Specification admits_none) = false
is_in_elements (Listed k) = is_of_numbers k.element
is_in_elements Chunk = false

abbrev pub among : ℕ → List ℕ → Bool
among k [] = false
among k (j ∷ ks) = eqb k j || among k ks
