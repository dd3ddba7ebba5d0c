-- What questions find in a frame that was read: every element of its lists and every message of its chunk, and nothing else. So
-- whoever asks for index 0, 1, 2 and so on up to the first refusal has all of it.
use Rattle.std.specs.Prelude.{◌≡◌, true, cond, List, [], ◌∷◌, ◌++◌, map, ℕ, ◌<◌, ◌≤◌, length, get_or}
use Rattle.wire.specs.Integers.{Bytes, digits}
use Rattle.protocol.specs.Fields.{Field, Fields, number, place, bytes_at, value_in}
use Rattle.protocol.specs.Kinds.{Kind, unsigned, signed, string, specification, list, chunk, Row, end, ◌·◌}
use Rattle.protocol.specs.Refusals.{value_not_admitted}
use Rattle.protocol.specs.Table.{row_of}
use Rattle.protocol.specs.declared.chunk.ChunkHeader.{ChunkHeader}
use Rattle.protocol.specs.declared.place.Place.{Place}
use Rattle.rules.specs.Grammar.{encode_row, ValidRow}
use Rattle.rules.specs.Reading.{has_entries, frame, read_frame}
use Rattle.rules.specs.Writing.{place_of}
use Rattle.parts.specs.Parts.{text_of}
use Rattle.questions.specs.Questions.{found, refusal, element_at, message_at, field_part, message_part}

-- Something holds of each of a list.
abbrev pub Each : {A : Type 0} → (A → Type 0) → List A → Type 0
Each P [] = Unit
Each P (a ∷ more) = P a × Each P more

-- The encodings of elements, one after another.
abbrev pub encode_elements : Row → List ℕ → List (List (Field Place)) → List ℕ
encode_elements row s [] = []
encode_elements row s (e ∷ es) = encode_row row (map (value_in s) e) ++ encode_elements row s es

-- The bytes of the value at an index of a row of values; none if it has no bytes, or if there is no such value.
abbrev pub octets_of : ℕ → List (Field (List ℕ)) → List ℕ
octets_of n vs = text_of (get_or vs n (number 0)).octets

-- A list's elements: as many as its count, each well formed and found at its index, none at another; and encoded one after
-- another they are the bytes at the list's place. The part that is handed out for field n of an element is the bytes of the
-- value that is encoded there. At another index it is empty.
pub record AllElements (s : List ℕ) (row : Row) (count : ℕ) (p : Place) : Type 0 where
  pub elements : List (List (Field Place))
  pub as_many : length elements ≡ count
  pub found_at : (i : ℕ) → i < count → element_at row s count p i ≡ found (get_or elements i [])
  pub no_other : (i : ℕ) → count ≤ i → element_at row s count p i ≡ refusal value_not_admitted
  pub valid : Each (λ e. ValidRow row (map (value_in s) e)) elements
  pub bytes : encode_elements row s elements ≡ bytes_at s p
  pub parts : (n i : ℕ) → i < count → field_part n s (element_at row s count p i) ≡ octets_of n (map (value_in s) (get_or elements i []))
  pub no_part : (n i : ℕ) → count ≤ i → field_part n s (element_at row s count p i) ≡ []

-- Messages as a chunk of type 0 has them: each after the four bytes of its size.
abbrev pub encode_entries : List (List ℕ) → List ℕ
encode_entries [] = []
encode_entries (m ∷ ms) = (digits 4 (length m) ++ m) ++ encode_entries ms

-- How many messages a chunk has: its entries, or none if it is of type 1 or 2.
abbrev pub message_count : ChunkHeader → ℕ
message_count h = cond (has_entries h.chunk_type) h.entries 0

-- A chunk's messages: as many as the header says, each found at its index, none at another; and as entries of type 0, one after
-- another, they are the bytes at the data's place. The part that is handed out for a message is its bytes. At another index it is
-- empty.
pub record AllMessages (s : List ℕ) (h : ChunkHeader) (p : Place) : Type 0 where
  pub messages : List Place
  pub as_many : length messages ≡ message_count h
  pub found_at : (i : ℕ) → i < message_count h → message_at s h p i ≡ found (get_or messages i (place 0 0))
  pub no_other : (i : ℕ) → message_count h ≤ i → message_at s h p i ≡ refusal value_not_admitted
  pub bytes : has_entries h.chunk_type ≡ true → encode_entries (map (bytes_at s) messages) ≡ bytes_at s p
  pub parts : (i : ℕ) → i < message_count h → message_part s (message_at s h p i) ≡ bytes_at s (get_or messages i (place 0 0))
  pub no_part : (i : ℕ) → message_count h ≤ i → message_part s (message_at s h p i) ≡ []

-- All that can be asked for of a field, and of what is found in it, is found.
unfoldable mutual
  pub FieldFound : List ℕ → Kind → Field Place → Type 0
  FieldFound s (unsigned n most) f = Unit
  FieldFound s (signed n) f = Unit
  FieldFound s (string form nullable) f = Unit
  FieldFound s (specification admits_none) f = Unit
  FieldFound s (list rule row) f =
      (all : AllElements s row f.number (place_of f.octets)) × Each (λ e. RowFound s row e) all.elements
  FieldFound s chunk f = AllMessages s f.header (place_of f.octets)

  pub RowFound : List ℕ → Row → List (Field Place) → Type 0
  RowFound s end fs = Unit
  RowFound s (kind · row) [] = Unit
  RowFound s (kind · row) (f ∷ fs) = FieldFound s kind f × RowFound s row fs

-- In a frame that was read, everything is found.
abbrev pub EverythingIsFound : Type 0
EverythingIsFound =
    (s : List ℕ) (limit : ℕ) (f : Fields Place) → Bytes s → read_frame s limit ≡ frame f
    → RowFound s (row_of f.key f.version) f.content
