-- What the slots of a frame stand for, told from the slots alone, as the host's header describes them: the bytes that they are
-- written as, and when two arrays of slots stand for the same fields. Nothing here makes a typed field of a slot.
use Rattle.std.specs.Prelude.{◌≡◌, cond, List, [], ◌++◌, ℕ, ◌-◌, ◌+◌, ◌^◌, ◌<◌, ◌≤◌, eqb, leb, length, take, drop}
use Rattle.wire.specs.Integers.{digits}
use Rattle.protocol.specs.Kinds.{length_width, Kind, unsigned, signed, string, specification, list, chunk, Row, end, ◌·◌}
use Rattle.protocol.specs.Table.{row_of}
use Rattle.slots.specs.Flat.{null_length}
use Rattle.slots.specs.Unflat.{slot, slots_of}

-- Every slot is a number of 64 bits.
unfoldable pub Words : List ℕ → Type 0
Words x = (i : ℕ) → slot x i < 256 ^ 8

-- The bytes of a buffer that a place and a length tell.
abbrev pub part_of : List ℕ → ℕ → ℕ → List ℕ
part_of b at len = take len (drop at b)

-- ---- The bytes that slots are written as

-- A text or byte string: its length, then its bytes. The length of a null is written with all bits 1.
abbrev pub bytes_of_string : ℕ → ℕ → ℕ → List ℕ → List ℕ
bytes_of_string n at len b = cond (eqb len null_length) (digits n (256 ^ n - 1)) (digits n len ++ part_of b at len)

-- An offset specification: its type, and for types 4 and 5 its value.
abbrev pub bytes_of_offset : ℕ → ℕ → List ℕ
bytes_of_offset type value = digits 2 type ++ cond (leb 4 type) (digits 8 value) []

-- The twelve numbers of a chunk's header, in 48 bytes.
abbrev pub bytes_of_header : List ℕ → List ℕ
bytes_of_header x =
    digits 1 (slot x 0)
    ++ (digits 1 (slot x 1)
    ++ (digits 2 (slot x 2)
    ++ (digits 4 (slot x 3)
    ++ (digits 8 (slot x 4)
    ++ (digits 8 (slot x 5)
    ++ (digits 8 (slot x 6)
    ++ (digits 4 (slot x 7)
    ++ (digits 4 (slot x 8)
    ++ (digits 4 (slot x 9)
    ++ (digits 1 (slot x 10)
    ++ digits 3 (slot x 11)))))))))))

-- The field whose slots stand first in x, and whose places are in b.
abbrev pub bytes_of_field : Kind → List ℕ → List ℕ → List ℕ
bytes_of_field (unsigned n most) x b = digits n (slot x 0)
bytes_of_field (signed n) x b = digits n (slot x 0)
bytes_of_field (string form nullable) x b = bytes_of_string (length_width form) (slot x 0) (slot x 1) b
bytes_of_field (specification admits_none) x b = bytes_of_offset (slot x 0) (slot x 1)
bytes_of_field (list rule row) x b = digits 4 (slot x 0) ++ part_of b (slot x 1) (slot x 2)
bytes_of_field chunk x b = bytes_of_header x ++ part_of b (slot x 12) (slot x 13)

abbrev pub bytes_of_row : Row → List ℕ → List ℕ → List ℕ
bytes_of_row end x b = []
bytes_of_row (kind · row) x b = bytes_of_field kind x b ++ bytes_of_row row (drop (slots_of kind) x) b

-- A frame's content, and the frame: Size, key, version, content.
abbrev pub content_of_slots : List ℕ → List ℕ → List ℕ
content_of_slots x b = bytes_of_row (row_of (slot x 0) (slot x 1)) (drop 2 x) b

unfoldable pub frame_of_slots : List ℕ → List ℕ → List ℕ
frame_of_slots x b = digits 4 (4 + length (content_of_slots x b)) ++ (digits 2 (slot x 0) ++ (digits 2 (slot x 1) ++ content_of_slots x b))

-- ---- Slots that stand for the same fields

-- The same bytes at two places: as many, and each the same.
pub record SamePart (at len : ℕ) (b : List ℕ) (at' len' : ℕ) (c : List ℕ) : Type 0 where
  pub length : len ≡ len'
  pub bytes : part_of b at len ≡ part_of c at' len'

-- Both are null, or neither is and their bytes are the same. The place of a null does not count.
pub record SameString (at len : ℕ) (b : List ℕ) (at' len' : ℕ) (c : List ℕ) : Type 0 where
  pub length : len ≡ len'
  pub bytes : (len ≡ null_length → ⊥) → part_of b at len ≡ part_of c at' len'

-- The same type, and the same value where the type has one.
pub record SameOffset (t v t' v' : ℕ) : Type 0 where
  pub type : t ≡ t'
  pub value : 4 ≤ t → v ≡ v'

-- The same twelve numbers, and the same data.
pub record SameChunk (x b y c : List ℕ) : Type 0 where
  pub header : (i : ℕ) → i < 12 → slot x i ≡ slot y i
  pub content : SamePart (slot x 12) (slot x 13) b (slot y 12) (slot y 13) c

-- The fields whose slots stand first: in x, with places in b, and in y, with places in c.
abbrev pub SameField : Kind → List ℕ → List ℕ → List ℕ → List ℕ → Type 0
SameField (unsigned n most) x b y c = slot x 0 ≡ slot y 0
SameField (signed n) x b y c = slot x 0 ≡ slot y 0
SameField (string form nullable) x b y c = SameString (slot x 0) (slot x 1) b (slot y 0) (slot y 1) c
SameField (specification admits_none) x b y c = SameOffset (slot x 0) (slot x 1) (slot y 0) (slot y 1)
SameField (list rule row) x b y c = (slot x 0 ≡ slot y 0) × SamePart (slot x 1) (slot x 2) b (slot y 1) (slot y 2) c
SameField chunk x b y c = SameChunk x b y c

abbrev pub SameRow : Row → List ℕ → List ℕ → List ℕ → List ℕ → Type 0
SameRow end x b y c = Unit
SameRow (kind · row) x b y c = SameField kind x b y c × SameRow row (drop (slots_of kind) x) b (drop (slots_of kind) y) c

-- The same key and version, and the same fields of their row.
pub record SameFrame (x b y c : List ℕ) : Type 0 where
  pub key : slot x 0 ≡ slot y 0
  pub version : slot x 1 ≡ slot y 1
  pub content : SameRow (row_of (slot x 0) (slot x 1)) (drop 2 x) b (drop 2 y) c

-- ---- Slots that say nothing

-- The place of a null is 0, and so is the value of an offset specification of type 0 to 3.
abbrev pub ZeroField : Kind → List ℕ → Type 0
ZeroField (unsigned n most) x = Unit
ZeroField (signed n) x = Unit
ZeroField (string form nullable) x = slot x 1 ≡ null_length → slot x 0 ≡ 0
ZeroField (specification admits_none) x = slot x 0 < 4 → slot x 1 ≡ 0
ZeroField (list rule row) x = Unit
ZeroField chunk x = Unit

-- So are all slots after those of the last field.
abbrev pub ZeroRow : Row → List ℕ → Type 0
ZeroRow end x = (i : ℕ) → slot x i ≡ 0
ZeroRow (kind · row) x = ZeroField kind x × ZeroRow row (drop (slots_of kind) x)
