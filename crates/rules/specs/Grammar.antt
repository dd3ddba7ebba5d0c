-- What is well formed, and how it is encoded (01 "Numbers and text on the wire", "Frame and keys", "Chunks"): the wire's
-- grammar, which knows nothing of reading. A value is a field that holds the bytes themselves.
use Rattle.std.specs.Prelude.{◌≡◌, Bool, true, List, [], ◌∷◌, ◌++◌, ◌⊎◌, ℕ, zero, suc, ◌+◌, ◌-◌, ◌/◌, ◌^◌, ◌≤◌, ◌<◌, pos, length}
use Rattle.std.proofs.Math.Option.{Option, none, some}
use Rattle.wire.specs.Integers.{digits}
use Rattle.wire.specs.Signed as two's
use Rattle.utf8_text.specs.Utf8.{utf8}
use Rattle.protocol.specs.Decision.{layout, decide}
use Rattle.protocol.specs.Fields.{Field, Fields, number, integer, elements}
use Rattle.protocol.specs.Fields as F
use Rattle.protocol.specs.Kinds.{length_width, Kind, unsigned, signed, string, specification, list, chunk, Row, end, ◌·◌}
use Rattle.protocol.specs.Table.{row_of}
use Rattle.protocol.specs.declared.chunk.ChunkHeader.{ChunkHeader}
use Rattle.protocol.specs.declared.kind.Form.{Form}
use Rattle.protocol.specs.declared.kind.Form.TheVariants.{Text, Reference, Bytes}
use Rattle.protocol.specs.declared.offset.OffsetSpecification.{OffsetSpecification}
use Rattle.protocol.specs.declared.offset.OffsetSpecification.TheVariants.{None, First, Last, Next, Offset, Timestamp}

abbrev pub Value : Type 0
Value = Field (List ℕ)

-- ---- Encoding

-- Length -1 means null: all bits are 1.
abbrev pub encode_string : ℕ → Option (List ℕ) → List ℕ
encode_string n none = digits n (256 ^ n - 1)
encode_string n (some b) = digits n (length b) ++ b

abbrev pub encode_offset : OffsetSpecification → List ℕ
encode_offset None = digits 2 0
encode_offset First = digits 2 1
encode_offset Last = digits 2 2
encode_offset Next = digits 2 3
encode_offset (Offset x) = digits 2 4 ++ digits 8 x
encode_offset (Timestamp z) = digits 2 5 ++ digits 8 (two's.unsigned 8 z)

-- 48 bytes.
abbrev pub encode_header : ChunkHeader → List ℕ
encode_header h =
    digits 1 (two's.unsigned 1 h.magic)
    ++ (digits 1 (two's.unsigned 1 h.chunk_type)
    ++ (digits 2 h.entries
    ++ (digits 4 h.records
    ++ (digits 8 (two's.unsigned 8 h.timestamp)
    ++ (digits 8 h.epoch
    ++ (digits 8 h.first_offset
    ++ (digits 4 (two's.unsigned 4 h.checksum)
    ++ (digits 4 h.data_length
    ++ (digits 4 h.trailer_length
    ++ (digits 1 h.bloom_size
    ++ digits 3 h.reserved))))))))))

-- The bytes of a list's elements or of a chunk's data.
abbrev pub body : Option (List ℕ) → List ℕ
body none = []
body (some b) = b

abbrev pub encode : Kind → Value → List ℕ
encode (unsigned n most) v = digits n v.number
encode (signed n) v = digits n (two's.unsigned n v.integer)
encode (string form nullable) v = encode_string (length_width form) v.octets
encode (specification admits_none) v = encode_offset v.offset
encode (list rule row) v = digits 4 v.number ++ body v.octets
encode chunk v = encode_header v.header ++ body v.octets

abbrev pub encode_row : Row → List Value → List ℕ
encode_row end vs = []
encode_row (kind · row) [] = []
encode_row (kind · row) (v ∷ vs) = encode kind v ++ encode_row row vs

-- Size leaves out its own four bytes.
abbrev pub size_of : Fields (List ℕ) → ℕ
size_of f = 4 + length (encode_row (row_of f.key f.version) f.content)

-- Size, key, version, content.
abbrev pub encode_frame : Fields (List ℕ) → List ℕ
encode_frame f =
    digits 4 (size_of f) ++ (digits 2 f.key ++ (digits 2 f.version ++ encode_row (row_of f.key f.version) f.content))

-- ---- Well formed

-- n pieces, one behind another, each of which has a property.
abbrev pub Pieces : (List ℕ → Type 0) → ℕ → List ℕ → Type 0
Pieces P zero b = b ≡ []
Pieces P (suc n) b = (a : List ℕ) × (c : List ℕ) × P a × (b ≡ a ++ c) × Pieces P n c

-- A length fits its int16 or int32.
abbrev pub Length : ℕ → ℕ → Type 0
Length n len = len < 256 ^ n / 2

-- Text is UTF-8; a reference is text of at most 256 bytes.
abbrev pub ValidBytes : Form → List ℕ → Type 0
ValidBytes Text b = utf8 b ≡ true
ValidBytes Reference b = (length b ≤ 256) × (utf8 b ≡ true)
ValidBytes Bytes b = Unit

-- Null is admitted only where it is written.
abbrev pub ValidString : Form → Bool → Option (List ℕ) → Type 0
ValidString form nullable none = nullable ≡ true
ValidString form nullable (some b) = Length (length_width form) (length b) × ValidBytes form b

abbrev pub ValidOffset : Bool → OffsetSpecification → Type 0
ValidOffset admits_none None = admits_none ≡ true
ValidOffset admits_none First = Unit
ValidOffset admits_none Last = Unit
ValidOffset admits_none Next = Unit
ValidOffset admits_none (Offset x) = x < 256 ^ 8
ValidOffset admits_none (Timestamp z) = two's.Signed 8 z

-- The header's numbers fit their widths; types are 0, 1, 2.
pub record ValidHeader (h : ChunkHeader) : Type 0 where
  pub magic : two's.Signed 1 h.magic
  pub type : (h.chunk_type ≡ pos 0) ⊎ ((h.chunk_type ≡ pos 1) ⊎ (h.chunk_type ≡ pos 2))
  pub entries : h.entries < 256 ^ 2
  pub records : h.records < 256 ^ 4
  pub timestamp : two's.Signed 8 h.timestamp
  pub epoch : h.epoch < 256 ^ 8
  pub first_offset : h.first_offset < 256 ^ 8
  pub checksum : two's.Signed 4 h.checksum
  pub data_length : h.data_length < 256 ^ 4
  pub trailer_length : h.trailer_length < 256 ^ 4
  pub bloom_size : h.bloom_size < 256
  pub reserved : h.reserved < 256 ^ 3

-- An entry: four bytes whose top bit is 0 and whose other 31 bits are the size, then the message.
abbrev pub Entry : List ℕ → Type 0
Entry a = (message : List ℕ) × Length 4 (length message) × (a ≡ digits 4 (length message) ++ message)

-- The data is exactly as long as the header says; of type 0 it is that many entries, and records equals entries.
pub record ValidChunk (h : ChunkHeader) (b : List ℕ) : Type 0 where
  pub header : ValidHeader h
  pub as_long : length b ≡ h.data_length
  pub entries : h.chunk_type ≡ pos 0 → (h.records ≡ h.entries) × Pieces Entry h.entries b

unfoldable mutual
  pub Valid : Kind → Value → Type 0
  Valid (unsigned n most) v = (v ≡ number v.number) × (v.number ≤ most) × (v.number < 256 ^ n)
  Valid (signed n) v = (v ≡ integer v.integer) × two's.Signed n v.integer
  Valid (string form nullable) v = (v ≡ F.string v.octets) × ValidString form nullable v.octets
  Valid (specification admits_none) v = (v ≡ F.offset v.offset) × ValidOffset admits_none v.offset
  Valid (list rule row) v =
      (b : List ℕ) × (v ≡ elements v.number b) × Length 4 v.number
      × Pieces (λ a. (vs : List Value) × ValidRow row vs × (a ≡ encode_row row vs)) v.number b
  Valid chunk v = (b : List ℕ) × (v ≡ F.chunk v.header b) × ValidChunk v.header b

  pub ValidRow : Row → List Value → Type 0
  ValidRow end vs = vs ≡ []
  ValidRow (kind · row) vs = (v : Value) × (rest : List Value) × (vs ≡ v ∷ rest) × Valid kind v × ValidRow row rest

-- The key and version are listed, the fields are those of their row, and Size holds in its four bytes.
pub record ValidFrame (f : Fields (List ℕ)) : Type 0 where
  pub listed : decide f.key f.version ≡ layout f.key f.version
  pub content : ValidRow (row_of f.key f.version) f.content
  pub size : size_of f < 256 ^ 4
