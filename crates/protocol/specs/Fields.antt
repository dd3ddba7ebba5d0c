-- What the fields of a frame hold, and the paper's "same fields" (01 "Numbers and text on the wire").
use Rattle.std.specs.Prelude.{Bool, List, [], ◌∷◌, map, ℕ, ◌+◌, ◌≤◌, ltb, ℤ, pos, take, drop, length as len}
use Rattle.std.proofs.Math.Option
use Rattle.std.proofs.Math.Option.{Option, none, some}
use Rattle.protocol.specs.declared.chunk.ChunkHeader.{ChunkHeader}
use Rattle.protocol.specs.declared.offset.OffsetSpecification.{OffsetSpecification}
use Rattle.protocol.specs.declared.offset.OffsetSpecification.TheVariants.{None}
use Rattle.protocol.specs.declared.place.Place.{Place}

-- What a field holds, over P, the type of a place in a buffer or of the bytes at it. A kind of field fills the parts
-- that it has, by one of the makers below; the other parts are blank, so two fields of a kind are equal exactly if
-- what the kind fills is.
pub record Field (P : Type 0) : Type 0 where
  pub number : ℕ
  pub integer : ℤ
  pub octets : Option P
  pub offset : OffsetSpecification
  pub header : ChunkHeader

abbrev pub no_header : ChunkHeader
no_header =
    record {
      magic = pos 0;
      chunk_type = pos 0;
      entries = 0;
      records = 0;
      timestamp = pos 0;
      epoch = 0;
      first_offset = 0;
      checksum = pos 0;
      data_length = 0;
      trailer_length = 0;
      bloom_size = 0;
      reserved = 0;
    }

-- An unsigned number.
abbrev pub number : {P : Type 0} → ℕ → Field P
number x = record { number = x; integer = pos 0; octets = none; offset = None; header = no_header }

-- A signed number.
abbrev pub integer : {P : Type 0} → ℤ → Field P
integer z = record { number = 0; integer = z; octets = none; offset = None; header = no_header }

-- A text or byte string; none is null.
abbrev pub string : {P : Type 0} → Option P → Field P
string b = record { number = 0; integer = pos 0; octets = b; offset = None; header = no_header }

-- An offset specification.
abbrev pub offset : {P : Type 0} → OffsetSpecification → Field P
offset o = record { number = 0; integer = pos 0; octets = none; offset = o; header = no_header }

-- A list: its count and its encoded elements.
abbrev pub elements : {P : Type 0} → ℕ → P → Field P
elements n b = record { number = n; integer = pos 0; octets = some b; offset = None; header = no_header }

-- A chunk: its header and its data.
abbrev pub chunk : {P : Type 0} → ChunkHeader → P → Field P
chunk h b = record { number = 0; integer = pos 0; octets = some b; offset = None; header = h }

-- A frame: key, version, and the fields of its content in wire order.
pub record Fields (P : Type 0) : Type 0 where
  pub key : ℕ
  pub version : ℕ
  pub content : List (Field P)

abbrev pub place : ℕ → ℕ → Place
place a l = record { at = a; len = l }

-- The bytes at a place of a buffer.
abbrev pub bytes_at : List ℕ → Place → List ℕ
bytes_at s p = take p.len (drop p.at s)

-- A place that reaches outside the source.
abbrev pub outside : Place → List ℕ → Bool
outside p src = ltb (len src) (p.at + p.len)

-- A field with something else for each place in it.
abbrev pub over_places : {P Q : Type 0} → (P → Q) → Field P → Field Q
over_places g f = record { number = f.number; integer = f.integer; octets = Option.map g f.octets; offset = f.offset; header = f.header }

-- A field's value: the bytes in the place of the place.
abbrev pub value_in : List ℕ → Field Place → Field (List ℕ)
value_in s f = over_places (bytes_at s) f

-- A place, further on by n.
abbrev pub further : ℕ → Place → Place
further n p = place (n + p.at) p.len

-- A frame's fields with the bytes at its places.
abbrev pub values_in : List ℕ → Fields Place → Fields (List ℕ)
values_in s f = record { key = f.key; version = f.version; content = map (value_in s) f.content }

-- A place, where there is one, ends at n or before.
abbrev pub EndsBy : ℕ → Option Place → Type 0
EndsBy n none = Unit
EndsBy n (some p) = p.at + p.len ≤ n

-- Every place in a list of fields does.
abbrev pub PlacesEndBy : ℕ → List (Field Place) → Type 0
PlacesEndBy n [] = Unit
PlacesEndBy n (f ∷ fs) = EndsBy n f.octets × PlacesEndBy n fs
