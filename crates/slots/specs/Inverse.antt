-- The flat form and the typed frame determine each other.
use Rattle.std.specs.Prelude.{◌≡◌, Bool, true, false, List, [], ◌∷◌, ℕ}
use Rattle.std.proofs.Math.Option.{Option, none, some}
use Rattle.wire.specs.Signed as two's
use Rattle.protocol.specs.Fields.{Field, Fields}
use Rattle.protocol.specs.Frames.{fields_of}
use Rattle.protocol.specs.Kinds.{Kind, unsigned, signed, string, specification, list, chunk, Row, end, ◌·◌}
use Rattle.protocol.specs.Table.{row_of}
use Rattle.protocol.specs.declared.chunk.ChunkHeader.{ChunkHeader}
use Rattle.protocol.specs.declared.frame.Frame.{Frame}
use Rattle.protocol.specs.declared.offset.OffsetSpecification.{OffsetSpecification}
use Rattle.protocol.specs.declared.offset.OffsetSpecification.TheVariants.{None, First, Last, Next, Offset, Timestamp}
use Rattle.protocol.specs.declared.place.Place.{Place}
use Rattle.rules.specs.Writing.{write_frame}
use Rattle.slots.specs.Flat.{null_length, flat_frame}
use Rattle.slots.specs.Unflat.{unflat_frame, write_flat}

-- Signed numbers of 64 bits, as the code's types have them.
abbrev pub SignedOffset : OffsetSpecification → Type 0
SignedOffset None = Unit
SignedOffset First = Unit
SignedOffset Last = Unit
SignedOffset Next = Unit
SignedOffset (Offset x) = Unit
SignedOffset (Timestamp z) = two's.Signed 8 z

pub record SignedHeader (h : ChunkHeader) : Type 0 where
  pub magic : two's.Signed 8 h.magic
  pub type : two's.Signed 8 h.chunk_type
  pub timestamp : two's.Signed 8 h.timestamp
  pub checksum : two's.Signed 8 h.checksum

abbrev pub SignedField : Kind → Field Place → Type 0
SignedField (unsigned n most) f = Unit
SignedField (signed n) f = two's.Signed 8 f.integer
SignedField (string form nullable) f = Unit
SignedField (specification admits_none) f = SignedOffset f.offset
SignedField (list rule row) f = Unit
SignedField chunk f = SignedHeader f.header

abbrev pub SignedRow : Row → List (Field Place) → Type 0
SignedRow end fs = Unit
SignedRow (kind · row) [] = Unit
SignedRow (kind · row) (f ∷ fs) = SignedField kind f × SignedRow row fs

abbrev pub SignedFrame : Fields Place → Type 0
SignedFrame f = SignedRow (row_of f.key f.version) f.content

-- Only what may be null is null, and no place of what may be null has the length that stands for it.
abbrev pub ToldOctets : Bool → Option Place → Type 0
ToldOctets false none = ⊥
ToldOctets false (some p) = Unit
ToldOctets true none = Unit
ToldOctets true (some p) = p.len ≡ null_length → ⊥

abbrev pub ToldField : Kind → Field Place → Type 0
ToldField (unsigned n most) f = Unit
ToldField (signed n) f = Unit
ToldField (string form nullable) f = ToldOctets nullable f.octets
ToldField (specification admits_none) f = Unit
ToldField (list rule row) f = Unit
ToldField chunk f = Unit

abbrev pub ToldRow : Row → List (Field Place) → Type 0
ToldRow end fs = Unit
ToldRow (kind · row) [] = Unit
ToldRow (kind · row) (f ∷ fs) = ToldField kind f × ToldRow row fs

abbrev pub ToldFrame : Fields Place → Type 0
ToldFrame f = ToldRow (row_of f.key f.version) f.content

-- A typed frame comes back from its slots.
abbrev pub FlatInverse : Type 0
FlatInverse = (f : Frame) → SignedFrame (fields_of f) → ToldFrame (fields_of f) → unflat_frame (flat_frame (fields_of f)) ≡ fields_of f

-- Writing the slots of a typed frame is writing it.
abbrev pub FlatWrites : Type 0
FlatWrites = (f : Frame) → SignedFrame (fields_of f) → (src : List ℕ) (limit : ℕ) (out : List ℕ) → write_flat (flat_frame (fields_of f)) src limit out ≡ write_frame (fields_of f) src limit out
