-- The kinds of field, in the notation of 01 ("Numbers and text on the wire", "Frame and keys").
use Rattle.std.specs.Prelude.{Bool, true, false, ℕ}
use Rattle.protocol.specs.declared.kind.Element.{Element}
use Rattle.protocol.specs.declared.kind.Element.TheVariants.{Message, FilteredMessage, PublishingId, PublishingError, Property, Name, CommandVersions, Broker, StreamMetadata, Statistic, BrokerReference}
use Rattle.protocol.specs.declared.kind.Form.{Form}
use Rattle.protocol.specs.declared.kind.Form.TheVariants.{Text, Reference, Bytes}
use Rattle.protocol.specs.declared.kind.Keys.TheVariants.{MayRepeat}
use Rattle.protocol.specs.declared.kind.ListKind.{ListKind}
use Rattle.protocol.specs.declared.kind.ListRule.{ListRule}
use Rattle.protocol.specs.declared.kind.Presence.TheVariants.{Required}

infixr 50 ◌·◌
-- The bytes of the length in front: int16 for text, int32 for bytes.
abbrev pub length_width : Form → ℕ
length_width Text = 2
length_width Reference = 2
length_width Bytes = 4

mutual
  pub data Kind : Type 0 where
    -- an unsigned number of so many bytes, and the largest value that is admitted
    unsigned : ℕ → ℕ → Kind
    -- a signed number of so many bytes
    signed : ℕ → Kind
    -- a byte string, and whether it may be null
    string : Form → Bool → Kind
    -- an offset specification, and whether type 0 (none) is admitted
    specification : Bool → Kind
    -- [x]: int32 count, then the elements; and what the list admits
    list : ListRule → Row → Kind
    -- a chunk, to the frame's end
    chunk : Kind

  -- Fields in wire order.
  pub data Row : Type 0 where
    end : Row
    ◌·◌ : Kind → Row → Row

abbrev pub u8 : Kind
u8 = unsigned 1 0xff

abbrev pub u16 : Kind
u16 = unsigned 2 0xffff

abbrev pub u32 : Kind
u32 = unsigned 4 0xffff_ffff

abbrev pub u64 : Kind
u64 = unsigned 8 0xffff_ffff_ffff_ffff

abbrev pub i64 : Kind
i64 = signed 8

-- Active is 0 or 1.
abbrev pub active : Kind
active = unsigned 1 1

-- c is a correlation id uint32; rc a response code uint16.
abbrev pub c : Kind
c = u32

abbrev pub rc : Kind
rc = u16

abbrev pub T : Kind
T = string Text false

abbrev pub T? : Kind
T? = string Text true

abbrev pub R : Kind
R = string Reference false

abbrev pub R? : Kind
R? = string Reference true

abbrev pub B : Kind
B = string Bytes false

abbrev pub B? : Kind
B? = string Bytes true

-- Types 1 to 5; type 0 also, in 801a only.
abbrev pub spec : Kind
spec = specification false

abbrev pub spec₀ : Kind
spec₀ = specification true

-- The rule of a list whose elements may be alike, and which is always there.
abbrev pub plain : ListRule
plain = record { keys = MayRepeat; presence = Required }

-- The row of each kind of list element.
abbrev pub element_row : Element → Row
element_row Message = u64 · B · end
element_row FilteredMessage = u64 · T? · B · end
element_row PublishingId = u64 · end
element_row PublishingError = u64 · u16 · end
element_row Property = T · T · end
element_row Name = T · end
element_row CommandVersions = u16 · u16 · u16 · end
element_row Broker = u16 · T · u32 · end
element_row StreamMetadata = T · u16 · u16 · list plain (u16 · end) · end
element_row Statistic = T · i64 · end
element_row BrokerReference = u16 · end

abbrev pub plain_list : Element → ListKind
plain_list e = record { element = e; rule = plain }

-- A list by its kind in the code.
abbrev pub list_of : ListKind → Kind
list_of k = list k.rule (element_row k.element)
