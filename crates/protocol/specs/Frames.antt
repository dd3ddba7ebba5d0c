-- The typed frame's key, version and fields, case by case in the order of 01.
use Rattle.std.specs.declared.option.Option.{Option}
use Rattle.std.specs.Prelude.{◌≡◌, Bool, cond, List, [], ◌∷◌, ℕ, None, Some}
use Rattle.std.proofs.Math.Option.{none, some}
use Rattle.protocol.specs.Kinds.{Kind, Row, end, ◌·◌, unsigned, signed, specification, list}
use Rattle.protocol.specs.Kinds as K
use Rattle.protocol.specs.Table.{row_of}
use Rattle.protocol.specs.Fields.{Field, Fields, number, integer, string, offset, elements, chunk, values_in}
use Rattle.protocol.specs.declared.chunk.Chunk.{Chunk}
use Rattle.protocol.specs.declared.frame.Frame.{Frame}
use Rattle.protocol.specs.declared.frame.Frame.TheVariants.{DeclarePublisher, Publish, PublishV2, PublishConfirm, PublishError, QueryPublisher, DeletePublisher, Subscribe, Deliver, DeliverV2, Credit, StoreOffset, QueryOffset, Unsubscribe, Create, Delete, Metadata, MetadataUpdate, PeerProperties, SaslHandshake, SaslAuthenticate, Tune, Open, Close, Heartbeat, Route, Partitions, ConsumerUpdate, ExchangeCommandVersions, StreamStats, CreateSuperStream, DeleteSuperStream, DeclarePublisherResponse, QueryPublisherResponse, DeletePublisherResponse, SubscribeResponse, CreditResponse, QueryOffsetResponse, UnsubscribeResponse, CreateResponse, DeleteResponse, MetadataResponse, PeerPropertiesResponse, SaslHandshakeResponse, SaslAuthenticateResponse, TuneResponse, OpenResponse, CloseResponse, RouteResponse, PartitionsResponse, ConsumerUpdateResponse, ExchangeCommandVersionsResponse, StreamStatsResponse, CreateSuperStreamResponse, DeleteSuperStreamResponse}
use Rattle.protocol.specs.declared.place.Elements.{Elements}
use Rattle.protocol.specs.declared.place.Place.{Place}
use Rattle.protocol.specs.declared.response_code.ResponseCode.{ResponseCode}

-- What a part of the typed frame holds as a field.
abbrev pub code_field : ResponseCode → Field Place
code_field code = number code.number

abbrev pub flag_field : Bool → Field Place
flag_field b = number (cond b 1 0)

abbrev pub place_field : Place → Field Place
place_field p = string (some p)

abbrev pub nullable_field : Option Place → Field Place
nullable_field None = string none
nullable_field (Some p) = string (some p)

abbrev pub list_field : Elements → Field Place
list_field l = elements l.count l.place

abbrev pub chunk_field : Chunk → Field Place
chunk_field c = chunk c.header c.«data»

abbrev under : ℕ → ℕ → List (Field Place) → Fields Place
under k v fs = record { key = k; version = v; content = fs }

abbrev pub fields_of : Frame → Fields Place
fields_of (DeclarePublisher c id reference stream) = under 0x0001 1 (number c ∷ number id ∷ nullable_field reference ∷ place_field stream ∷ [])
fields_of (Publish id messages) = under 0x0002 1 (number id ∷ list_field messages ∷ [])
fields_of (PublishV2 id messages) = under 0x0002 2 (number id ∷ list_field messages ∷ [])
fields_of (PublishConfirm id ids) = under 0x0003 1 (number id ∷ list_field ids ∷ [])
fields_of (PublishError id errors) = under 0x0004 1 (number id ∷ list_field errors ∷ [])
fields_of (QueryPublisher c reference stream) = under 0x0005 1 (number c ∷ place_field reference ∷ place_field stream ∷ [])
fields_of (DeletePublisher c id) = under 0x0006 1 (number c ∷ number id ∷ [])
fields_of (Subscribe c id stream start credit properties) = under 0x0007 1 (number c ∷ number id ∷ place_field stream ∷ offset start ∷ number credit ∷ list_field properties ∷ [])
fields_of (Deliver id osiris_chunk) = under 0x0008 1 (number id ∷ chunk_field osiris_chunk ∷ [])
fields_of (DeliverV2 id committed osiris_chunk) = under 0x0008 2 (number id ∷ number committed ∷ chunk_field osiris_chunk ∷ [])
fields_of (Credit id credit) = under 0x0009 1 (number id ∷ number credit ∷ [])
fields_of (StoreOffset reference stream at) = under 0x000a 1 (place_field reference ∷ place_field stream ∷ number at ∷ [])
fields_of (QueryOffset c reference stream) = under 0x000b 1 (number c ∷ place_field reference ∷ place_field stream ∷ [])
fields_of (Unsubscribe c id) = under 0x000c 1 (number c ∷ number id ∷ [])
fields_of (Create c stream arguments) = under 0x000d 1 (number c ∷ place_field stream ∷ list_field arguments ∷ [])
fields_of (Delete c stream) = under 0x000e 1 (number c ∷ place_field stream ∷ [])
fields_of (Metadata c streams) = under 0x000f 1 (number c ∷ list_field streams ∷ [])
fields_of (MetadataUpdate code stream) = under 0x0010 1 (number code ∷ place_field stream ∷ [])
fields_of (PeerProperties c properties) = under 0x0011 1 (number c ∷ list_field properties ∷ [])
fields_of (SaslHandshake c) = under 0x0012 1 (number c ∷ [])
fields_of (SaslAuthenticate c mechanism opaque) = under 0x0013 1 (number c ∷ place_field mechanism ∷ nullable_field opaque ∷ [])
fields_of (Tune frame_max heartbeat) = under 0x0014 1 (number frame_max ∷ number heartbeat ∷ [])
fields_of (Open c virtual_host) = under 0x0015 1 (number c ∷ place_field virtual_host ∷ [])
fields_of (Close c closing_code reason) = under 0x0016 1 (number c ∷ number closing_code ∷ place_field reason ∷ [])
fields_of Heartbeat = under 0x0017 1 []
fields_of (Route c routing_key super_stream) = under 0x0018 1 (number c ∷ place_field routing_key ∷ place_field super_stream ∷ [])
fields_of (Partitions c super_stream) = under 0x0019 1 (number c ∷ place_field super_stream ∷ [])
fields_of (ConsumerUpdate c id is_active) = under 0x001a 1 (number c ∷ number id ∷ flag_field is_active ∷ [])
fields_of (ExchangeCommandVersions c commands) = under 0x001b 1 (number c ∷ list_field commands ∷ [])
fields_of (StreamStats c stream) = under 0x001c 1 (number c ∷ place_field stream ∷ [])
fields_of (CreateSuperStream c name partitions binding_keys arguments) = under 0x001d 1 (number c ∷ place_field name ∷ list_field partitions ∷ list_field binding_keys ∷ list_field arguments ∷ [])
fields_of (DeleteSuperStream c name) = under 0x001e 1 (number c ∷ place_field name ∷ [])
fields_of (DeclarePublisherResponse c code) = under 0x8001 1 (number c ∷ code_field code ∷ [])
fields_of (QueryPublisherResponse c code sequence) = under 0x8005 1 (number c ∷ code_field code ∷ number sequence ∷ [])
fields_of (DeletePublisherResponse c code) = under 0x8006 1 (number c ∷ code_field code ∷ [])
fields_of (SubscribeResponse c code) = under 0x8007 1 (number c ∷ code_field code ∷ [])
fields_of (CreditResponse code id) = under 0x8009 1 (code_field code ∷ number id ∷ [])
fields_of (QueryOffsetResponse c code at) = under 0x800b 1 (number c ∷ code_field code ∷ number at ∷ [])
fields_of (UnsubscribeResponse c code) = under 0x800c 1 (number c ∷ code_field code ∷ [])
fields_of (CreateResponse c code) = under 0x800d 1 (number c ∷ code_field code ∷ [])
fields_of (DeleteResponse c code) = under 0x800e 1 (number c ∷ code_field code ∷ [])
fields_of (MetadataResponse c brokers streams) = under 0x800f 1 (number c ∷ list_field brokers ∷ list_field streams ∷ [])
fields_of (PeerPropertiesResponse c code properties) = under 0x8011 1 (number c ∷ code_field code ∷ list_field properties ∷ [])
fields_of (SaslHandshakeResponse c code mechanisms) = under 0x8012 1 (number c ∷ code_field code ∷ list_field mechanisms ∷ [])
fields_of (SaslAuthenticateResponse c code opaque) = under 0x8013 1 (number c ∷ code_field code ∷ nullable_field opaque ∷ [])
fields_of (TuneResponse frame_max heartbeat) = under 0x8014 1 (number frame_max ∷ number heartbeat ∷ [])
fields_of (OpenResponse c code properties) = under 0x8015 1 (number c ∷ code_field code ∷ list_field properties ∷ [])
fields_of (CloseResponse c code) = under 0x8016 1 (number c ∷ code_field code ∷ [])
fields_of (RouteResponse c code streams) = under 0x8018 1 (number c ∷ code_field code ∷ list_field streams ∷ [])
fields_of (PartitionsResponse c code streams) = under 0x8019 1 (number c ∷ code_field code ∷ list_field streams ∷ [])
fields_of (ConsumerUpdateResponse c code start) = under 0x801a 1 (number c ∷ code_field code ∷ offset start ∷ [])
fields_of (ExchangeCommandVersionsResponse c code commands) = under 0x801b 1 (number c ∷ code_field code ∷ list_field commands ∷ [])
fields_of (StreamStatsResponse c code statistics) = under 0x801c 1 (number c ∷ code_field code ∷ list_field statistics ∷ [])
fields_of (CreateSuperStreamResponse c code) = under 0x801d 1 (number c ∷ code_field code ∷ [])
fields_of (DeleteSuperStreamResponse c code) = under 0x801e 1 (number c ∷ code_field code ∷ [])

abbrev pub values_of : Frame → List ℕ → Fields (List ℕ)
values_of f s = values_in s (fields_of f)

-- A field has its kind's parts and no other.
abbrev pub OfKind : Kind → Field Place → Type 0
OfKind (unsigned w m) f = f ≡ number f.number
OfKind (signed w) f = f ≡ integer f.integer
OfKind (K.string form nullable) f = f ≡ string f.octets
OfKind (specification admits_none) f = f ≡ offset f.offset
OfKind (list rule row) f = (p : Place) × (f ≡ elements f.number p)
OfKind K.chunk f = (p : Place) × (f ≡ chunk f.header p)

abbrev pub OfRow : Row → List (Field Place) → Type 0
OfRow end [] = Unit
OfRow end (f ∷ fs) = ⊥
OfRow (k · row) [] = ⊥
OfRow (k · row) (f ∷ fs) = OfKind k f × OfRow row fs

-- Every case of the typed frame has the fields of its row in the table.
abbrev pub OfTable : Type 0
OfTable = (f : Frame) → OfRow (row_of (fields_of f).key (fields_of f).version) (fields_of f).content
