-- The layouts (01 "Frame and keys"), a line each, in the paper's order and notation.
use Rattle.std.specs.Prelude.{cond, ◌&&◌, List, [], ◌∷◌, ℕ, eqb}
use Rattle.protocol.specs.Kinds.{Row, end, ◌·◌, list, plain, chunk, u8, u16, u32, u64, i64, active, c, rc, T, T?, R, R?, B, B?, spec, spec₀}

-- A key, a version, and the content under them.
pub record Listing : Type 0 where
  pub key : ℕ
  pub version : ℕ
  pub row : Row

abbrev layout : ℕ → ℕ → Row → Listing
layout k v r = record { key = k; version = v; row = r }

unfoldable pub table : List Listing
table =
    -- Requests and commands
    layout 0x0001 1 (c · u8 · R? · T · end)  -- DeclarePublisher
    ∷ layout 0x0002 1 (u8 · list plain (u64 · B · end) · end)  -- Publish
    ∷ layout 0x0002 2 (u8 · list plain (u64 · T? · B · end) · end)  -- Publish, version 2
    ∷ layout 0x0003 1 (u8 · list plain (u64 · end) · end)  -- PublishConfirm
    ∷ layout 0x0004 1 (u8 · list plain (u64 · u16 · end) · end)  -- PublishError
    ∷ layout 0x0005 1 (c · R · T · end)  -- QueryPublisher
    ∷ layout 0x0006 1 (c · u8 · end)  -- DeletePublisher
    ∷ layout 0x0007 1 (c · u8 · T · spec · u16 · list plain (T · T · end) · end)  -- Subscribe
    ∷ layout 0x0008 1 (u8 · chunk · end)  -- Deliver
    ∷ layout 0x0008 2 (u8 · u64 · chunk · end)  -- Deliver, version 2
    ∷ layout 0x0009 1 (u8 · u16 · end)  -- Credit
    ∷ layout 0x000a 1 (R · T · u64 · end)  -- StoreOffset
    ∷ layout 0x000b 1 (c · R · T · end)  -- QueryOffset
    ∷ layout 0x000c 1 (c · u8 · end)  -- Unsubscribe
    ∷ layout 0x000d 1 (c · T · list plain (T · T · end) · end)  -- Create
    ∷ layout 0x000e 1 (c · T · end)  -- Delete
    ∷ layout 0x000f 1 (c · list plain (T · end) · end)  -- Metadata
    ∷ layout 0x0010 1 (u16 · T · end)  -- MetadataUpdate
    ∷ layout 0x0011 1 (c · list plain (T · T · end) · end)  -- PeerProperties
    ∷ layout 0x0012 1 (c · end)  -- SaslHandshake
    ∷ layout 0x0013 1 (c · T · B? · end)  -- SaslAuthenticate
    ∷ layout 0x0014 1 (u32 · u32 · end)  -- Tune
    ∷ layout 0x0015 1 (c · T · end)  -- Open
    ∷ layout 0x0016 1 (c · u16 · T · end)  -- Close
    ∷ layout 0x0017 1 end  -- Heartbeat
    ∷ layout 0x0018 1 (c · T · T · end)  -- Route
    ∷ layout 0x0019 1 (c · T · end)  -- Partitions
    ∷ layout 0x001a 1 (c · u8 · active · end)  -- ConsumerUpdate
    ∷ layout 0x001b 1 (c · list plain (u16 · u16 · u16 · end) · end)  -- ExchangeCommandVersions
    ∷ layout 0x001c 1 (c · T · end)  -- StreamStats
    ∷ layout 0x001d 1 (c · T · list plain (T · end) · list plain (T · end) · list plain (T · T · end) · end)  -- CreateSuperStream
    ∷ layout 0x001e 1 (c · T · end)  -- DeleteSuperStream
    -- Responses
    ∷ layout 0x8001 1 (c · rc · end)  -- DeclarePublisher
    ∷ layout 0x8005 1 (c · rc · u64 · end)  -- QueryPublisher
    ∷ layout 0x8006 1 (c · rc · end)  -- DeletePublisher
    ∷ layout 0x8007 1 (c · rc · end)  -- Subscribe
    ∷ layout 0x8009 1 (rc · u8 · end)  -- Credit
    ∷ layout 0x800b 1 (c · rc · u64 · end)  -- QueryOffset
    ∷ layout 0x800c 1 (c · rc · end)  -- Unsubscribe
    ∷ layout 0x800d 1 (c · rc · end)  -- Create
    ∷ layout 0x800e 1 (c · rc · end)  -- Delete
    ∷ layout 0x800f 1 (c · list plain (u16 · T · u32 · end) · list plain (T · u16 · u16 · list plain (u16 · end) · end) · end)  -- Metadata
    ∷ layout 0x8011 1 (c · rc · list plain (T · T · end) · end)  -- PeerProperties
    ∷ layout 0x8012 1 (c · rc · list plain (T · end) · end)  -- SaslHandshake
    ∷ layout 0x8013 1 (c · rc · B? · end)  -- SaslAuthenticate
    ∷ layout 0x8014 1 (u32 · u32 · end)  -- Tune
    ∷ layout 0x8015 1 (c · rc · list plain (T · T · end) · end)  -- Open
    ∷ layout 0x8016 1 (c · rc · end)  -- Close
    ∷ layout 0x8018 1 (c · rc · list plain (T · end) · end)  -- Route
    ∷ layout 0x8019 1 (c · rc · list plain (T · end) · end)  -- Partitions
    ∷ layout 0x801a 1 (c · rc · spec₀ · end)  -- ConsumerUpdate
    ∷ layout 0x801b 1 (c · rc · list plain (u16 · u16 · u16 · end) · end)  -- ExchangeCommandVersions
    ∷ layout 0x801c 1 (c · rc · list plain (T · i64 · end) · end)  -- StreamStats
    ∷ layout 0x801d 1 (c · rc · end)  -- CreateSuperStream
    ∷ layout 0x801e 1 (c · rc · end)  -- DeleteSuperStream
    ∷ []

-- The row of a key and a version; of a pair that the table has not, no field at all.
unfoldable pub row_in : List Listing → ℕ → ℕ → Row
row_in [] k v = end
row_in (l ∷ ls) k v = cond (eqb k l.key && eqb v l.version) l.row (row_in ls k v)

abbrev pub row_of : ℕ → ℕ → Row
row_of k v = row_in table k v
