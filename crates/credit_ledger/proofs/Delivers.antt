-- Which typed frames are Delivers, case by case. Assumes nothing.
use Prim.Native.Nat.{ℕ}
use mathlib.Core.Path.{◌≡◌, refl, sym, ap, ◌∙◌}
use mathlib.Core.Logic.{◌↔◌, ◌⊎◌, inl, inr}
use mathlib.Core.Option.{Option, none, some}
use native.Mathlib.Omega.{arith}
use Rattle.protocol.specs.Frames.{fields_of}
use Rattle.protocol.specs.declared.frame.Frame.{Frame}
use Rattle.protocol.specs.declared.frame.Frame.TheVariants.{DeclarePublisher, Publish, PublishV2, PublishConfirm, PublishError, QueryPublisher, DeletePublisher, Subscribe, Deliver, DeliverV2, Credit, StoreOffset, QueryOffset, Unsubscribe, Create, Delete, Metadata, MetadataUpdate, PeerProperties, SaslHandshake, SaslAuthenticate, Tune, Open, Close, Heartbeat, Route, Partitions, ConsumerUpdate, ExchangeCommandVersions, StreamStats, CreateSuperStream, DeleteSuperStream, DeclarePublisherResponse, QueryPublisherResponse, DeletePublisherResponse, SubscribeResponse, CreditResponse, QueryOffsetResponse, UnsubscribeResponse, CreateResponse, DeleteResponse, MetadataResponse, PeerPropertiesResponse, SaslHandshakeResponse, SaslAuthenticateResponse, TuneResponse, OpenResponse, CloseResponse, RouteResponse, PartitionsResponse, ConsumerUpdateResponse, ExchangeCommandVersionsResponse, StreamStatsResponse, CreateSuperStreamResponse, DeleteSuperStreamResponse}
use Rattle.credit_ledger.specs.Calls.{deliver_id}
use Rattle.credit_ledger.specs.Demand3.{DeliverFor}

pub frame_kind : (f : Frame) → (none ≡ deliver_id (fields_of f)) ⊎ ((i : ℕ) × DeliverFor i f)
frame_kind (DeclarePublisher _ _ _ _) = inl refl
frame_kind (Publish _ _) = inl refl
frame_kind (PublishV2 _ _) = inl refl
frame_kind (PublishConfirm _ _) = inl refl
frame_kind (PublishError _ _) = inl refl
frame_kind (QueryPublisher _ _ _) = inl refl
frame_kind (DeletePublisher _ _) = inl refl
frame_kind (Subscribe _ _ _ _ _ _) = inl refl
frame_kind (Deliver id c) = inr (id, inl (c, refl))
frame_kind (DeliverV2 id k c) = inr (id, inr (k, c, refl))
frame_kind (Credit _ _) = inl refl
frame_kind (StoreOffset _ _ _) = inl refl
frame_kind (QueryOffset _ _ _) = inl refl
frame_kind (Unsubscribe _ _) = inl refl
frame_kind (Create _ _ _) = inl refl
frame_kind (Delete _ _) = inl refl
frame_kind (Metadata _ _) = inl refl
frame_kind (MetadataUpdate _ _) = inl refl
frame_kind (PeerProperties _ _) = inl refl
frame_kind (SaslHandshake _) = inl refl
frame_kind (SaslAuthenticate _ _ _) = inl refl
frame_kind (Tune _ _) = inl refl
frame_kind (Open _ _) = inl refl
frame_kind (Close _ _ _) = inl refl
frame_kind Heartbeat = inl refl
frame_kind (Route _ _ _) = inl refl
frame_kind (Partitions _ _) = inl refl
frame_kind (ConsumerUpdate _ _ _) = inl refl
frame_kind (ExchangeCommandVersions _ _) = inl refl
frame_kind (StreamStats _ _) = inl refl
frame_kind (CreateSuperStream _ _ _ _ _) = inl refl
frame_kind (DeleteSuperStream _ _) = inl refl
frame_kind (DeclarePublisherResponse _ _) = inl refl
frame_kind (QueryPublisherResponse _ _ _) = inl refl
frame_kind (DeletePublisherResponse _ _) = inl refl
frame_kind (SubscribeResponse _ _) = inl refl
frame_kind (CreditResponse _ _) = inl refl
frame_kind (QueryOffsetResponse _ _ _) = inl refl
frame_kind (UnsubscribeResponse _ _) = inl refl
frame_kind (CreateResponse _ _) = inl refl
frame_kind (DeleteResponse _ _) = inl refl
frame_kind (MetadataResponse _ _ _) = inl refl
frame_kind (PeerPropertiesResponse _ _ _) = inl refl
frame_kind (SaslHandshakeResponse _ _ _) = inl refl
frame_kind (SaslAuthenticateResponse _ _ _) = inl refl
frame_kind (TuneResponse _ _) = inl refl
frame_kind (OpenResponse _ _ _) = inl refl
frame_kind (CloseResponse _ _) = inl refl
frame_kind (RouteResponse _ _ _) = inl refl
frame_kind (PartitionsResponse _ _ _) = inl refl
frame_kind (ConsumerUpdateResponse _ _ _) = inl refl
frame_kind (ExchangeCommandVersionsResponse _ _ _) = inl refl
frame_kind (StreamStatsResponse _ _ _) = inl refl
frame_kind (CreateSuperStreamResponse _ _) = inl refl
frame_kind (DeleteSuperStreamResponse _ _) = inl refl

pub are_delivers : (f : Frame) (i : ℕ) → (deliver_id (fields_of f) ≡ some i) ↔ DeliverFor i f
are_delivers f i = (to (frame_kind f), from)
  where
    to : (none ≡ deliver_id (fields_of f)) ⊎ ((j : ℕ) × DeliverFor j f) → deliver_id (fields_of f) ≡ some i → DeliverFor i f
    to (inl e) p = let q : none ≡ some i = e ∙ p in let z : ◌≡◌ {A = ℕ} 0 1 = cc (q) in absurd (omega (arith, z))
    to (inr (j, inl (c, e))) p =
        let q : ◌≡◌ {A = Option ℕ} (some j) (some i) = sym (ap (λ (g : Frame). deliver_id (fields_of g)) e) ∙ p in
        let r : j ≡ i = cc (q) in
        inl (c, e ∙ ap (λ (m : ℕ). Deliver m c) r)
    to (inr (j, inr (n, c, e))) p =
        let q : ◌≡◌ {A = Option ℕ} (some j) (some i) = sym (ap (λ (g : Frame). deliver_id (fields_of g)) e) ∙ p in
        let r : j ≡ i = cc (q) in
        inr (n, c, e ∙ ap (λ (m : ℕ). DeliverV2 m n c) r)

    from : DeliverFor i f → deliver_id (fields_of f) ≡ some i
    from (inl (c, e)) = ap (λ (g : Frame). deliver_id (fields_of g)) e
    from (inr (n, c, e)) = ap (λ (g : Frame). deliver_id (fields_of g)) e
