-- Each case of the typed frame is held against its row of the table, which computes. Assumes nothing.
use mathlib.Core.Path.{◌≡◌, refl}
use Rattle.std.specs.declared.option.Option.{Option}
use Rattle.std.specs.Prelude.{None, Some}
use Rattle.protocol.specs.Table.{table, row_in}
use Rattle.protocol.specs.Fields.{string}
use Rattle.protocol.specs.Frames.{nullable_field, OfTable}
use Rattle.protocol.specs.declared.frame.Frame.TheVariants.{DeclarePublisher, Publish, PublishV2, PublishConfirm, PublishError, QueryPublisher, DeletePublisher, Subscribe, Deliver, DeliverV2, Credit, StoreOffset, QueryOffset, Unsubscribe, Create, Delete, Metadata, MetadataUpdate, PeerProperties, SaslHandshake, SaslAuthenticate, Tune, Open, Close, Heartbeat, Route, Partitions, ConsumerUpdate, ExchangeCommandVersions, StreamStats, CreateSuperStream, DeleteSuperStream, DeclarePublisherResponse, QueryPublisherResponse, DeletePublisherResponse, SubscribeResponse, CreditResponse, QueryOffsetResponse, UnsubscribeResponse, CreateResponse, DeleteResponse, MetadataResponse, PeerPropertiesResponse, SaslHandshakeResponse, SaslAuthenticateResponse, TuneResponse, OpenResponse, CloseResponse, RouteResponse, PartitionsResponse, ConsumerUpdateResponse, ExchangeCommandVersionsResponse, StreamStatsResponse, CreateSuperStreamResponse, DeleteSuperStreamResponse}
use Rattle.protocol.specs.declared.place.Place.{Place}

nullable : (r : Option Place) → nullable_field r ≡ string (nullable_field r).octets
nullable None = refl
nullable (Some p) = refl

pub of_table : OfTable
unfolding table row_in
of_table (DeclarePublisher x0 x1 x2 x3) = (refl, (refl, (nullable x2, (refl, tt))))
of_table (Publish x0 x1) = (refl, ((x1.place, refl), tt))
of_table (PublishV2 x0 x1) = (refl, ((x1.place, refl), tt))
of_table (PublishConfirm x0 x1) = (refl, ((x1.place, refl), tt))
of_table (PublishError x0 x1) = (refl, ((x1.place, refl), tt))
of_table (QueryPublisher x0 x1 x2) = (refl, (refl, (refl, tt)))
of_table (DeletePublisher x0 x1) = (refl, (refl, tt))
of_table (Subscribe x0 x1 x2 x3 x4 x5) = (refl, (refl, (refl, (refl, (refl, ((x5.place, refl), tt))))))
of_table (Deliver x0 x1) = (refl, ((x1.«data», refl), tt))
of_table (DeliverV2 x0 x1 x2) = (refl, (refl, ((x2.«data», refl), tt)))
of_table (Credit x0 x1) = (refl, (refl, tt))
of_table (StoreOffset x0 x1 x2) = (refl, (refl, (refl, tt)))
of_table (QueryOffset x0 x1 x2) = (refl, (refl, (refl, tt)))
of_table (Unsubscribe x0 x1) = (refl, (refl, tt))
of_table (Create x0 x1 x2) = (refl, (refl, ((x2.place, refl), tt)))
of_table (Delete x0 x1) = (refl, (refl, tt))
of_table (Metadata x0 x1) = (refl, ((x1.place, refl), tt))
of_table (MetadataUpdate x0 x1) = (refl, (refl, tt))
of_table (PeerProperties x0 x1) = (refl, ((x1.place, refl), tt))
of_table (SaslHandshake x0) = (refl, tt)
of_table (SaslAuthenticate x0 x1 x2) = (refl, (refl, (nullable x2, tt)))
of_table (Tune x0 x1) = (refl, (refl, tt))
of_table (Open x0 x1) = (refl, (refl, tt))
of_table (Close x0 x1 x2) = (refl, (refl, (refl, tt)))
of_table Heartbeat = tt
of_table (Route x0 x1 x2) = (refl, (refl, (refl, tt)))
of_table (Partitions x0 x1) = (refl, (refl, tt))
of_table (ConsumerUpdate x0 x1 x2) = (refl, (refl, (refl, tt)))
of_table (ExchangeCommandVersions x0 x1) = (refl, ((x1.place, refl), tt))
of_table (StreamStats x0 x1) = (refl, (refl, tt))
of_table (CreateSuperStream x0 x1 x2 x3 x4) = (refl, (refl, ((x2.place, refl), ((x3.place, refl), ((x4.place, refl), tt)))))
of_table (DeleteSuperStream x0 x1) = (refl, (refl, tt))
of_table (DeclarePublisherResponse x0 x1) = (refl, (refl, tt))
of_table (QueryPublisherResponse x0 x1 x2) = (refl, (refl, (refl, tt)))
of_table (DeletePublisherResponse x0 x1) = (refl, (refl, tt))
of_table (SubscribeResponse x0 x1) = (refl, (refl, tt))
of_table (CreditResponse x0 x1) = (refl, (refl, tt))
of_table (QueryOffsetResponse x0 x1 x2) = (refl, (refl, (refl, tt)))
of_table (UnsubscribeResponse x0 x1) = (refl, (refl, tt))
of_table (CreateResponse x0 x1) = (refl, (refl, tt))
of_table (DeleteResponse x0 x1) = (refl, (refl, tt))
of_table (MetadataResponse x0 x1 x2) = (refl, ((x1.place, refl), ((x2.place, refl), tt)))
of_table (PeerPropertiesResponse x0 x1 x2) = (refl, (refl, ((x2.place, refl), tt)))
of_table (SaslHandshakeResponse x0 x1 x2) = (refl, (refl, ((x2.place, refl), tt)))
of_table (SaslAuthenticateResponse x0 x1 x2) = (refl, (refl, (nullable x2, tt)))
of_table (TuneResponse x0 x1) = (refl, (refl, tt))
of_table (OpenResponse x0 x1 x2) = (refl, (refl, ((x2.place, refl), tt)))
of_table (CloseResponse x0 x1) = (refl, (refl, tt))
of_table (RouteResponse x0 x1 x2) = (refl, (refl, ((x2.place, refl), tt)))
of_table (PartitionsResponse x0 x1 x2) = (refl, (refl, ((x2.place, refl), tt)))
of_table (ConsumerUpdateResponse x0 x1 x2) = (refl, (refl, (refl, tt)))
of_table (ExchangeCommandVersionsResponse x0 x1 x2) = (refl, (refl, ((x2.place, refl), tt)))
of_table (StreamStatsResponse x0 x1 x2) = (refl, (refl, ((x2.place, refl), tt)))
of_table (CreateSuperStreamResponse x0 x1) = (refl, (refl, tt))
of_table (DeleteSuperStreamResponse x0 x1) = (refl, (refl, tt))
