-- The place that the slots of a field show.
use Rattle.std.specs.Prelude.{List, ℕ}
use Rattle.std.proofs.Math.Option.{Option}
use Rattle.protocol.specs.Kinds.{Kind}
use Rattle.protocol.specs.declared.place.Place.{Place}
use Rattle.slots.specs.Unflat.{unflat_field}

-- The place in the field whose slots stand first.
abbrev pub octets_of_slots : Kind → List ℕ → Option Place
octets_of_slots kind slots = (unflat_field kind slots).octets
