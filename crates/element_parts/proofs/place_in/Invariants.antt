-- The place at the index of the row is the one at what is left of the index, of what is left of the row.
use Rattle.std.proofs.Common.{◌≡◌, drop}
use Rattle.protocol.specs.Kinds.{element_row}
use Rattle.slots.specs.Unflat.{unflat_row}
use Rattle.questions.specs.Questions.{place_in}
use Rattle.element_parts.proofs.ShownPlaces.{Left}
use Rattle.element_parts.proofs.place_in.Given as goal

abbrev pub invariant-loop-kind : goal.invariant-loop-kind
invariant-loop-kind l =
    Left (drop l.kind-index l.kind-items) l.rest l.before ≡ place_in l.field (unflat_row (element_row l.fn.kind) l.slots)
