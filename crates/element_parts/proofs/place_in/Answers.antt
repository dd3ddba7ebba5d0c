-- A field that is passed leaves the place where it is looked for, and the one that is reached shows it.
use Rattle.std.proofs.Common.{◌≡◌, ◌<◌, arith, ap, ◌∙◌, length}
use Rattle.protocol.specs.Kinds.{Row}
use Rattle.slots.specs.Unflat.{unflat_row}
use Rattle.questions.specs.Questions.{octets_in, place_in}
use Rattle.element_parts.proofs.ShownPlaces.{empty, field_passed, field_reached, none_left}
use Rattle.element_parts.proofs.place_in.Goals as goal

pub loop-kind-init : goal.loop-kind-init
loop-kind-init c = ap (λ (r : Row). place_in c.args.field (unflat_row r c.args.slots.now)) c.element_fields-kind-items.ensures.row

pub returns-then-before-eq0 : goal.returns-then-before-eq0
returns-then-before-eq0 c s small =
    let l = c.loop-kind in
    let fields = c.element_fields-kind-items.result.now in
    let more : l.kind-index < length fields = omega arith in
    c.field_place.ensures s small ∙ ap (octets_in s) (field_reached fields l.rest.now l.kind-index l.before _ more c.if-before-eq0.true ∙ l.invariant)

pub loop-kind-preserved : goal.loop-kind-preserved
loop-kind-preserved c =
    let l = c.loop-kind in
    let fields = c.element_fields-kind-items.result.now in
    let more : l.kind-index < length fields = omega arith in
    rw c.slots_behind-rest.ensures (field_passed fields l.rest.now l.kind-index l.before _ more c.if-before-eq0.false ∙ l.invariant)

pub returns : goal.returns
returns c s small =
    let l = c.loop-kind in
    let fields = c.element_fields-kind-items.result.now in
    let last : l.kind-index ≡ length fields = omega arith in
    empty s small ∙ ap (octets_in s) (none_left fields l.rest.now l.kind-index l.before last ∙ l.invariant)
