-- By what comes next.
use Rattle.std.proofs.Common.{arith, refl, rules, sym}
use Rattle.wire.specs.Integers.{Bytes}
use Rattle.listing_lines.proofs.Texts.{then}
use Rattle.listing_text.proofs.Listings.{steps_by, frame_steps, steps_more, next_is, frame_is}
use Rattle.listing_text.proofs.listing.Progress.step.Goals as goal

pub overflow_cast-slots : goal.overflow_cast-slots
unfolding Bytes
overflow_cast-slots c =
    let frame = frame_is c.args.window.now c.args.self.from _ _ c.next_frame.ensures.value _ _ _ c.in-Frame.is (λ i. (c.type_inv.window i).fits) c.next_frame.ensures.slots_after in
    record { fits = omega (arith, frame.keyed.key_fits, frame.keyed.version_fits) }

pub overflow_cast-slots-in-Frame : goal.overflow_cast-slots-in-Frame
unfolding Bytes
overflow_cast-slots-in-Frame c =
    let frame = frame_is c.args.window.now c.args.self.from _ _ c.next_frame.ensures.value _ _ _ c.in-Frame.is (λ i. (c.type_inv.window i).fits) c.next_frame.ensures.slots_after in
    record { fits = omega (arith, frame.keyed.key_fits, frame.keyed.version_fits) }

pub frame_step-requires : goal.frame_step-requires
unfolding Bytes
frame_step-requires c =
    let frame = frame_is c.args.window.now c.args.self.from _ _ c.next_frame.ensures.value _ _ _ c.in-Frame.is (λ i. (c.type_inv.window i).fits) c.next_frame.ensures.slots_after in
    let inside = frame.inside c.requires in
    omega (arith, inside)

pub returns-in-Frame : goal.returns-in-Frame
unfolding Bytes
returns-in-Frame c =
    let frame = frame_is c.args.window.now c.args.self.from _ _ c.next_frame.ensures.value _ _ _ c.in-Frame.is (λ i. (c.type_inv.window i).fits) c.next_frame.ensures.slots_after in
    rw frame.next (frame_steps _ _ _ _ _ _ _ (sym frame.keyed.key) (sym frame.keyed.version) c.frame_step.ensures.prints refl (search rules) c.frame_step.ensures.value)

pub returns-in-Cut : goal.returns-in-Cut
returns-in-Cut c =
    let closed = c.closed-in-Cut.ensures in
    rw (next_is c.args.window.now c.args.self.from _ _ c.next_frame.ensures.value _ c.in-Cut.is) (steps_by _ _ _ _ (then c.cut_line.ensures closed.prints) refl (search rules) closed.value)

pub returns-in-Refused : goal.returns-in-Refused
returns-in-Refused c =
    let closed = c.closed-in-Refused.ensures in
    rw (next_is c.args.window.now c.args.self.from _ _ c.next_frame.ensures.value _ c.in-Refused.is) (steps_by _ _ _ _ (then (rw c.number.ensures at c.refused_line.ensures) closed.prints) refl (search rules) closed.value)

pub returns-in-More : goal.returns-in-More
returns-in-More c = rw (next_is c.args.window.now c.args.self.from _ _ c.next_frame.ensures.value _ c.in-More.is) (steps_more _ _ _ c.halted.ensures)
