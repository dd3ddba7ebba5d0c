-- Writing the slots of a typed frame is writing it.
use mathlib.Core.Path.{◌∙◌, ap}
use mathlib.Core.List.{List}
use Prim.Native.Nat.{ℕ}
use Rattle.slots.proofs.Inverse.{flat_writes}
use Rattle.slots.specs.Unflat.{write_flat}
use Rattle.typed_frames.proofs.writing.write.Goals as goal

pub returns : goal.returns
returns c =
    c.write.ensures
    ∙ ap (λ (s : List ℕ). write_flat s c.args.src.now c.args.limit c.args.out.now) c.frame_slots.ensures.value
    ∙ flat_writes c.args.frame c.frame_slots.ensures.signed_frame _ _ _
