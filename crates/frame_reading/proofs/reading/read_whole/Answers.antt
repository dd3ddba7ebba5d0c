-- A place of the content does not leave the frame.
use Rattle.std.proofs.Common.{arith}
use Rattle.frame_reading.proofs.Contents.{place_inside}
use Rattle.frame_reading.proofs.reading.read_whole.Goals as goal

pub overflow_add-fault : goal.overflow_add-fault
overflow_add-fault c =
    let e = rw c.in-Some-Err.field-0-is at c.in-Some-Err.ensures in
    omega (arith, place_inside c.args.key c.args.version c.args.s.now _ _ e.0)
