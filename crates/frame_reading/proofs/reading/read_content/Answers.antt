-- Where the content ends tells its outcome.
use Rattle.std.proofs.Common.{arith}
use Rattle.frame_reading.proofs.Contents.{inside, content_refused, content_read}
use Rattle.frame_reading.proofs.reading.read_content.Goals as goal

pub overflow_add-fault : goal.overflow_add-fault
overflow_add-fault c = omega (arith, inside c.args.key c.args.version c.args.s.now _ c.requires c.in-Err.fault c.in-Err.ensures.value)

pub returns-in-Ok : goal.returns-in-Ok
returns-in-Ok c =
    let a = content_read c.args.key c.args.version c.args.s.now _ c.requires _ c.in-Ok.ensures.value c.args.slots.now _ c.read_content.ensures.slots_after in
    record { value = a.0; slots_after = a.1 }

pub returns-in-Err : goal.returns-in-Err
returns-in-Err c =
    let a = content_refused c.args.key c.args.version c.args.s.now _ c.requires c.in-Err.fault c.in-Err.ensures.value c.args.slots.now _ _ c.read_content.ensures.slots_after c.refused.ensures in
    record { value = a.0; slots_after = a.1 }
