-- What receiving into slots answers, and what the slots hold afterwards.
use Rattle.std.specs.Prelude.{List, ℕ, Result, Ok, Err}
use Rattle.std.proofs.Math.Option.{Option, none, some}
use Rattle.protocol.specs.Refusals.{number_of}
use Rattle.rules.specs.Answers.{Refusal, numbered}
use Rattle.ledger.specs.Calls.{Answer, accepted, refused}
use Rattle.credit_ledger.specs.Calls.{Reply, nothing, frame, number, short, unread}
use Rattle.credit_ledger.specs.Calls as credit
use Rattle.slots.specs.Flat.{flat_frame}
use Rattle.frame_reading.specs.Answer.{refusal_in}
use Rattle.frame_reading.specs.declared.reading.ReadError.TheVariants as reading
use Rattle.credit_receiving.specs.declared.receiving.ReceiveError.{ReceiveError}
use Rattle.credit_receiving.specs.declared.receiving.ReceiveError.TheVariants.{Read, Ledger}

-- What the code's answer says: the frame itself is in the slots.
abbrev pub said : Result Unit ReceiveError → Answer Unit credit.Refusal
said (Ok received) = accepted tt
said (Err (Read (reading.Short needed))) = refused (short needed)
said (Err (Read (reading.Refused fault))) = refused (unread (number_of fault.refusal) fault.at)
said (Err (Ledger refusal)) = refused (number (number_of refusal))

-- What a reply says of it.
abbrev pub answer_of : Reply → Answer Unit credit.Refusal
answer_of (accepted y) = accepted tt
answer_of (refused r) = refused r

-- The refusal that each answer is, in 01's terms.
abbrev pub received_refusal : Result Unit ReceiveError → Option Refusal
received_refusal (Ok received) = none
received_refusal (Err (Read error)) = some (refusal_in error)
received_refusal (Err (Ledger refusal)) = some (numbered (number_of refusal))

-- A refusal, by the ledger or by reading, leaves the slots as they were.
abbrev pub slots_after : List ℕ → Reply → List ℕ
slots_after old (accepted nothing) = old
slots_after old (accepted (frame f)) = flat_frame f
slots_after old (refused (number n)) = old
slots_after old (refused (short needed)) = old
slots_after old (refused (unread n place)) = old
