-- By whether the chunk is refused.
use Rattle.slot_chunk_reader.proofs.SlotCalls.{open_refused, open_ready}
use borrow.Author.Rules.{rules}
use Rattle.slot_chunk_reader.proofs.slot_reader.open_chunk.Statement.{statement}
use Rattle.slot_chunk_reader.proofs.slot_reader.open_chunk.Tie as tie

pub open_chunk_spec : {M : Type 1} → statement M
open_chunk_spec =
    tie.close
    (tie.spec
    (λ c κs. search rules)
    (λ c. search rules)
    (λ c.
    let start = c.before in
    open_refused _ _ _ start.start-first.ensures _ c.in-Refused.is)
    (λ c.
    let start = c.before.before in
    open_ready _ start.before.before.args.reader.now _ start.start-first.ensures c.before.in_default.in_default-own.keys2))
