-- By whether a message is found.
use Rattle.slot_chunk_reader.proofs.SlotCalls.{next_message, next_none}
use borrow.Author.Rules.{rules}
use Rattle.slot_chunk_reader.proofs.slot_reader.next_entry.Statement.{statement}
use Rattle.slot_chunk_reader.proofs.slot_reader.next_entry.Tie as tie

pub next_entry_spec : {M : Type 1} → statement M
next_entry_spec =
    tie.close
    (tie.spec
    (λ c. search rules)
    (λ c. search rules)
    (λ c κs. search rules)
    (λ c. search rules)
    (λ c. search rules)
    (λ c. search rules)
    (λ c κs. search rules)
    (λ c.
    let told = c.before in
    let advance = told.before in
    let a = advance.before.before.before.before.before.args in
    next_message a.chunk.now a.reader.now a.entry.now _ advance.advance-next.ensures _ _ told.in-Message.is c.place_slots.ensures)
    (λ c.
    let advance = c.before in
    let a = advance.before.before.before.before.before.args in
    next_none a.chunk.now a.reader.now a.entry.now _ advance.advance-next.ensures c.in_default.in_default-own.keys2))
