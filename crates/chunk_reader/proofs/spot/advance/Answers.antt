-- An entry that is not refused ends after its four bytes, within the chunk.
use Rattle.std.proofs.Common.{arith, refl, sym, Ok}
use Rattle.byte_strings.specs.Stops.{told}
use Rattle.chunks.proofs.Entries.{entry_read}
use Rattle.chunk_reader.proofs.Spots.{entry_found}
use Rattle.chunk_reader.proofs.spot.advance.Goals as goal

pub overflow_add-first : goal.overflow_add-first
overflow_add-first c = let r = entry_read _ _ (told (Ok c.in-Ok.next)) c.in-Ok.ensures refl in omega (arith, r.after, r.within)

pub overflow_sub-place : goal.overflow_sub-place
overflow_sub-place c = let r = entry_read _ _ (told (Ok c.in-Ok.next)) c.in-Ok.ensures refl in omega (arith, r.after)

pub returns-in-Ok : goal.returns-in-Ok
returns-in-Ok c = entry_found c.args.s.now c.args.p (sym c.if-is_refused.ensures) c.if-left-eq0.false (told (Ok c.in-Ok.next)) c.in-Ok.ensures refl
