-- Each number is there, and stands at its place.
use Rattle.std.proofs.Common.{◌≡◌, ◌+◌, arith}
use Rattle.wire.specs.Integers.{Bytes}
use Rattle.slot_reading.proofs.Headers.{fits, header_slots}
use Rattle.slot_reading.proofs.filling.chunk_slots.Goals as goal

pub overflow_cast-number_or_zero : goal.overflow_cast-number_or_zero
unfolding Bytes
overflow_cast-number_or_zero c =
    let b : Bytes c.args.s.now = λ i. omega (arith, c.type_inv.s i) in
    let z : c.args.at + 0 ≡ c.args.at = omega arith in
    omega (arith, fits c.args.s.now c.args.at 0 b c.requires.0 1 0 c.number_or_zero.result (omega arith) (rw z c.number_or_zero.ensures))

pub overflow_cast-number_or_zero-2 : goal.overflow_cast-number_or_zero-2
unfolding Bytes
overflow_cast-number_or_zero-2 c =
    let b : Bytes c.args.s.now = λ i. omega (arith, c.type_inv.s i) in
    omega (arith, fits c.args.s.now c.args.at 0 b c.requires.0 1 1 _ (omega arith) c.number_or_zero-2.ensures)

pub overflow_cast-number_or_zero-3 : goal.overflow_cast-number_or_zero-3
unfolding Bytes
overflow_cast-number_or_zero-3 c =
    let b : Bytes c.args.s.now = λ i. omega (arith, c.type_inv.s i) in
    omega (arith, fits c.args.s.now c.args.at 0 b c.requires.0 4 32 _ (omega arith) c.number_or_zero-8.ensures)

pub returns : goal.returns
unfolding Bytes
returns c =
    let s = c.args.s.now in
    let b : Bytes s = λ i. omega (arith, c.type_inv.s i) in
    header_slots s c.args.at c.args.base b c.requires.0 _ _ _ _ _ _ _ _ _ _ _ _ _ _ _ _
    c.number_or_zero.ensures
    c.widened8.ensures
    c.number_or_zero-2.ensures
    c.widened8-2.ensures
    c.number_or_zero-3.ensures
    c.number_or_zero-4.ensures
    c.number_or_zero-5.ensures
    c.number_or_zero-6.ensures
    c.number_or_zero-7.ensures
    c.number_or_zero-8.ensures
    c.widened32.ensures
    c.number_or_zero-9.ensures
    c.number_or_zero-10.ensures
    c.number_or_zero-11.ensures
    c.number_or_zero-12.ensures
    c.number_or_zero-13.ensures
