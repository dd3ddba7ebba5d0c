-- By the answer of `fixed_end`.
use Rattle.std.proofs.Common.{arith}
use Rattle.wire.specs.Integers.{Bytes}
use Rattle.number_lists.proofs.FixedWidth.{all_there, first_refused, known_end, known_cut}
use Rattle.elements.proofs.elements.fixed.Goals as goal

pub returns-in-Ok : goal.returns-in-Ok
unfolding Bytes
returns-in-Ok c =
    let a = c.args in
    let k = known_end _ _ _ _ _ c.in-Ok.ensures in
    rw k.1 (all_there a.s.now (λ i. omega (arith, c.type_inv.s i)) c.requires.0 (λ z. omega (arith, z, c.requires.1)) a.at a.count k.0)

pub returns-in-Err : goal.returns-in-Err
unfolding Bytes
returns-in-Err c =
    let a = c.args in
    let k = known_cut _ _ _ _ _ c.in-Err.ensures in
    first_refused a.s.now (λ i. omega (arith, c.type_inv.s i)) c.requires.0 (λ z. omega (arith, z, c.requires.1)) a.at a.count k.0 _ (rw k.1 at c.element_end.ensures)
