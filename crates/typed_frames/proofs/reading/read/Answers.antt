-- The frame that was read comes back from its slots; each refusal is told as it is.
use Rattle.std.proofs.Common.{◌<◌, arith}
use Rattle.std.proofs.lemmas.Result.{err_from_is_err_and}
use Rattle.wire.specs.Integers.{Bytes}
use Rattle.typed_frames.proofs.Back.{read_typed_lem, refused_as_told}
use Rattle.typed_frames.proofs.reading.read.Goals as goal

pub returns-in_err-read : goal.returns-in_err-read
returns-in_err-read c =
    let p = err_from_is_err_and c.from_residual.result c.from_residual.ensures.1 in
    rw (p.1, p.2) (refused_as_told _ _ c.in_err-read.ensures.value)

pub returns : goal.returns
unfolding Bytes
returns c = read_typed_lem _ _ _ _ (λ i. omega (arith, c.type_inv.bytes i)) c.in_ok-read.ensures.value c.in_ok-read.ensures.slots_after _ c.frame_of.ensures
