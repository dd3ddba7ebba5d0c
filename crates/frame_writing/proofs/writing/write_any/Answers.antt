-- Measuring tells Size or a refusal; Size is checked; what is put has room.
use Rattle.std.proofs.Common.{sym, arith}
use Rattle.std.proofs.lemmas.Result.{err_from_is_err_and}
use Rattle.protocol.proofs.Refused.{some_number}
use Rattle.slots.specs.Unflat.{unflat_frame, write_flat}
use Rattle.frame_head.proofs.Heads.{fits}
use Rattle.frame_writing.proofs.Flattened.{layout_refused, is_listed, content_measured, content_put}
use Rattle.frame_writing.proofs.Writings.{fields_refused, sized, size_refused, frame_put}
use Rattle.frame_writing.proofs.writing.write_any.Goals as goal

pub returns-in_err-fields : goal.returns-in_err-fields
returns-in_err-fields c =
    let p = err_from_is_err_and c.from_residual.result c.from_residual.ensures.1 in
    rw (p.1, p.2) (layout_refused c.args.slots.now c.in_err-fields.field-0.0 c.args.src.now c.args.limit c.args.out.now c.in_err-fields.ensures.decision)

pub returns-in_err-size : goal.returns-in_err-size
unfolding write_flat unflat_frame
returns-in_err-size c =
    let s = c.args.slots.now in
    let p = err_from_is_err_and c.from_residual-in_err-size.result c.from_residual-in_err-size.ensures.1 in
    let m = content_measured s c.told-slots _ c.in_ok-fields.ensures.row c.args.src.now 4 _ c.in_err-size.ensures.length in
    rw (p.1, p.2) (fields_refused (unflat_frame s) c.args.src.now c.args.limit c.args.out.now (is_listed s c.in_ok-fields.fields c.in_ok-fields.ensures.decision) c.in_err-size.field-0.0.refusal m)

pub returns-in_err-check_size : goal.returns-in_err-check_size
unfolding write_flat unflat_frame
returns-in_err-check_size c =
    let s = c.args.slots.now in
    let p = err_from_is_err_and c.from_residual-in_err-check_size.result c.from_residual-in_err-check_size.ensures.1 in
    let listed = is_listed s c.in_ok-fields.fields c.in_ok-fields.ensures.decision in
    let m = content_measured s c.told-slots _ c.in_ok-fields.ensures.row c.args.src.now 4 _ c.in_ok-size.ensures.length in
    let w = sized (unflat_frame s) c.args.src.now c.args.limit c.args.out.now listed c.in_ok-size.size m in
    rw (p.1, p.2) (size_refused (unflat_frame s) c.args.src.now c.args.limit c.args.out.now listed c.in_ok-size.size w _ c.in_err-check_size.ensures (some_number c.in_err-check_size.field-0.0))

pub overflow_add-result : goal.overflow_add-result
overflow_add-result c = omega (arith, (fits _ _ _ (sym c.in_ok-check_size.ensures)).bound)

pub returns : goal.returns
unfolding write_flat unflat_frame
returns c =
    let s = c.args.slots.now in
    let src = c.args.src.now in
    let listed = is_listed s c.in_ok-fields.fields c.in_ok-fields.ensures.decision in
    let m = content_measured s c.told-slots _ c.in_ok-fields.ensures.row src 4 _ c.in_ok-size.ensures.length in
    let w = sized (unflat_frame s) src c.args.limit c.args.out.now listed c.in_ok-size.size m in
    let fit = fits _ _ _ (sym c.in_ok-check_size.ensures) in
    let put = content_put s c.told-slots _ c.in_ok-fields.ensures.row src _ _ c.put_fields.ensures in
    frame_put (unflat_frame s) src c.args.limit c.args.out.now listed c.in_ok-size.size w fit.bound fit.limited fit.roomy _ _ _ _ c.put_head-next.ensures put
