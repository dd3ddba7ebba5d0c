-- The checks are those of the row, and its pieces are put one behind another.
use Rattle.std.proofs.Common.{sym, ◌∙◌, arith}
use borrow.Author.Tests.{leb-true}
use Rattle.byte_strings.proofs.StringFields.{passes}
use Rattle.fast_writing.proofs.Chain.{frame_put, put_next, text_next}
use Rattle.fast_writing.proofs.Encoded.{declare_at}
use Rattle.fast_writing.proofs.publishing.declare_publisher.Goals as goal

pub overflow_add-size : goal.overflow_add-size
overflow_add-size c = omega (arith, (passes _ _ _ _ _ c.is_string.ensures c.if-not-is_string.false).short)

pub overflow_add-size-2 : goal.overflow_add-size-2
overflow_add-size-2 c =
    omega (arith, (passes _ _ _ _ _ c.is_string.ensures c.if-not-is_string.false).short, (passes _ _ _ _ _ c.is_string-2.ensures c.if-not-is_string-2.false).short)

pub returns : goal.returns
returns c =
    let s = c.args.slots.now in
    let src = c.args.src.now in
    let t = passes _ _ _ _ _ c.is_string.ensures c.if-not-is_string.false in
    let u = passes _ _ _ _ _ c.is_string-2.ensures c.if-not-is_string-2.false in
    let id = leb-true _ _ (sym c.is_number.ensures ∙ c.if-not-is_number.false) in
    let publisher = leb-true _ _ (sym c.is_number-2.ensures ∙ c.if-not-is_number-2.false) in
    frame_put 0x0001 _ _ c.args.out.now _ _ _ _ (declare_at s src c.place_of-reference.result c.place_of-reference.ensures c.place_of-stream.result c.place_of-stream.ensures t u id publisher) (c.fits.ensures.0 c.if-not-fits.false)
    (text_next src _ _ _ _ c.place_of-stream.result _ u.inside (text_next src _ _ _ _ c.place_of-reference.result _ t.inside (put_next _ _ _ _ _ _ (put_next _ _ _ _ _ _ c.put_head-next.ensures c.put_number-next.ensures) c.put_number-next-2.ensures) c.put_string-next.ensures) c.put_string.ensures)
