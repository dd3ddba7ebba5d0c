-- The checks are those of the row, and its pieces are put one behind another.
use Rattle.std.proofs.Common.{sym, ◌∙◌, arith}
use borrow.Author.Tests.{leb-true}
use Rattle.protocol.specs.declared.kind.Element.TheVariants.{Property}
use Rattle.byte_strings.proofs.StringFields.{passes}
use Rattle.fast_writing.proofs.Chain.{frame_put, put_next, text_next, list_next}
use Rattle.fast_writing.proofs.Encoded.{not_err, list_inside, plain_checked, plain_written, subscribe_at}
use Rattle.fast_writing.proofs.consuming.subscribe.Goals as goal

pub overflow_add-size : goal.overflow_add-size
overflow_add-size c = omega (arith, (passes _ _ _ _ _ c.is_string.ensures c.if-not-is_string.false).short)

pub overflow_add-size-2 : goal.overflow_add-size-2
overflow_add-size-2 c =
    let z = not_err _ (sym c.is_err.ensures.value ∙ c.if-is_err.false) in
    let inside = list_inside _ c.args.src.now c.list_of-properties.result _ (plain_checked _ Property c.args.src.now c.list_of-properties.result c.plain_list.ensures _ c.check_list.ensures) z in
    omega (arith, (passes _ _ _ _ _ c.is_string.ensures c.if-not-is_string.false).short, inside)

pub returns : goal.returns
returns c =
    let s = c.args.slots.now in
    let src = c.args.src.now in
    let l = c.list_of-properties.result in
    let z = not_err _ (sym c.is_err.ensures.value ∙ c.if-is_err.false) in
    let inside = list_inside _ src l _ (plain_checked _ Property src l c.plain_list.ensures _ c.check_list.ensures) z in
    let w = plain_written _ Property src l c.plain_list.ensures _ _ _ _ c.list_of-properties.ensures c.check_list.ensures z in
    let t = passes _ _ _ _ _ c.is_string.ensures c.if-not-is_string.false in
    let id = leb-true _ _ (sym c.is_number.ensures ∙ c.if-not-is_number.false) in
    let subscription = leb-true _ _ (sym c.is_number-2.ensures ∙ c.if-not-is_number-2.false) in
    let credit = leb-true _ _ (sym c.is_number-3.ensures ∙ c.if-not-is_number-3.false) in
    frame_put 0x0007 _ _ c.args.out.now _ _ _ _ (subscribe_at s src c.place_of-stream.result c.place_of-stream.ensures l c.list_of-properties.ensures t w id subscription c.if-slots-ne4.false (omega (arith, c.fits-slots 7)) credit) (c.fits.ensures.0 c.if-not-fits.false)
    (list_next src _ _ _ _ l.count l.place _ inside (put_next _ _ _ _ _ _ (put_next _ _ _ _ _ _ (put_next _ _ _ _ _ _ (text_next src _ _ _ _ c.place_of-stream.result _ t.inside (put_next _ _ _ _ _ _ (put_next _ _ _ _ _ _ c.put_head-next.ensures c.put_number-next.ensures) c.put_number-next-2.ensures) c.put_string-next.ensures) c.put_number-next-3.ensures) c.put_number-next-4.ensures) c.put_number-next-5.ensures) c.put_list.ensures)
