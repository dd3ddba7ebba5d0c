-- The checks are those of the row, and the numbers are put one behind another.
use Rattle.std.proofs.Common.{[], sym, ◌∙◌}
use borrow.Author.Tests.{leb-true}
use Rattle.fast_writing.proofs.Chain.{frame_put, put_next}
use Rattle.fast_writing.proofs.Encoded.{credit_row}
use Rattle.fast_writing.proofs.consuming.credit.Goals as goal

pub returns : goal.returns
returns c =
    let id = leb-true _ _ (sym c.is_number.ensures ∙ c.if-not-is_number.false) in
    let credit = leb-true _ _ (sym c.is_number-2.ensures ∙ c.if-not-is_number-2.false) in
    frame_put 0x0009 _ _ c.args.out.now _ _ _ _ (credit_row c.args.slots.now [] id credit) (c.fits.ensures.0 c.if-not-fits.false)
    (put_next _ _ _ _ _ _ (put_next _ _ _ _ _ _ c.put_head-next.ensures c.put_number-next.ensures) c.put_number.ensures)
