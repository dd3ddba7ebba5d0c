-- The id and the list are put behind the head.
use Rattle.fast_writing.proofs.Chain.{frame_put, put_next, list_next}
use Rattle.fast_writing.proofs.Encoded.{listed_row}
use Rattle.fast_writing.proofs.publishing.put_listed.Goals as goal

pub returns : goal.returns
returns c =
    let l = c.args.list in
    frame_put c.args.key _ _ c.args.out.now _ _ _ _ (listed_row c.args.publisher_id l.count c.args.src.now l.place c.requires) (c.fits.ensures.0 c.if-not-fits.false)
    (list_next c.args.src.now _ _ _ _ l.count l.place _ c.requires (put_next _ _ _ _ _ _ c.put_head-next.ensures c.put_number-next.ensures) c.put_list.ensures)
