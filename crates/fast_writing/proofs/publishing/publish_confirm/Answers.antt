-- The checks are those of the row.
use Rattle.std.proofs.Common.{sym, ap, ◌∙◌}
use borrow.Author.Tests.{leb-true}
use Rattle.rules.specs.Writing.{Encoding, write_encoded}
use Rattle.fast_writing.proofs.Encoded.{not_err, list_inside, confirm_row}
use Rattle.fast_writing.proofs.Flattened.{same_writing}
use Rattle.fast_writing.proofs.publishing.publish_confirm.Goals as goal

pub put_listed-requires : goal.put_listed-requires
put_listed-requires c =
    let z = not_err _ (sym c.is_err.ensures.value ∙ c.if-is_err.false) in
    list_inside _ c.args.src.now c.list_of-publishing_ids.result _ (c.check_numbers.ensures) z

pub returns : goal.returns
returns c =
    let s = c.args.slots.now in
    let src = c.args.src.now in
    let z = not_err _ (sym c.is_err.ensures.value ∙ c.if-is_err.false) in
    let id = leb-true _ _ (sym c.is_number.ensures ∙ c.if-not-is_number.false) in
    let row = confirm_row s src c.list_of-publishing_ids.result c.list_of-publishing_ids.ensures _ z id (c.check_numbers.ensures) in
    same_writing _ _ c.args.out.now c.put_listed.new.out c.put_listed.result (ap (λ (e : Encoding). write_encoded 0x0003 1 e c.args.limit c.args.out.now) row) c.put_listed.ensures
