-- A byte string that no check refuses is written as its length and its bytes.
use Rattle.std.proofs.Common.{false, sym, arith}
use borrow.Author.Tests.{le-ltb}
use Rattle.protocol.specs.Kinds.{length_width}
use Rattle.byte_strings.proofs.Parts.{with_front}
use Rattle.byte_strings.proofs.StringFields.{admitted, admitted_bytes, most_small, narrow}
use Rattle.fields.proofs.text.measure_string.Goals as goal

pub overflow_add-result : goal.overflow_add-result
overflow_add-result c =
    let a = c.args in
    let good = admitted a.form a.src.now a.place.at a.place.len (sym c.in_ok-check_string.ensures) in
    omega (arith, good.short, most_small a.form, narrow a.form, c.bytes.ensures, c.length_width.ensures)

pub returns : goal.returns
returns c =
    let a = c.args in
    let good = admitted a.form a.src.now a.place.at a.place.len (sym c.in_ok-check_string.ensures) in
    rw (c.bytes.ensures, c.length_width.ensures, admitted_bytes a.form a.src.now a.place.at a.place.len false good, with_front (length_width a.form) a.place.len a.src.now a.place (le-ltb _ _ good.inside))
