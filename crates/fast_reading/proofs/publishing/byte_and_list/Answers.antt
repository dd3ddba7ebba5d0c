-- The list ends with the content.
use Rattle.std.proofs.Common.{refl, ◌∙◌, sym, arith}
use Rattle.wire.specs.Integers.{Bytes}
use Rattle.protocol.specs.Kinds.{list, plain}
use Rattle.rules.specs.Reading.{read_field}
use Rattle.byte_strings.specs.Stops.{stop_at}
use Rattle.fast_reading.proofs.Rows.{byte_and_list, ended_at}
use Rattle.fast_reading.proofs.publishing.byte_and_list.Goals as goal

pub returns : goal.returns
unfolding Bytes
returns c row is_row read =
    let a = c.args in
    let e = ended_at (read_field (list plain row) a.s.now 1) a.list_end c.in_ok-ok.field-0 (sym c.in_ok-ok.was ∙ c.ok.ensures.value) read in
    rw c.filled.ensures (byte_and_list row a.s.now (stop_at c.in_ok-ok.field-0 0) refl c.if-branch-s.false a.key a.slots.now _ _ is_row (λ i. omega (arith, c.type_inv.s i)) c.if-s-lt5.false c.number-publisher_id.ensures c.number-count.ensures e)
