-- By the kind.
use Rattle.std.proofs.Common.{◌∙◌, arith}
use Rattle.wire.specs.Integers.{Bytes}
use Rattle.rules.specs.Reading.{read_field}
use Rattle.elements.proofs.Rows.{number_end, signed_end}
use Rattle.elements.proofs.element.field_end.Goals as goal

pub returns-in-Number : goal.returns-in-Number
unfolding Bytes
returns-in-Number c = rw c.in-Number.is (c.number_end.ensures ∙ number_end c.args.s.now c.args.at c.in-Number.width (λ i. omega (arith, c.type_inv.s i)))

pub returns-in-Signed : goal.returns-in-Signed
returns-in-Signed c = rw c.in-Signed.is (c.number_end-in-Signed.ensures ∙ signed_end c.args.s.now c.args.at 8)

pub returns-in-String : goal.returns-in-String
unfolding read_field
returns-in-String c = rw c.in-String.is c.string_end.ensures
