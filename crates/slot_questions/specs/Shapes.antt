-- What the code says of a kind of element.
use Rattle.std.specs.Prelude.{Some, None}
use Rattle.std.specs.Prelude as std
use Rattle.std.proofs.Math.Option.{Option, none, some}
use Rattle.protocol.specs.declared.kind.Element.{Element}

abbrev pub kind_in : std.Option Element → Option Element
kind_in (Some k) = some k
kind_in None = none
