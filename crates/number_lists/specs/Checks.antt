-- What is checked of a list that is written before its elements are: the count (7), and their place (6). 0 says that neither is
-- refused.
use Rattle.std.specs.Prelude.{cond, List, ℕ, leb}
use Rattle.protocol.specs.Fields.{outside}
use Rattle.protocol.specs.Refusals.{field_cut, bad_length}
use Rattle.protocol.specs.declared.place.Place.{Place}

unfoldable pub before_elements : List ℕ → ℕ → Place → ℕ
before_elements src count p = cond (leb 0x8000_0000 count) bad_length (cond (outside p src) field_cut 0)
