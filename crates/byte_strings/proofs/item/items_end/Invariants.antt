-- What is left to read, from the place reached, is read as the whole is.
use Rattle.std.proofs.Common.{◌≡◌, ◌-◌}
use Rattle.rules.specs.Outcome.{repeated}
use Rattle.byte_strings.proofs.item.items_end.Given as goal

abbrev pub invariant-loop : goal.invariant-loop
invariant-loop g l = repeated (g.T.Item.read l.item) (l.count - l.counter) l.s l.at ≡ repeated (g.T.Item.read l.item) l.count l.s l.start
