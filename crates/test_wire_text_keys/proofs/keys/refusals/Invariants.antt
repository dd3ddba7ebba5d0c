-- The count is the sum over the keys below k, and a key adds at most 5.
use Rattle.std.proofs.Common.{◌≡◌, ◌*◌, ◌≤◌}
use Rattle.protocol.specs.Refusals.{number_of}
use Rattle.test_wire_text_keys.specs.Keys.{refused_versions}
use Rattle.test_wire_text_keys.specs.Sums.{sum_below}
use Rattle.test_wire_text_keys.proofs.keys.refusals.Given as goal

abbrev pub invariant-loop-k : goal.invariant-loop-k
invariant-loop-k l = record {
  few : l.count ≤ 5 * l.k;
  counted : l.count ≡ sum_below (refused_versions (number_of l.why)) l.k;
}
