-- Count and sum are those of the texts below k, of which each adds at most 1 and at most 1,000.
use Rattle.std.proofs.Common.{◌≡◌, ◌*◌, ◌≤◌}
use Rattle.test_wire_text_keys.specs.Texts.{count_below, numbers_below}
use Rattle.test_wire_text_keys.proofs.utf8.tally.Given as goal

abbrev pub invariant-loop-k : goal.invariant-loop-k
invariant-loop-k l = ((l.count ≤ l.k) × (l.sum ≤ 1000 * l.k)) × ((l.count ≡ count_below l.lead l.len l.k) × (l.sum ≡ numbers_below l.lead l.len l.k))
