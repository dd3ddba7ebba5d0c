-- The loop goes from frame to frame, and no frame is longer than what is left. Each has a byte at least.
use Rattle.std.proofs.Common.{length, ◌-◌, ◌≤◌}
use Rattle.test_round_trips.proofs.trip.walk.Given as goal

abbrev pub invariant-loop-len : goal.invariant-loop-len
invariant-loop-len l = (l.at ≤ length l.s) × (l.frames ≤ l.at)

abbrev pub decreases-loop-len : goal.decreases-loop-len
decreases-loop-len l = length l.s - l.at
