-- Each turn leaves a session that stands where the reads and writes so far have led to.
use Rattle.std.proofs.Common.{◌≡◌, ◌-◌, ◌≤◌, length}
use Rattle.listing_text.specs.Steps.{greatest}
use Rattle.listing_loop.proofs.Runs.{Before}
use Rattle.listing_loop.proofs.session.turns.Given as goal

abbrev pub invariant-loop-made : goal.invariant-loop-made
invariant-loop-made g l = Before l.made l.at l.window l.text × (length l.window ≡ length l.fn.window) × (length l.text ≡ length l.fn.text) × (l.made ≤ greatest)

abbrev pub decreases-loop-made : goal.decreases-loop-made
decreases-loop-made g l = greatest - l.made
