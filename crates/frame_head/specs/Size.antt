-- Behind the fields of a frame that is written: Size above the limit or above 4,294,967,295 (2), output shorter than the frame
-- (12).
use Rattle.std.specs.Prelude.{◌≡◌, false, cond, ◌||◌, ℕ, ◌+◌, ◌≤◌, ltb}
use Rattle.protocol.specs.Refusals.{frame_too_large, no_room}
use Rattle.rules.specs.Reading.{over_limit}

unfoldable pub size_refusal : ℕ → ℕ → ℕ → ℕ
size_refusal limit size room =
    cond (ltb 0xffff_ffff size || over_limit limit size) frame_too_large
    (cond (ltb room (size + 4)) no_room 0)

-- A Size that is not refused.
pub record Fits (limit size room : ℕ) : Type 0 where
  pub bound : size ≤ 0xffff_ffff
  pub limited : over_limit limit size ≡ false
  pub roomy : size + 4 ≤ room
