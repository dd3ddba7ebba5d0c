-- Two's complement at any width: its law is that of specs/SignedLaws.antt. What a length's bits say of it: all ones are
-- -1, and above half of the range is what is below -1. Assumes nothing.
use mathlib.Core.Path.{◌≡◌}
use Prim.Native.Nat.{ℕ, suc, ◌-◌, ◌/◌, ◌<◌, ◌≤◌, ◌^◌}
use native.Mathlib.Omega.{arith}
use lib.IntN.{negsuc}
use Rattle.wire.specs.Signed.{signed}
use Rattle.wire.specs.SignedLaws.{halves}
pub use Rattle.wire.specs.SignedLaws.{below_half, above_half, twos_complement}

module _ (n x : ℕ) where
  pub minus_one : x < 256 ^ suc n → 256 ^ suc n ≤ suc x → signed (suc n) x ≡ negsuc 0
  minus_one h l =
      let e : 256 ^ suc n - 1 - x ≡ 0 = omega arith in
      rw (above_half (suc n) x (omega (arith, halves n)), e)

  pub below_minus_one : 256 ^ suc n / 2 ≤ x → suc x < 256 ^ suc n → (k : ℕ) × (signed (suc n) x ≡ negsuc (suc k))
  below_minus_one h l =
      let e : 256 ^ suc n - 1 - x ≡ suc (256 ^ suc n - 2 - x) = omega arith in
      (256 ^ suc n - 2 - x, rw (above_half (suc n) x h, e))
