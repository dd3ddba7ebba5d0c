-- Two's complement loses no bit at any width: the upper half of the range is turned round, and turning twice is nothing.
-- Assumes nothing.
use mathlib.Core.Path.{◌≡◌, refl}
use mathlib.Core.Bool.{Bool, true, false}
use Prim.Native.Nat.{ℕ, zero, suc, ◌-◌, ◌*◌, ◌/◌, ◌<◌, ◌≤◌, ◌^◌}
use native.Mathlib.Nat.{pow-suc}
use native.Mathlib.Omega.{arith}
use lib.Dec.{ltb}
use lib.IntN.{ℤ, pos, negsuc}
use borrow.Author.Tests.{lt-ltb, le-ltb, ltb-true, ltb-false}
use Rattle.wire.specs.Signed.{signed, unsigned, Signed, SignedLaw}

positive : (n : ℕ) → 0 < 256 ^ n
positive zero = omega arith
positive (suc n) = rw pow-suc (omega (arith, positive n))

-- Half of the range, for a width of at least a byte, is half of it exactly.
pub halves : (n : ℕ) → 256 ^ suc n ≡ 256 ^ suc n / 2 * 2
halves n = rw pow-suc (omega arith)

pub below_half : (n x : ℕ) → x < 256 ^ n / 2 → signed n x ≡ pos x
unfolding signed
below_half n x h = rw (lt-ltb _ _ h)

pub above_half : (n x : ℕ) → 256 ^ n / 2 ≤ x → signed n x ≡ negsuc (256 ^ n - 1 - x)
unfolding signed
above_half n x h = rw (le-ltb _ _ h)

module _ (n : ℕ) where
  signed_unsigned : (z : ℤ) → Signed (suc n) z → signed (suc n) (unsigned (suc n) z) ≡ z
  unfolding unsigned
  signed_unsigned (pos x) h = below_half (suc n) x h
  signed_unsigned (negsuc k) h =
      let t : 256 ^ suc n - 1 - (256 ^ suc n - 1 - k) ≡ k = omega (arith, halves n) in
      rw (above_half (suc n) (256 ^ suc n - 1 - k) (omega (arith, halves n)), t)

  bits : (z : ℤ) → Signed (suc n) z → unsigned (suc n) z < 256 ^ suc n
  unfolding unsigned
  bits (pos x) h = omega (arith, halves n)
  bits (negsuc k) h = omega (arith, positive (suc n))

  half_cases : (P : ℤ → Type 0) (x : ℕ) → x < 256 ^ suc n → (x < 256 ^ suc n / 2 → P (pos x)) → (256 ^ suc n / 2 ≤ x → P (negsuc (256 ^ suc n - 1 - x))) → P (signed (suc n) x)
  half_cases P x h f g = go (ltb x (256 ^ suc n / 2)) refl
    where
      go : (b : Bool) → ltb x (256 ^ suc n / 2) ≡ b → P (signed (suc n) x)
      go true e = rw (below_half (suc n) x (ltb-true _ _ e)) (f (ltb-true _ _ e))
      go false e = rw (above_half (suc n) x (ltb-false _ _ e)) (g (ltb-false _ _ e))

  unsigned_signed : (x : ℕ) → x < 256 ^ suc n → unsigned (suc n) (signed (suc n) x) ≡ x
  unfolding unsigned
  unsigned_signed x h = half_cases (λ z. unsigned (suc n) z ≡ x) x h (λ l. refl) (λ l. omega arith)

  fits : (x : ℕ) → x < 256 ^ suc n → Signed (suc n) (signed (suc n) x)
  fits x h = half_cases (λ z. Signed (suc n) z) x h (λ l. l) (λ l. omega (arith, halves n))

pub twos_complement : (n : ℕ) → SignedLaw (suc n)
twos_complement n =
    record { signed_unsigned = signed_unsigned n; unsigned_signed = unsigned_signed n; bits = bits n; fits = fits n }
