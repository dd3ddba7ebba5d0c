-- A type whose bits are 0, 1 or 2 is that type in any width; with other bits it is none. Assumes nothing.
use mathlib.Core.Path.{◌≡◌, refl, ap, ◌∙◌, sym}
use mathlib.Core.Bool.{Bool, true, false}
use Prim.Native.Nat.{ℕ, suc, ◌/◌, ◌^◌, ◌≤◌}
use native.Mathlib.Nat.{pow-suc}
use native.Mathlib.Omega.{arith}
use lib.Dec.{eqb, leb, ltb}
use borrow.Author.Tests.{lt-leb, ne_eqb, ltb-true, ltb-false}
use Rattle.wire.specs.Signed.{signed}
use Rattle.wire.proofs.TwosComplement.{below_half, above_half}
use Rattle.wire.proofs.Widths.{positive}
use Rattle.rules.specs.Reading.{is_chunk_type, has_entries}

module _ (t n : ℕ) where
  half : 128 ≤ 256 ^ suc n / 2
  half = rw pow-suc (omega (arith, positive n))

  pub type_bits : leb t 2 ≡ is_chunk_type (signed (suc n) t)
  type_bits = by (ltb t (256 ^ suc n / 2)) refl
    where
      by : (b : Bool) → ltb t (256 ^ suc n / 2) ≡ b → leb t 2 ≡ is_chunk_type (signed (suc n) t)
      by true e = ap is_chunk_type (sym (below_half (suc n) t (ltb-true _ _ e)))
      by false e = let l = ltb-false _ _ e in lt-leb t 2 (omega (arith, half)) ∙ ap is_chunk_type (sym (above_half (suc n) t l))

  pub user_bits : eqb t 0 ≡ has_entries (signed (suc n) t)
  user_bits = by (ltb t (256 ^ suc n / 2)) refl
    where
      by : (b : Bool) → ltb t (256 ^ suc n / 2) ≡ b → eqb t 0 ≡ has_entries (signed (suc n) t)
      by true e = ap has_entries (sym (below_half (suc n) t (ltb-true _ _ e)))
      by false e = let l = ltb-false _ _ e in ne_eqb t 0 (λ z. omega (arith, half)) ∙ ap has_entries (sym (above_half (suc n) t l))
