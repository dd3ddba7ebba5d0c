-- The 64 bits of a signed number, narrowed, are its bits in the narrower field; and whether a header's numbers fit their fields.
-- Assumes nothing.
use mathlib.Core.Path.{◌≡◌, refl, ◌∙◌, sym, ap}
use mathlib.Core.Bool.{Bool, true, false, cond, ◌&&◌}
use mathlib.Core.List.{List}
use Prim.Native.Nat.{ℕ, ◌+◌, ◌-◌, ◌/◌, ◌^◌, ◌<◌, ◌≤◌}
use native.Mathlib.Omega.{arith}
use lib.Dec.{leb, ltb}
use lib.IntN.{ℤ, pos, negsuc}
use lib.ListN.{get_or}
use borrow.Author.Tests.{lt-ltb, le-ltb, ltb-true, leb-true, leb-false}
use mir.Syntax.{Width}
use mir.Val.{hbits}
use Rattle.std.specs.Prelude.{Result, Ok, Err, OkIff, FitsSigned, is_ok}
use Rattle.wire.specs.Signed.{signed, unsigned, Signed}
use Rattle.wire.proofs.TwosComplement.{twos_complement}
use Rattle.rules.specs.Writing.{fits_signed, fits_header}
use Rattle.fields.proofs.Encodings.{signed_fits}
use Rattle.slots.specs.Unflat.{unflat_header}
use Rattle.slot_writing.specs.Narrow.{narrow}

bits_by : (n x : ℕ) (t : Bool) → cond t x (256 ^ n - 1 - (0xffff_ffff_ffff_ffff - x)) ≡ unsigned n (cond t (pos x) (negsuc (0xffff_ffff_ffff_ffff - x)))
unfolding unsigned
bits_by n x true = refl
bits_by n x false = refl

pub narrow_bits : (n x : ℕ) → narrow (256 ^ n - 1) x ≡ unsigned n (signed 8 x)
unfolding narrow signed
narrow_bits n x = bits_by n x (ltb x 0x8000_0000_0000_0000)

-- A number of eight bytes fits.
signed_whole : (z : ℤ) → Signed 8 z → fits_signed 8 z ≡ true
signed_whole (pos x) h = lt-ltb _ _ h
signed_whole (negsuc k) h = lt-ltb _ _ h

pub whole_fits : (x : ℕ) → x < 0x1_0000_0000_0000_0000 → fits_signed 8 (signed 8 x) ≡ true
whole_fits x h = signed_whole (signed 8 x) ((twos_complement 7).fits x h)

-- ---- The header

-- What a conversion to a narrower type tells.
module _ (w : Width) (n : ℕ) (half : 2 ^ hbits w ≡ 256 ^ n / 2) where
  not_below : (x : ℕ) → (x < 2 ^ hbits w → ⊥) → ltb x (256 ^ n / 2) ≡ false
  not_below x h = by (ltb x (256 ^ n / 2)) refl
    where
      by : (t : Bool) → ltb x (256 ^ n / 2) ≡ t → ltb x (256 ^ n / 2) ≡ false
      by true e = absurd (h (rw half (ltb-true _ _ e)))
      by false e = e

  not_fitting : (z : ℤ) → (FitsSigned w z → ⊥) → fits_signed n z ≡ false
  not_fitting (pos x) h = not_below x (λ l. h (record { sfits = l }))
  not_fitting (negsuc k) h = not_below k (λ l. h (record { sfits = l }))

  pub fits_as : {E : Type 0} (r : Result ℤ E) (t : Bool) (z y : ℤ) → OkIff r (FitsSigned w z) z → z ≡ y → t ≡ is_ok r → t ≡ fits_signed n y
  fits_as (Ok x) t z y o e i = i ∙ sym (signed_fits w n z half o.0) ∙ ap (fits_signed n) e
  fits_as (Err d) t z y o e i = i ∙ sym (not_fitting z o) ∙ ap (fits_signed n) e

-- A number that is at most the largest of so many bytes.
pub below_as : (m : ℕ) {v x : ℕ} {t : Bool} → t ≡ leb v m → v ≡ x → t ≡ ltb x (m + 1)
below_as m {v} {x} e i = e ∙ ap (λ (y : ℕ). leb y m) i ∙ by (leb x m) refl
  where
    by : (t : Bool) → leb x m ≡ t → leb x m ≡ ltb x (m + 1)
    by true j = let l : x < m + 1 = omega (arith, leb-true _ _ j) in rw (j, lt-ltb _ _ l)
    by false j = let l : m + 1 ≤ x = omega (arith, leb-false _ _ j) in rw (j, le-ltb _ _ l)

-- The numbers of eight bytes fit.
eights : (p t u v : Bool) → t ≡ true → u ≡ true → v ≡ true → (p && t && u && v) ≡ p
eights true t u v i j k = rw (i, j, k)
eights false t u v i j k = refl

module _ (t : List ℕ) (w : (i : ℕ) → get_or t i 0 < 0x1_0000_0000_0000_0000) {e r d l b v x y z : Bool} where
  pub header_tells : x ≡ fits_signed 1 (signed 8 (get_or t 0 0)) → y ≡ fits_signed 1 (signed 8 (get_or t 1 0)) → e ≡ ltb (get_or t 2 0) 0x1_0000 → r ≡ ltb (get_or t 3 0) 0x1_0000_0000 → z ≡ fits_signed 4 (signed 8 (get_or t 7 0)) → d ≡ ltb (get_or t 8 0) 0x1_0000_0000 → l ≡ ltb (get_or t 9 0) 0x1_0000_0000 → b ≡ ltb (get_or t 10 0) 0x100 → v ≡ ltb (get_or t 11 0) 0x100_0000 → (x && y && e && r && z && d && l && b && v) ≡ fits_header (unflat_header t)
  header_tells i₀ i₁ i₂ i₃ i₇ i₈ i₉ i₁₀ i₁₁ =
      rw (
        i₀,
        i₁,
        i₂,
        i₃,
        i₇,
        i₈,
        i₉,
        i₁₀,
        i₁₁,
        eights (fits_signed 1 (signed 8 (get_or t 0 0)) && fits_signed 1 (signed 8 (get_or t 1 0)) && ltb (get_or t 2 0) (256 ^ 2) && ltb (get_or t 3 0) (256 ^ 4)) _ _ _ (whole_fits (get_or t 4 0) (w 4)) (lt-ltb (get_or t 5 0) (256 ^ 8) (w 5)) (lt-ltb (get_or t 6 0) (256 ^ 8) (w 6)),
      )
