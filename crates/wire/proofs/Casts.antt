-- What a test of a signed number's sign says of it. Assumes nothing.
use mathlib.Core.Path.{◌≡◌, refl, ◌∙◌, ap, sym}
use mathlib.Core.Bool.{true, false, true≢false, false≢true}
use Prim.Native.Nat.{ℕ}
use lib.Dec.{leb-suc-zero}
use lib.IntN.{ℤ, pos, negsuc}
use lib.Signed.{lt_z}
use mir.Syntax.{Width}
use mir.Val.{SFits, to_z, of_z}
use mir.Facts.{to_z-of_z}

pub record Below (z : ℤ) : Type 0 where
  pub k : ℕ
  pub is : z ≡ negsuc k

pub record NotBelow (w : Width) (z : ℤ) : Type 0 where
  pub k : ℕ
  pub is : z ≡ pos k
  pub same : to_z w (of_z w z) ≡ pos k

pub below : (w : Width) (z : ℤ) → SFits w z → lt_z (to_z w (of_z w z)) (pos 0) ≡ true → Below z
below w z f e = by_sign z (ap (λ (x : ℤ). lt_z x (pos 0)) (sym (to_z-of_z f)) ∙ e)
  where
    by_sign : (z : ℤ) → lt_z z (pos 0) ≡ true → Below z
    by_sign (pos n) e = absurd (false≢true (sym (leb-suc-zero n) ∙ e))
    by_sign (negsuc n) e = record { k = n; is = refl }

pub not_below : (w : Width) (z : ℤ) → SFits w z → lt_z (to_z w (of_z w z)) (pos 0) ≡ false → NotBelow w z
not_below w z f e = by_sign z f (ap (λ (x : ℤ). lt_z x (pos 0)) (sym (to_z-of_z f)) ∙ e)
  where
    by_sign : (z : ℤ) → SFits w z → lt_z z (pos 0) ≡ false → NotBelow w z
    by_sign (pos n) f e = record { k = n; is = refl; same = to_z-of_z f }
    by_sign (negsuc n) f e = absurd (true≢false e)
