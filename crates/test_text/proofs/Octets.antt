-- Bytes from pairs of digits, put at the start of a buffer one after another. Assumes nothing.
use Prim.Native.Nat.{ℕ, zero, suc, ◌+◌, ◌*◌, ◌/◌, ◌≤◌, ◌<◌}
use mathlib.Core.Path.{◌≡◌, refl, sym, ap, ap₂, ◌∙◌}
use mathlib.Core.List.{List, [], ◌∷◌, ◌++◌}
use native.Mathlib.Nat.{zero-add}
use native.Mathlib.Numerals.{add-one}
use native.Mathlib.Omega.{arith}
use lib.ListN.{length, get_or, take, drop, set}
use lib.Seq.{paste-suc, length-take-le}
use Rattle.io.specs.Counts.{IsPrefixLen}
use Rattle.test_text.specs.Digits.{digit_of, octets}

pub length_octets : (s : List ℕ) → length (octets s) ≡ length s / 2
unfolding octets
length_octets [] = refl
length_octets (a ∷ []) = refl
length_octets (a ∷ b ∷ s) = ap suc (length_octets s) ∙ omega arith

pub octet_at : (s : List ℕ) (i : ℕ) → i * 2 + 1 < length s → digit_of (get_or s (i * 2) 0) * 16 + digit_of (get_or s (i * 2 + 1) 0) ≡ get_or (octets s) i 0
unfolding octets
octet_at [] i h = absurd (omega (arith, h))
octet_at (a ∷ []) i h = absurd (omega (arith, h))
octet_at (a ∷ b ∷ s) zero h = refl
octet_at (a ∷ b ∷ s) (suc i) h =
    ap₂ (λ j k. digit_of (get_or (a ∷ b ∷ s) j 0) * 16 + digit_of (get_or (a ∷ b ∷ s) k 0)) (twice i) (twice_more i) ∙ octet_at s i (omega (arith, h))
  where
    twice : (i : ℕ) → suc i * 2 ≡ suc (suc (i * 2))
    twice i = omega arith

    twice_more : (i : ℕ) → suc i * 2 + 1 ≡ suc (suc (i * 2 + 1))
    twice_more i = omega arith

-- One byte more at the start of a buffer.
pub put_more : (out b o : List ℕ) (i x : ℕ) → i < length out → i < length b → o ≡ take i b ++ drop i out → x ≡ get_or b i 0 → set o i x ≡ take (i + 1) b ++ drop (i + 1) out
put_more out b o i x h k so e = rw (so, e, add-one) (simp zero-add at (paste-suc out 0 b i 0 (omega (arith, h)) k))
