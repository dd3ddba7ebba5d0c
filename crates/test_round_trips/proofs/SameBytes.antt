-- Bytes that are the same in two slices, one after another. Assumes nothing.
use Prim.Native.Nat.{ℕ, zero, suc, ◌≤◌, ◌<◌}
use mathlib.Core.Path.{◌≡◌, refl, ap}
use mathlib.Core.Bool.{Bool, true, false, ◌&&◌}
use mathlib.Core.List.{List, [], ◌∷◌}
use mathlib.Core.Logic.{◌⊎◌, inl, inr}
use native.Mathlib.Omega.{arith}
use lib.Dec.{eqb}
use lib.ListN.{length, take}
use Rattle.std.specs.Str.{bytes_eq}
use Rattle.rules.specs.Reading.{read_frame}
use Rattle.test_round_trips.specs.Trip.{alike, is_frame}

unsame : {A : Type 0} → false ≡ true → A
unsame e = absurd (let z : ◌≡◌ {A = ℕ} 0 1 = cc in omega arith)

pub both_there : (n : ℕ) (s t : List ℕ) → alike n s t ≡ true → (n ≤ length s) × (n ≤ length t)
unfolding alike
both_there zero s t e = omega arith
both_there (suc n) [] t e = unsame e
both_there (suc n) (x ∷ s) [] e = unsame e
both_there (suc n) (x ∷ s) (y ∷ t) e = let h = both_there n s t (second (eqb x y) (alike n s t) e) in omega (arith, h)
  where
    second : (u v : Bool) → u && v ≡ true → v ≡ true
    second true v e = e
    second false v e = unsame e

-- Where one is cut they are not alike.
pub cut : (n : ℕ) (s t : List ℕ) → (length s < n) ⊎ ((n ≤ length s) × (length t < n)) → false ≡ alike n s t
cut n s t h = by (alike n s t) (both_there n s t) h
  where
    by : (a : Bool) → (a ≡ true → (n ≤ length s) × (n ≤ length t)) → (length s < n) ⊎ ((n ≤ length s) × (length t < n)) → false ≡ a
    by true f (inl l) = let g = f refl in absurd (omega (arith, g, l))
    by true f (inr l) = let g = f refl in absurd (omega (arith, g, l.1))
    by false f h = refl

pub same_bytes : (n : ℕ) (s t : List ℕ) → n ≤ length s → n ≤ length t → bytes_eq (take n s) (take n t) ≡ alike n s t
unfolding alike
same_bytes zero s t h g = refl
same_bytes (suc n) [] t h g = absurd (omega (arith, h))
same_bytes (suc n) (x ∷ s) [] h g = absurd (omega (arith, g))
same_bytes (suc n) (x ∷ s) (y ∷ t) h g = ap (λ (b : Bool). eqb x y && b) (same_bytes n s t (omega (arith, h)) (omega (arith, g)))

-- No bytes are no frame.
pub not_empty : (n : ℕ) (out : List ℕ) → is_frame (read_frame (take n out) 0) ≡ true → 0 < n
unfolding read_frame
not_empty zero out e = unsame e
not_empty (suc n) out e = omega arith
