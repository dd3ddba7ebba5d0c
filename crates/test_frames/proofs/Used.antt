-- The last slot alone says whether it is used: if it is 0, the slots before it say the rest. Assumes nothing.
use Prim.Native.Nat.{ℕ, suc, ◌-◌, ◌≤◌, ◌<◌}
use mathlib.Core.Path.{◌≡◌, refl, ap, ◌∙◌}
use mathlib.Core.Bool.{Bool, true, false, cond, ◌&&◌}
use mathlib.Core.List.{List, [], ◌∷◌, ◌++◌}
use native.Mathlib.Omega.{arith}
use borrow.Author.Tests.{ne_eqb}
use lib.Dec.{eqb}
use lib.ListN.{length, get_or, take}
use lib.Seq.{take-suc, length-take-le}
use Rattle.test_frames.specs.Answers.{used}

after_zero : (xs : List ℕ) → used (xs ++ (0 ∷ [])) ≡ used xs
unfolding used
after_zero [] = refl
after_zero (x ∷ xs) = ap (λ n. cond (eqb x 0 && eqb n 0) 0 (suc n)) (after_zero xs)

neither : (t : Bool) (n : ℕ) → cond (t && false) 0 n ≡ n
neither true n = refl
neither false n = refl

up_to_last : (xs : List ℕ) (y : ℕ) → (y ≡ 0 → ⊥) → used (xs ++ (y ∷ [])) ≡ suc (length xs)
unfolding used
up_to_last [] y h = rw (ne_eqb y 0 h)
up_to_last (x ∷ xs) y h =
    ap (λ n. cond (eqb x 0 && eqb n 0) 0 (suc n)) (up_to_last xs y h) ∙ rw (ne_eqb (suc (length xs)) 0 (λ e. omega arith)) (neither (eqb x 0) (suc (suc (length xs))))

module _ (s : List ℕ) (n : ℕ) (some : 0 < n) (there : n ≤ length s) where
  last : take n s ≡ take (n - 1) s ++ (get_or s (n - 1) 0 ∷ [])
  last = ap (λ k. take k s) (let e : n ≡ suc (n - 1) = omega arith in e) ∙ take-suc s (n - 1) 0 (omega arith)

  pub used_less : get_or s (n - 1) 0 ≡ 0 → used (take n s) ≡ used (take (n - 1) s)
  used_less e = ap used last ∙ ap (λ y. used (take (n - 1) s ++ (y ∷ []))) e ∙ after_zero (take (n - 1) s)

  pub used_up_lem : (get_or s (n - 1) 0 ≡ 0 → ⊥) → used (take n s) ≡ n
  used_up_lem h = ap used last ∙ up_to_last (take (n - 1) s) (get_or s (n - 1) 0) h ∙ ap suc (length-take-le (n - 1) s (omega arith)) ∙ omega arith

pub used_none : (s : List ℕ) (n : ℕ) → n ≤ 0 → used (take n s) ≡ 0
unfolding used
used_none s n h = ap (λ k. used (take k s)) (let e : n ≡ 0 = omega arith in e)
