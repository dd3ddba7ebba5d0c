-- A sum over the numbers below a bound grows by one term a turn. Assumes nothing.
use Prim.Native.Nat.{ℕ, ◌+◌, ◌≤◌}
use mathlib.Core.Path.{◌≡◌, refl, sym, ap, ap₂, ◌∙◌}
use native.Mathlib.Numerals.{add-one}
use native.Mathlib.Omega.{arith}
use Rattle.test_wire_text_keys.specs.Sums.{sum_below}

pub sum_none : (f : ℕ → ℕ) → 0 ≡ sum_below f 0
unfolding sum_below
sum_none f = refl

pub sum_more : (f : ℕ → ℕ) (n total more : ℕ) → total ≡ sum_below f n → more ≡ f n → total + more ≡ sum_below f (n + 1)
unfolding sum_below
sum_more f n total more so term = ap₂ ◌+◌ so term ∙ ap (sum_below f) (sym (add-one n))

pub sum_whole : (f : ℕ → ℕ) (n end total : ℕ) → total ≡ sum_below f n → n ≤ end → end ≤ n → total ≡ sum_below f end
sum_whole f n end total so low high = so ∙ ap (sum_below f) (omega arith)
