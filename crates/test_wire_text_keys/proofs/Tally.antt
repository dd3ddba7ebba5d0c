-- One text more, which passes or does not. Assumes nothing.
use Prim.Native.Nat.{ℕ, ◌+◌}
use mathlib.Core.Path.{◌≡◌, sym, ◌∙◌}
use mathlib.Core.Bool.{true, false}
use native.Mathlib.Nat.{add-zero}
use Rattle.test_wire_text_keys.specs.Texts.{passes, count_below, numbers_below}
use Rattle.test_wire_text_keys.proofs.Sums.{sum_more}

module _ (lead len k count sum : ℕ) (c : count ≡ count_below lead len k) (s : sum ≡ numbers_below lead len k) where
  pub passed : passes lead len k ≡ true → (count + 1 ≡ count_below lead len (k + 1)) × (sum + k ≡ numbers_below lead len (k + 1))
  passed e = (sum_more _ k count 1 c (rw e), sum_more _ k sum k s (rw e))

  pub failed : passes lead len k ≡ false → (count ≡ count_below lead len (k + 1)) × (sum ≡ numbers_below lead len (k + 1))
  failed e = (sym (add-zero count) ∙ sum_more _ k count 0 c (rw e), sym (add-zero sum) ∙ sum_more _ k sum 0 s (rw e))
