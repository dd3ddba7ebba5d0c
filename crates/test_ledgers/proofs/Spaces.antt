-- What follows the first space begins one after the place where the search finds it, and is nothing where it finds none.
-- Assumes nothing.
use Rattle.std.specs.Prelude.{ℕ, suc, ◌+◌, ◌-◌, ◌≤◌, ◌<◌, Bool, true, false, cond, List, [], ◌∷◌, eqb, length, take, drop}
use Rattle.std.proofs.Common.{◌≡◌, refl, sym, ap, ◌∙◌, arith}
use Rattle.std.proofs.Math.Nat.{zero-add, suc-add}
use Rattle.std.proofs.Math.ListN.{length-drop, drop_of_length-le}
use Rattle.std.proofs.Math.Seq.{take_all, take-nil}
use Rattle.test_text.specs.Search.{index_of}
use Rattle.test_ledgers.specs.Words.{after_space}

after_index : (s : List ℕ) → after_space s ≡ drop (index_of 0x20 s + 1) s
unfolding after_space index_of
after_index [] = refl
after_index (b ∷ s) = by (eqb b 0x20) (after_index s)
  where
    by : (t : Bool) → after_space s ≡ drop (index_of 0x20 s + 1) s → cond t s (after_space s) ≡ drop (cond t 0 (suc (index_of 0x20 s)) + 1) (b ∷ s)
    by true rest = refl
    by false rest = rest ∙ ap (λ n. drop n (b ∷ s)) (sym (suc-add (index_of 0x20 s) 1))

module _ (s : List ℕ) (i : ℕ) (found : i ≡ 0 + index_of 0x20 (drop 0 s)) where
  after_found : drop (i + 1) s ≡ after_space s
  after_found = ap (λ n. drop (n + 1) s) (found ∙ zero-add _) ∙ sym (after_index s)

  pub a_space : i < length s → take (length s - (i + 1)) (drop (i + 1) s) ≡ after_space s
  a_space h = take_all (length s - (i + 1)) (drop (i + 1) s) (rw length-drop (omega arith)) ∙ after_found

  pub no_space : length s ≤ i → take (length s - i) (drop i s) ≡ after_space s
  no_space h =
      ap (take (length s - i)) (drop_of_length-le s {i = i} h)
      ∙ take-nil (length s - i)
      ∙ sym (drop_of_length-le s {i = i + 1} (omega arith))
      ∙ after_found
