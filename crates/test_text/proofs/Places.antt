-- A search goes one byte further, or ends. Assumes nothing.
use Rattle.std.specs.Prelude.{ℕ, suc, ◌+◌, ◌≤◌, ◌<◌, List, ◌∷◌, length, drop, get_or, max, Bool, true, false, leb}
use borrow.Author.Tests.{leb-true, leb-false}
use Rattle.std.proofs.Common.{◌≡◌, refl, ap, ◌∙◌, arith}
use Rattle.std.proofs.Math.ListN.{drop_of_length-le}
use Rattle.std.proofs.Math.Seq.{drop-cons}
use Rattle.std.proofs.lemmas.Bool.{eq-eqb, ne_eqb}
use Rattle.test_text.specs.Search.{index_of}

module _ (s : List ℕ) (at byte : ℕ) where
  -- The bytes from a place on are the first one and the others.
  first : at < length s → drop at s ≡ get_or s at 0 ∷ drop (at + 1) s
  first h = drop-cons s at 0 h ∙ ap (λ m. get_or s at 0 ∷ drop m s) (let e : suc at ≡ at + 1 = omega arith in e)

  pub found : at < length s → get_or s at 0 ≡ byte → index_of byte (drop at s) ≡ 0
  unfolding index_of
  found h e = rw (first h, eq-eqb (get_or s at 0) byte e)

  pub passed : at < length s → (get_or s at 0 ≡ byte → ⊥) → index_of byte (drop at s) ≡ suc (index_of byte (drop (at + 1) s))
  unfolding index_of
  passed h e = rw (first h, ne_eqb (get_or s at 0) byte e)

  pub none_left : length s ≤ at → index_of byte (drop at s) ≡ 0
  unfolding index_of
  none_left h = ap (index_of byte) (drop_of_length-le s {i = at} h)

-- A search from a place on has passed all bytes.
module _ (s : List ℕ) (from at byte : ℕ) (h : length s ≤ at) (e : from + index_of byte (drop from s) ≡ at + index_of byte (drop at s)) (i : from ≤ length s → at ≤ length s) where
  pub all_passed : max (length s) from ≡ from + index_of byte (drop from s)
  all_passed = by (leb from (length s)) refl
    where
      by : (t : Bool) → leb from (length s) ≡ t → max (length s) from ≡ from + index_of byte (drop from s)
      by true q = let l = leb-true from (length s) q in let n = none_left s at byte h in omega (arith, l, n, e, i)
      by false q = let l = leb-false from (length s) q in let n = none_left s from byte (omega (arith, l)) in omega (arith, l, n)
