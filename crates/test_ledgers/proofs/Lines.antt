-- The bytes of a frame in a buffer. Assumes nothing.
use Prim.Native.Nat.{ℕ, min}
use mathlib.Core.Path.{◌≡◌, refl, sym, ap, ◌∙◌}
use mathlib.Core.Bool.{Bool, true, false}
use mathlib.Core.List.{List, ◌++◌}
use native.Mathlib.Omega.{arith}
use borrow.Author.Tests.{leb-true, leb-false}
use lib.Dec.{leb}
use lib.ListN.{length, take, drop}
use lib.Seq.{take_all, take_at, length-take-le}

-- The bytes at the start of a buffer are all there are, or as many as it has room for.
fewer : (b : List ℕ) (n room : ℕ) → n ≡ min (length b) room → take n b ≡ take room b
fewer b n room e = by (leb (length b) room) refl
  where
    by : (t : Bool) → leb (length b) room ≡ t → take n b ≡ take room b
    by true h = let l = leb-true (length b) room h in take_all n b (omega arith) ∙ sym (take_all room b l)
    by false h = let l = leb-false (length b) room h in ap (λ k. take k b) (let i : n ≡ room = omega arith in i)

pub frame_bytes : (b old now : List ℕ) (n room : ℕ) → room ≡ length old → n ≡ min (length b) (length old) → now ≡ take n b ++ drop n old → take n now ≡ take room b
frame_bytes b old now n room r e so =
    ap (take n) so ∙ take_at (take n b) (drop n old) n (length-take-le n b (omega arith)) ∙ fewer b n room (omega arith)
