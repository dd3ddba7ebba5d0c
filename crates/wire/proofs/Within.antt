-- What the answer of `has_room` tells, where it is no and where it is yes. Assumes nothing.
use mathlib.Core.Path.{◌≡◌, ◌∙◌, sym}
use mathlib.Core.Bool.{Bool, true, false, not}
use Prim.Native.Nat.{ℕ, ◌<◌, ◌≤◌}
use lib.Dec.{leb}
use borrow.Author.Tests.{leb-true, leb-false, not-true, not-false}

module _ (last len : ℕ) (r : Bool) (e : r ≡ leb last len) where
  pub no_room : not r ≡ true → len < last
  no_room h = leb-false _ _ (sym e ∙ not-true r h)

  pub room : not r ≡ false → last ≤ len
  room h = leb-true _ _ (sym e ∙ not-false r h)
