-- A place of the source, and the part of it that is lent. Assumes nothing.
use mathlib.Core.Path.{◌≡◌, refl, ◌∙◌, sym}
use mathlib.Core.Bool.{Bool, true, false, not}
use mathlib.Core.List.{List, [], ◌++◌}
use Prim.Native.Nat.{ℕ, ◌+◌, ◌-◌, ◌≤◌}
use native.Mathlib.Omega.{arith}
use lib.Dec.{ltb, leb}
use lib.ListN.{length, take, drop, length-append}
use borrow.Author.Tests.{lt-ltb, le-ltb, ltb-false, leb-true, leb-false}
use Rattle.wire.specs.Integers.{digits}
use Rattle.wire.proofs.Splice.{part_length}
use Rattle.wire.proofs.Widths.{integers}
use Rattle.protocol.specs.Fields.{bytes_at, outside}
use Rattle.protocol.specs.declared.place.Place.{Place}

-- Where there is no room for a place's bytes, it is outside.
pub no_room_outside : (last len : ℕ) → not (leb last len) ≡ ltb len last
no_room_outside last len = by (leb last len) refl
  where
    by : (t : Bool) → leb last len ≡ t → not (leb last len) ≡ ltb len last
    by true e = rw (e, le-ltb len last (leb-true _ _ e))
    by false e = rw (e, lt-ltb len last (leb-false _ _ e))

module _ (src : List ℕ) (p : Place) (r : Bool) (i : r ≡ outside p src) where
  pub ends_inside : r ≡ false → p.at + p.len ≤ length src
  ends_inside h = ltb-false _ _ (sym i ∙ h)

-- A length or a count in front of the bytes at a place.
pub with_front : (n x : ℕ) (src : List ℕ) (p : Place) → outside p src ≡ false → length (digits n x ++ bytes_at src p) ≡ n + p.len
with_front n x src p h =
    rw (length-append (digits n x) (bytes_at src p), (integers n).size x, part_length [] 0 src p.at p.len (ltb-false _ _ h))

-- The part that is lent is the bytes at the place.
pub lent : (s : List ℕ) (at len : ℕ) → take (at + len - at) (drop at s) ≡ take len (drop at s)
lent s at len = let k : at + len - at ≡ len = omega arith in rw k
