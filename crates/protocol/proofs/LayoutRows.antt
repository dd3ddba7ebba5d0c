-- The row of a layout, field by field: each adds its kind in front of the row of those behind it, or nothing if it stands for none.
-- Assumes nothing.
use mathlib.Core.Path.{◌≡◌, refl, ◌∙◌, sym, ap}
use mathlib.Core.List.{List}
use Prim.Native.Nat.{ℕ, ◌+◌, ◌<◌}
use native.Mathlib.Numerals.{add-one}
use lib.ListN.{length, get_or, drop}
use lib.Seq.{drop-cons, drop-length}
use Rattle.std.proofs.Math.Option.{Option, none, some}
use Rattle.protocol.specs.Kinds.{Kind, Row, end, ◌·◌}
use Rattle.protocol.specs.Layouts.{front, row_by}

module _ {A : Type 0} (stands_for : A → Option Kind) (fields : List A) where
  abbrev pub left : ℕ → Row
  left i = row_by stands_for (drop i fields)

  pub next : (i : ℕ) (d : A) → i < length fields → left i ≡ front (stands_for (get_or fields i d)) (left (i + 1))
  unfolding row_by
  next i d l = rw (add-one, drop-cons fields i d l) refl

  module _ (i : ℕ) (x : A) (is : x ≡ get_or fields i x) (l : i < length fields) where
    in_front : (o : Option Kind) → o ≡ stands_for x → left i ≡ front o (left (i + 1))
    in_front o e = next i x l ∙ ap (λ k. front k (left (i + 1))) (sym (e ∙ ap stands_for is))

    -- What stands for no kind is passed over.
    pub passed : none ≡ stands_for x → left (i + 1) ≡ left i
    passed e = sym (in_front none e)

    pub kind_first : (kind : Kind) → some kind ≡ stands_for x → left i ≡ kind · left (i + 1)
    kind_first kind e = in_front (some kind) e

  pub row_ends : (i : ℕ) → i ≡ length fields → left i ≡ end
  unfolding row_by
  row_ends i l = rw (l, drop-length fields) refl
