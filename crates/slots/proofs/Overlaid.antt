-- Values that are put as far as there are slots: where they all have room they are spliced in; where they reach the end, the slots
-- are those before and as many of the values; and two that are put one after another are put as one. Assumes nothing.
use mathlib.Core.Path.{◌≡◌, refl, ◌∙◌, sym, ap}
use mathlib.Core.Bool.{Bool, true, false}
use mathlib.Core.List.{List, [], ◌++◌, append-nil}
use Prim.Native.Nat.{ℕ, ◌+◌, ◌-◌, ◌≤◌, ◌<◌}
use Rattle.std.proofs.Common.{min}
use borrow.Rule.Slice.PartMut.{put_mid}
use native.Mathlib.Omega.{arith}
use lib.Dec.{leb}
use lib.ListN.{length, take, drop, length-append, length-drop, length-replicate}
use lib.Seq.{length-take-le, take_all, take-length, take-append_seam, take-append-le, take-append-add, drop-length, drop-drop}
use borrow.Author.Tests.{leb-true, leb-false}
use Rattle.wire.specs.Buffer.{splice}
use Rattle.wire.proofs.Splice.{length_splice, splice_none, splice_behind}
use Rattle.slots.specs.Flat.{overlaid, padded}
use Rattle.slots.proofs.Padding.{splice_padded}

module _ (s : List ℕ) (at : ℕ) (b : List ℕ) where
  pub all_fit : at + length b ≤ length s → overlaid s at b ≡ splice s at b
  unfolding overlaid
  all_fit h = take_all (length s) (splice s at b) (omega (arith, length_splice s b at h))

  pub none_fits : length s ≤ at → overlaid s at b ≡ s
  unfolding overlaid splice
  none_fits h = rw (take_all at s h) (take-append_seam s (b ++ drop (at + length b) s))

  -- As many as there is room for.
  pub some_fit : (i : ℕ) → at + i ≡ length s → i ≤ length b → overlaid s at b ≡ splice s at (take i b)
  unfolding overlaid splice
  some_fit i h l =
      let n : length (take at s) ≡ at = length-take-le at s (omega arith) in
      let m : length (take i b) ≡ i = length-take-le i b l in
      let e : length s ≡ length (take at s) + i = omega arith in
      ap (λ (k : ℕ). take k (take at s ++ (b ++ drop (at + length b) s))) e
      ∙ take-append-add (take at s) (b ++ drop (at + length b) s) i
      ∙ ap (λ (x : List ℕ). take at s ++ x) (take-append-le i b (drop (at + length b) s) l ∙ sym (append-nil (take i b)))
      ∙ ap (λ (x : List ℕ). take at s ++ (take i b ++ x)) (sym (rw (m, h) (drop-length s)))

  -- A write to as many of the slots as there are values, or up to the last slot.
  pub put_mid_is : (n k : ℕ) (mid : List ℕ) → at ≤ length s → n ≡ min (length b) (length s - at) → k ≡ n → mid ≡ take n b → put_mid at k s mid ≡ overlaid s at b
  unfolding splice
  put_mid_is n k mid h m e f =
      let l : length (take n b) ≡ n = length-take-le n b (omega arith) in
      let fits : overlaid s at b ≡ splice s at (take n b) = by (leb (at + length b) (length s)) refl in
      rw (fits, f, e, drop-drop n at s, l)
    where
      by : (t : Bool) → leb (at + length b) (length s) ≡ t → overlaid s at b ≡ splice s at (take n b)
      by true e = let r : at + length b ≤ length s = leb-true _ _ e in all_fit r ∙ ap (splice s at) (sym (take_all n b (omega arith)))
      by false e = some_fit n (omega (arith, leb-false (at + length b) (length s) e)) (omega arith)

  -- However they reach, the slots are as many as before.
  long_enough : at ≤ length s → length s ≤ length (splice s at b)
  unfolding splice
  long_enough h = simp (length-append, length-drop) (omega (arith, length-take-le at s h))

  pub overlaid_length : length (overlaid s at b) ≡ length s
  unfolding overlaid
  overlaid_length = by (leb at (length s)) refl
    where
      by : (t : Bool) → leb at (length s) ≡ t → length (overlaid s at b) ≡ length s
      by true e = length-take-le (length s) (splice s at b) (long_enough (leb-true _ _ e))
      by false e = ap length (none_fits (omega (arith, leb-false at (length s) e)))

pub overlaid_none : (s : List ℕ) (at : ℕ) → overlaid s at [] ≡ s
unfolding overlaid
overlaid_none s at = rw (← splice_none s at) (take-length s)

-- One after another.
module _ (s a b : List ℕ) (at : ℕ) where
  -- Where the first reaches the end, the second has no room.
  first_reaches : length s < at + length a → overlaid s at a ≡ overlaid s at (a ++ b)
  first_reaches l = by (leb at (length s)) refl
    where
      by : (t : Bool) → leb at (length s) ≡ t → overlaid s at a ≡ overlaid s at (a ++ b)
      by true e =
          let h : at ≤ length s = leb-true _ _ e in
          let i = length s - at in
          let k : at + i ≡ length s = omega arith in
          let m : i ≤ length a = omega arith in
          some_fit s at a i k m ∙ ap (splice s at) (sym (take-append-le i a b m)) ∙ sym (some_fit s at (a ++ b) i k (omega (arith, length-append a b)))
      by false e = let h : length s ≤ at = omega (arith, leb-false at (length s) e) in none_fits s at a h ∙ sym (none_fits s at (a ++ b) h)

  pub overlaid_twice : overlaid (overlaid s at a) (at + length a) b ≡ overlaid s at (a ++ b)
  unfolding overlaid
  overlaid_twice = by (leb (at + length a) (length s)) refl
    where
      by : (t : Bool) → leb (at + length a) (length s) ≡ t → overlaid (overlaid s at a) (at + length a) b ≡ overlaid s at (a ++ b)
      by true e =
          let h : at + length a ≤ length s = leb-true _ _ e in
          ap (λ (n : ℕ). take n (splice (overlaid s at a) (at + length a) b)) (overlaid_length s at a)
          ∙ ap (λ (x : List ℕ). take (length s) (splice x (at + length a) b)) (all_fit s at a h)
          ∙ ap (take (length s)) (splice_behind s a b at (omega arith))
      by false e =
          let l : length s < at + length a = leb-false _ _ e in
          none_fits (overlaid s at a) (at + length a) b (omega (arith, overlaid_length s at a)) ∙ first_reaches l

-- Behind the first of padded slots.
pub padded_length : (n : ℕ) (xs : List ℕ) → length xs ≤ n → length (padded n xs) ≡ n
unfolding padded
padded_length n xs h = simp (length-append, length-replicate) (omega arith)

pub overlaid_padded : (n : ℕ) (xs ys : List ℕ) → length xs ≤ n → overlaid (padded n xs) (length xs) ys ≡ take n (padded n (xs ++ ys))
unfolding overlaid
overlaid_padded n xs ys h = ap (take (length (padded n xs))) (splice_padded n xs ys) ∙ ap (λ (k : ℕ). take k (padded n (xs ++ ys))) (padded_length n xs h)
