-- Reading a frame looks at Size + 4 bytes and at no other: the first four, and then, once Size + 4 bytes are there, the
-- key, the version and the content, which lie within them. So the frame's bytes alone are read as they are read with
-- more behind them, and fewer are refused with 1. The checks of Size alone answer alike, whatever follows.
-- Assumes nothing.
use mathlib.Core.Path.{◌≡◌, refl, sym, ◌∙◌, ap}
use mathlib.Core.Bool.{Bool, true, false, cond}
use mathlib.Core.List.{List, ◌++◌}
use mathlib.Core.Logic.{◌⊎◌, inl, inr}
use Prim.Native.Nat.{ℕ, ◌+◌, ◌-◌, ◌≤◌}
use native.Mathlib.Omega.{arith}
use lib.Dec.{ltb}
use lib.ListN.{length, take, drop, length-take, length-append}
use lib.Seq.{length-take-le, take-take, take-append-le}
use borrow.Author.Tests.{lt-ltb, le-ltb, ltb-true, ltb-false}
use Rattle.wire.specs.Integers.{big_endian}
use Rattle.wire.proofs.Widths.{in_part}
use Rattle.protocol.specs.Fields.{Fields}
use Rattle.protocol.specs.declared.place.Place.{Place}
use Rattle.rules.proofs.Gives.{frame_cases}
use Rattle.rules.proofs.Parts.{drop_take}
use Rattle.rules.specs.Exactness.{frame_length, NothingBeyond, CutIsRefused, AnswerStays}
use Rattle.rules.specs.Reading.{frame, short, over_limit, read_sized, read_frame}

-- A list's start is shorter than k exactly if the list is, if it may be as long.
ltb_start : (m k : ℕ) (s : List ℕ) → k ≤ m → ltb (length (take m s)) k ≡ ltb (length s) k
ltb_start m k s h = by (ltb (length s) k) refl
  where
    by : (t : Bool) → ltb (length s) k ≡ t → ltb (length (take m s)) k ≡ ltb (length s) k
    by true e = let l = ltb-true (length s) k e in lt-ltb (length (take m s)) k (rw (length-take m s) (omega arith)) ∙ sym e
    by false e = let l = ltb-false (length s) k e in le-ltb (length (take m s)) k (rw (length-take m s) (omega arith)) ∙ sym e

sized_start : (s : List ℕ) (limit size : ℕ) → read_sized (take (size + 4) s) limit size ≡ read_sized s limit size
unfolding read_sized
sized_start s limit size = by (ltb size 4) refl
  where
    by : (t : Bool) → ltb size 4 ≡ t → read_sized (take (size + 4) s) limit size ≡ read_sized s limit size
    by true e = rw e
    by false e =
        let l : 4 ≤ size = ltb-false _ _ e in
        let f : 8 + (size - 4) ≡ size + 4 = omega arith in
        let g : drop 8 (take (size + 4) s) ≡ take (size - 4) (drop 8 s) = drop_take 8 (size - 4) (size + 4) s f in
        rw (ltb_start (size + 4) (size + 4) s (omega arith), in_part 2 (size + 4) 4 s 0 (omega arith), in_part 2 (size + 4) 6 s 0 (omega arith), g, take-take (size - 4) (size - 4) (drop 8 s) (omega arith))

pub whole_frame : (s : List ℕ) (limit : ℕ) → read_frame (take (frame_length s) s) limit ≡ read_frame s limit
unfolding read_frame
whole_frame s limit =
    rw (ltb_start (frame_length s) 4 s (omega arith), in_part 4 (frame_length s) 0 s 0 (omega arith), sized_start s limit (big_endian 4 s 0))

pub nothing_beyond : NothingBeyond
nothing_beyond s t limit e =
    sym (whole_frame s limit) ∙ (ap (λ u. read_frame u limit) (e ∙ ap (λ n. take n t) same) ∙ whole_frame t limit)
  where
    same : frame_length s ≡ frame_length t
    same =
        ap (λ n. n + 4)
        (sym (in_part 4 (frame_length s) 0 s 0 (omega arith)) ∙ (ap (λ u. big_endian 4 u 0) e ∙ in_part 4 (frame_length s) 0 t 0 (omega arith)))

-- What a frame that is read passed.
abbrev Passed : List ℕ → ℕ → ℕ → Type 0
Passed s limit size = (over_limit limit size ≡ false) × (4 ≤ size) × (size + 4 ≤ length s)

frame_passed : (s : List ℕ) (limit : ℕ) (f : Fields Place) → read_frame s limit ≡ frame f → Passed s limit (big_endian 4 s 0)
frame_passed s limit f =
    frame_cases (λ r. r ≡ frame f → Passed s limit (big_endian 4 s 0))
    (λ n e. absurd (let z : ◌≡◌ {A = ℕ} 0 1 = cc in omega arith))
    (λ n p e. absurd (let z : ◌≡◌ {A = ℕ} 0 1 = cc in omega arith))
    s limit (λ o l w k v _ _. (o, l, w))

pub cut_is_refused : CutIsRefused
unfolding read_frame read_sized
cut_is_refused s limit n f e l = by (ltb n 4) refl
  where
    size : ℕ
    size = big_endian 4 s 0

    passed : Passed s limit size
    passed = frame_passed s limit f e

    long : length (take n s) ≡ n
    long = length-take-le n s (omega (arith, l, passed.2))

    by : (t : Bool) → ltb n 4 ≡ t → read_frame (take n s) limit ≡ short (cond (ltb n 4) 4 (frame_length s))
    by true q = rw (long, q)
    by false q =
        rw (long, q, in_part 4 n 0 s 0 (ltb-false n 4 q), passed.0, le-ltb size 4 passed.1, lt-ltb n (frame_length s) l)

pub answer_stays : AnswerStays
unfolding read_frame read_sized
answer_stays s rest limit =
    by (ltb (length s) (frame_length s)) refl (ltb (length s) 4) refl (over_limit limit (big_endian 4 s 0)) refl (ltb (big_endian 4 s 0) 4) refl
  where
    same : 4 ≤ length s → big_endian 4 (s ++ rest) 0 ≡ big_endian 4 s 0
    same l =
        sym (in_part 4 4 0 (s ++ rest) 0 (omega arith)) ∙ (ap (λ u. big_endian 4 u 0) (take-append-le 4 s rest l) ∙ in_part 4 4 0 s 0 (omega arith))

    four : 4 ≤ length s → ltb (length (s ++ rest)) 4 ≡ false
    four l = le-ltb (length (s ++ rest)) 4 (rw (length-append s rest) (omega (arith, l)))

    by : (w : Bool) → ltb (length s) (frame_length s) ≡ w → (c : Bool) → ltb (length s) 4 ≡ c → (o : Bool) → over_limit limit (big_endian 4 s 0) ≡ o → (m : Bool) → ltb (big_endian 4 s 0) 4 ≡ m → ((n : ℕ) × (read_frame s limit ≡ short n)) ⊎ (read_frame (s ++ rest) limit ≡ read_frame s limit)
    by false p c q o x m y = inr (sym (nothing_beyond s (s ++ rest) limit (sym (take-append-le (frame_length s) s rest (ltb-false _ _ p)))))
    by true p true q o x m y = inl (4, rw q)
    by true p false q true x m y = let l = ltb-false (length s) 4 q in inr (rw (four l, same l, q, x))
    by true p false q false x true y = let l = ltb-false (length s) 4 q in inr (rw (four l, same l, q, x, y))
    by true p false q false x false y = inl (frame_length s, rw (q, x, y, p))
