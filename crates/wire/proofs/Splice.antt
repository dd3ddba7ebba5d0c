-- Bytes put into a buffer one after another: a splice of the first and then of the second is one of both.
-- Assumes nothing.
use mathlib.Core.Path.{◌≡◌, ◌∙◌, sym, ap}
use mathlib.Core.List.{List, [], ◌∷◌, ◌++◌, append_assoc}
use Prim.Native.Nat.{ℕ, ◌+◌, ◌-◌, ◌<◌, ◌≤◌}
use native.Mathlib.Numerals.{add-one}
use native.Mathlib.Omega.{arith}
use lib.ListN.{length, get_or, take, drop, set, length-append, length-drop, take-append-drop, get_or-append}
use borrow.Author.Tests.{le-leb, lt-leb}
use borrow.Rule.Slice.PartMut.{put_mid}
use lib.Seq.{set_split, length-take-le, take-suc, drop-append-add, drop-drop, take_at, get_or-take, get_or-drop, get_or-append-add}
use Rattle.wire.specs.Buffer.{splice, put, copied, holds, Written}

pub splice_none : (s : List ℕ) (at : ℕ) → s ≡ splice s at []
unfolding splice
splice_none s at = let e : at + 0 ≡ at = omega arith in rw (e, take-append-drop at s)

pub length_splice : (s b : List ℕ) (at : ℕ) → at + length b ≤ length s → length (splice s at b) ≡ length s
unfolding splice
length_splice s b at h =
    simp (length-append, length-drop) (omega (arith, length-take-le at s (omega arith)))

drop_past : (p q : List ℕ) (n m : ℕ) → length p ≡ n → drop (n + m) (p ++ q) ≡ drop m q
drop_past p q n m k = rw (← k) (drop-append-add p q m)

-- A part of s, lent and given back with other bytes.
pub splice_part : (s b : List ℕ) (at n : ℕ) → length b ≡ n → take at s ++ (b ++ drop n (drop at s)) ≡ splice s at b
unfolding splice
splice_part s b at n e = rw (drop-drop n at s, e)

-- The part that holds a part of src, whose bounds the code has as an end less a start.
pub splice_copied : (s t src : List ℕ) (at from len n m : ℕ) → n ≡ len → m ≡ len → from + len ≤ length src → t ≡ take m (drop from src) → put_mid at n s t ≡ splice s at (take len (drop from src))
splice_copied s t src at from len n m e f h g =
    rw (e, g, f) (splice_part s (take len (drop from src)) at len (length-take-le len (drop from src) (rw length-drop (omega arith))))

-- The second need not end where s does.
pub splice_behind : (s a b : List ℕ) (at : ℕ) → at ≤ length s → splice (splice s at a) (at + length a) b ≡ splice s at (a ++ b)
unfolding splice
splice_behind s a b at h =
    let k : length (take at s ++ a) ≡ at + length a = simp length-append (omega (arith, length-take-le at s h)) in
    let e : at + length (a ++ b) ≡ at + length a + length b = omega (arith, length-append a b) in
    rw (
      ← append_assoc (take at s) a (drop (at + length a) s),
      take_at (take at s ++ a) (drop (at + length a) s) (at + length a) k,
      drop_past (take at s ++ a) (drop (at + length a) s) (at + length a) (length b) k,
      drop-drop (length b) (at + length a) s,
      e,
    )
    (simp append_assoc)

pub splice_splice : (s a b : List ℕ) (at : ℕ) → at + length a + length b ≤ length s → splice (splice s at a) (at + length a) b ≡ splice s at (a ++ b)
splice_splice s a b at h = splice_behind s a b at (omega arith)

-- A store is a splice of one byte.
set_splice : (s : List ℕ) (i y : ℕ) → i < length s → set s i y ≡ splice s i (y ∷ [])
unfolding splice
set_splice s i y h = rw add-one (set_split s i y h)

-- One byte behind what is put.
pub splice_back : (s b : List ℕ) (at y : ℕ) → at + length b < length s → set (splice s at b) (at + length b) y ≡ splice s at (b ++ (y ∷ []))
splice_back s b at y h =
    let k : at + length b ≤ length s = omega arith in
    let l : at + length b < length (splice s at b) = rw (length_splice s b at k) h in
    let m : at + length b + 1 ≤ length s = omega arith in
    set_splice (splice s at b) (at + length b) y l ∙ splice_splice s b (y ∷ []) at m

-- A loop that copies byte by byte: a turn. i bytes are there, from at on.
pub copy_turn : (o s src : List ℕ) (at from i len : ℕ) → i < len → at + len ≤ length s → from + len ≤ length src → o ≡ splice s at (take i (drop from src)) → set o (at + i) (get_or src (from + i) 0) ≡ splice s at (take (i + 1) (drop from src))
copy_turn o s src at from i len h l m e =
    let j : i < length (drop from src) = simp length-drop (omega arith) in
    let k : length (take i (drop from src)) ≡ i = length-take-le i (drop from src) (omega arith) in
    let b : at + length (take i (drop from src)) < length s = rw k (omega arith) in
    rw (e, add-one, take-suc (drop from src) i 0 j, get_or-drop from src i 0)
    (rw k at (splice_back s (take i (drop from src)) at (get_or src (from + i) 0) b))

-- What a buffer holds, byte for byte.
module _ (s : List ℕ) (at : ℕ) (b : List ℕ) (room : at + length b ≤ length s) where
  front : length (take at s) ≡ at
  front = length-take-le at s (omega arith)

  before : (i : ℕ) → i < at → get_or (splice s at b) i 0 ≡ get_or s i 0
  unfolding splice
  before i h =
      let k : i < length (take at s) = rw front h in
      get_or-append (take at s) (b ++ drop (at + length b) s) 0 i k ∙ get_or-take at s i 0 h

  at_front : (l : List ℕ) (i : ℕ) → get_or (take at s ++ l) (at + i) 0 ≡ get_or l i 0
  at_front l i = ap (λ (n : ℕ). get_or (take at s ++ l) (n + i) 0) (sym front) ∙ get_or-append-add (take at s) l i 0

  within : (i : ℕ) → i < length b → get_or (splice s at b) (at + i) 0 ≡ get_or b i 0
  unfolding splice
  within i h = at_front (b ++ drop (at + length b) s) i ∙ get_or-append b (drop (at + length b) s) 0 i h

  after : (i : ℕ) → at + length b ≤ i → get_or (splice s at b) i 0 ≡ get_or s i 0
  unfolding splice
  after i h =
      let e : i ≡ at + (length b + (i - (at + length b))) = omega arith in
      let f : at + length b + (i - (at + length b)) ≡ i = omega arith in
      ap (λ (n : ℕ). get_or (take at s ++ (b ++ drop (at + length b) s)) n 0) e
      ∙ at_front (b ++ drop (at + length b) s) (length b + (i - (at + length b)))
      ∙ get_or-append-add b (drop (at + length b) s) (i - (at + length b)) 0
      ∙ get_or-drop (at + length b) s (i - (at + length b)) 0
      ∙ ap (λ (n : ℕ). get_or s n 0) f

  pub written : Written s at b
  written = record { as_long = length_splice s b at room; before = before; within = within; after = after }

-- Bytes that have room, and bytes that have none.
module _ (s : List ℕ) (at : ℕ) (b : List ℕ) where
  pub put_fits : at + length b ≤ length s → put s at b ≡ holds (splice s at b) (at + length b)
  unfolding put
  put_fits h = rw (le-leb _ _ h)

  pub put_full : length s < at + length b → put s at b ≡ holds s at
  unfolding put
  put_full h = rw (lt-leb _ _ h)

  -- The same of bytes whose number is known, as the code has them.
  pub put_done : (t : List ℕ) (n : ℕ) → length b ≡ n → at + n ≤ length s → t ≡ splice s at b → holds t (at + n) ≡ put s at b
  put_done t n e h f = let k : at + length b ≤ length s = rw e h in rw (put_fits k, e, f)

  pub put_not : (n : ℕ) → length b ≡ n → length s < at + n → holds s at ≡ put s at b
  put_not n e h = let k : length s < at + length b = rw e h in rw (put_full k)

-- A copy of bytes that are there is a put of them.
module _ (s : List ℕ) (at : ℕ) (src : List ℕ) (from len : ℕ) where
  pub copied_there : from + len ≤ length src → copied s at src from len ≡ put s at (take len (drop from src))
  unfolding copied
  copied_there h = rw (le-leb _ _ h)

  pub copied_cut : length src < from + len → holds s at ≡ copied s at src from len
  unfolding copied
  copied_cut h = rw (lt-leb _ _ h)

  pub part_length : from + len ≤ length src → length (take len (drop from src)) ≡ len
  part_length h = length-take-le len (drop from src) (rw length-drop (omega arith))

  pub copied_full : from + len ≤ length src → length s < at + len → holds s at ≡ copied s at src from len
  copied_full h k = rw (copied_there h) (put_not s at (take len (drop from src)) len (part_length h) k)

  pub copied_done : (t : List ℕ) → from + len ≤ length src → at + len ≤ length s → t ≡ splice s at (take len (drop from src)) → holds t (at + len) ≡ copied s at src from len
  copied_done t h k e = rw (copied_there h) (put_done s at (take len (drop from src)) t len (part_length h) k e)
