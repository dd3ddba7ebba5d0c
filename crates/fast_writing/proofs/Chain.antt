-- Pieces put one behind another, where all of them have room, are one splice of what they make together; and behind Size, key
-- and version that is the frame. Assumes nothing.
use mathlib.Core.Path.{◌≡◌, refl, ◌∙◌, ap}
use mathlib.Core.List.{List, [], ◌∷◌, ◌++◌}
use mathlib.Core.Bool.{false}
use Prim.Native.Nat.{ℕ, ◌+◌, ◌≤◌}
use native.Mathlib.Omega.{arith}
use lib.ListN.{length, take, drop, length-append}
use borrow.Author.Tests.{le-ltb}
use Rattle.wire.specs.Buffer.{Holds, holds, splice, copied}
use Rattle.wire.specs.Integers.{digits}
use Rattle.wire.proofs.Splice.{splice_none, length_splice, splice_splice, put_fits, copied_there}
use Rattle.wire.proofs.Widths.{integers}
use Rattle.rules.specs.Reading.{over_limit}
use Rattle.rules.specs.Writing.{Encoding, wrote, write_encoded}
use Rattle.rules.specs.Writing as rules
use Rattle.protocol.specs.Fields.{bytes_at}
use Rattle.protocol.specs.declared.place.Place.{Place}
use Rattle.fields.specs.Passes.{behind, copied_behind, put_list}
use Rattle.frame_head.specs.Size.{Fits}

-- What pieces make together.
abbrev pub joined : List (List ℕ) → List ℕ
joined [] = []
joined (b ∷ bs) = b ++ joined bs

abbrev pub puts : List (List ℕ) → Holds → Holds
puts [] h = h
puts (b ∷ bs) h = puts bs (behind b h)

puts_fit : (bs : List (List ℕ)) (s : List ℕ) (at : ℕ) → at + length (joined bs) ≤ length s → puts bs (holds s at) ≡ holds (splice s at (joined bs)) (at + length (joined bs))
puts_fit [] s at h =
    let e : at ≡ at + 0 = omega arith in
    ap (λ (x : List ℕ). holds x at) (splice_none s at) ∙ ap (holds (splice s at [])) e
puts_fit (b ∷ bs) s at h =
    let l : at + length b + length (joined bs) ≤ length s = omega (arith, length-append b (joined bs)) in
    let k : at + length b ≤ length s = omega arith in
    let r : at + length b + length (joined bs) ≤ length (splice s at b) = rw (length_splice s b at k) l in
    let e : at + length b + length (joined bs) ≡ at + length (b ++ joined bs) = omega (arith, length-append b (joined bs)) in
    ap (puts bs) (put_fits s at b k)
    ∙ puts_fit bs (splice s at b) (at + length b) r
    ∙ ap (λ (x : List ℕ). holds x (at + length b + length (joined bs))) (splice_splice s b (joined bs) at l)
    ∙ ap (holds (splice s at (b ++ joined bs))) e

-- Bytes put behind those that were put before.
pub put_next : (b : List ℕ) (o q : List ℕ) (n m : ℕ) (h : Holds) → holds o n ≡ h → holds q m ≡ behind b (holds o n) → holds q m ≡ behind b h
put_next b o q n m h i j = j ∙ ap (behind b) i

-- A part of the source that is there, put behind what was put before.
pub part_next : (src o q : List ℕ) (n m from len : ℕ) (h : Holds) → from + len ≤ length src → holds o n ≡ h → holds q m ≡ copied o n src from len → holds q m ≡ behind (take len (drop from src)) h
part_next src o q n m from len h l i j = j ∙ copied_there o n src from len l ∙ ap (behind (take len (drop from src))) i

-- The same of text, whose length stands in front of it.
pub text_next : (src o q : List ℕ) (n m : ℕ) (p : Place) (h : Holds) → p.at + p.len ≤ length src → holds o n ≡ h → holds q m ≡ copied_behind src p (behind (digits 2 p.len) (holds o n)) → holds q m ≡ behind (bytes_at src p) (behind (digits 2 p.len) h)
text_next src o q n m p h l i j =
    part_next src (behind (digits 2 p.len) (holds o n)).bytes q (behind (digits 2 p.len) (holds o n)).next m p.at p.len (behind (digits 2 p.len) h) l (ap (behind (digits 2 p.len)) i) j

-- And of a list, whose count does.
pub list_next : (src o q : List ℕ) (n m count : ℕ) (p : Place) (h : Holds) → p.at + p.len ≤ length src → holds o n ≡ h → holds q m ≡ put_list src count p (holds o n) → holds q m ≡ behind (bytes_at src p) (behind (digits 4 count) h)
list_next src o q n m count p h l i j =
    part_next src (behind (digits 4 count) (holds o n)).bytes q (behind (digits 4 count) (holds o n)).next m p.at p.len (behind (digits 4 count) h) l (ap (behind (digits 4 count)) i) j

-- A piece in front of others.
pub part_front : (p b : List ℕ) (m k : ℕ) → length p ≡ m → length b ≡ k → length (p ++ b) ≡ m + k
part_front p b m k i j = length-append p b ∙ (λ n. i n + j n)

pub number_front : (n x : ℕ) (b : List ℕ) (k : ℕ) → length b ≡ k → length (digits n x ++ b) ≡ n + k
number_front n x b k j = part_front (digits n x) b n k ((integers n).size x) j

-- A row is written as these pieces, and its frame has this Size.
pub record Encodes (e : Encoding) (bs : List (List ℕ)) (size : ℕ) : Type 0 where
  pub is : e ≡ wrote (joined bs)
  pub sized : size ≡ 4 + length (joined bs)

module _ (key limit : ℕ) (e : Encoding) (out o : List ℕ) (n size : ℕ) (bs : List (List ℕ)) (row : Encodes e bs size) (f : Fits limit size (length out)) where
  abbrev all : List (List ℕ)
  all = digits 4 size ∷ digits 2 key ∷ digits 2 1 ∷ bs

  all_length : length (joined all) ≡ size + 4
  all_length =
      number_front 4 size (digits 2 key ++ (digits 2 1 ++ joined bs)) _ (number_front 2 key (digits 2 1 ++ joined bs) _ (number_front 2 1 (joined bs) (length (joined bs)) refl))
      ∙ omega (arith, row.sized)

  pub frame_put : holds o n ≡ puts bs (behind (digits 2 1) (behind (digits 2 key) (behind (digits 4 size) (holds out 0)))) → write_encoded key 1 e limit out ≡ record { answer = rules.length (size + 4); out = o }
  frame_put h =
      let fits : 4 + length (joined bs) ≤ 0xffff_ffff = omega (arith, row.sized, f.bound) in
      let limited : over_limit limit (4 + length (joined bs)) ≡ false = rw (← row.sized) f.limited in
      let room : 8 + length (joined bs) ≤ length out = omega (arith, row.sized, f.roomy) in
      let wide : 0 + length (joined all) ≤ length out = omega (arith, all_length, f.roomy) in
      let put_all : o ≡ splice out 0 (joined all) = ap (λ (x : Holds). x.bytes) (h ∙ puts_fit all out 0 wide) in
      let long : size + 4 ≡ 8 + length (joined bs) = omega (arith, row.sized) in
      let size_is : splice out 0 (joined all) ≡ splice out 0 (digits 4 (4 + length (joined bs)) ++ (digits 2 key ++ (digits 2 1 ++ joined bs))) = ap (λ (k : ℕ). splice out 0 (digits 4 k ++ (digits 2 key ++ (digits 2 1 ++ joined bs)))) row.sized in
      rw (row.is, le-ltb 0xffff_ffff (4 + length (joined bs)) fits, limited, le-ltb (length out) (8 + length (joined bs)) room, put_all, size_is, long)
