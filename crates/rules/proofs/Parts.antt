-- Parts of lists: a part of a part is a part, and what stands one behind another stands together. Assumes nothing.
use mathlib.Core.Path.{◌≡◌, refl, sym, ap, ◌∙◌}
use mathlib.Core.List.{List, [], ◌∷◌, ◌++◌, append_assoc, append-nil}
use Prim.Native.Nat.{ℕ, zero, suc, ◌+◌, ◌-◌, ◌^◌, ◌<◌, ◌≤◌}
use native.Mathlib.Omega.{arith}
use lib.ListN.{length, get_or, take, drop, length-append, length-drop, take-append-drop, drop_of_length-le}
use lib.Seq.{length-take-le, take-nil, take-take, take_at, drop_at, drop-drop, get_or-drop}
use Rattle.wire.specs.Integers.{Bytes, digits, big_endian}
use Rattle.wire.proofs.Widths.{integers}

module _ {A : Type 0} where
  pub split : (n at : ℕ) (s : List A) → drop at s ≡ take n (drop at s) ++ drop (at + n) s
  split n at s = sym (take-append-drop n (drop at s)) ∙ ap (λ (r : List A). take n (drop at s) ++ r) (drop-drop n at s)

  pub length_part : (n at : ℕ) (s : List A) → at + n ≤ length s → length (take n (drop at s)) ≡ n
  length_part n at s h = length-take-le n (drop at s) (rw (length-drop at s) (omega (arith, h)))

  pub drop_take : (i n m : ℕ) (l : List A) → i + n ≡ m → drop i (take m l) ≡ take n (drop i l)
  drop_take zero n m l e = let f : n ≡ m = omega (arith, e) in rw f
  drop_take (suc i) n zero l e = absurd (let z : suc i + n ≡ 0 = e in omega (arith, z))
  drop_take (suc i) n (suc m) [] e = sym (take-nil n)
  drop_take (suc i) n (suc m) (x ∷ l) e = drop_take i n m l (omega (arith, e))

  pub part_of_part : (n i m at : ℕ) (s : List A) → i + n ≤ m → take n (drop i (take m (drop at s))) ≡ take n (drop (at + i) s)
  part_of_part n i m at s h =
      let e : i + (m - i) ≡ m = omega (arith, h) in
      let f : n ≤ m - i = omega (arith, h) in
      rw (drop_take i (m - i) m (drop at s) e, take-take n (m - i) (drop i (drop at s)) f, drop-drop i at s)

-- From one place to another s holds e.
pub record Part (s : List ℕ) (at : ℕ) (e : List ℕ) (next : ℕ) : Type 0 where
  pub bytes : drop at s ≡ e ++ drop next s
  pub long : at + length e ≡ next
  pub within : next ≤ length s

module _ (s : List ℕ) where
  pub nothing : (at : ℕ) → at ≤ length s → Part s at [] at
  nothing at h = record { bytes = refl; long = omega arith; within = h }

  pub joined : (at mid next : ℕ) (a b : List ℕ) → Part s at a mid → Part s mid b next → Part s at (a ++ b) next
  joined at mid next a b p q =
      record {
        bytes = p.bytes ∙ ap (λ (r : List ℕ). a ++ r) q.bytes ∙ sym (append_assoc a b (drop next s));
        long = omega (arith, length-append a b, p.long, q.long);
        within = q.within;
      }

  behind : (at mid next : ℕ) (a b : List ℕ) → at + length a ≡ mid → Part s at (a ++ b) next → drop mid s ≡ b ++ drop next s
  behind at mid next a b m p =
      ap (λ (k : ℕ). drop k s) (sym m)
      ∙ sym (drop-drop (length a) at s)
      ∙ ap (drop (length a)) (p.bytes ∙ append_assoc a b (drop next s))
      ∙ drop_at a (b ++ drop next s) (length a) refl

  -- Any bytes that are there.
  pub there : (n at : ℕ) → at + n ≤ length s → Part s at (take n (drop at s)) (at + n)
  there n at h = record { bytes = split n at s; long = ap (λ (k : ℕ). at + k) (length_part n at s h); within = h }

  pub taken : (at next n : ℕ) (e : List ℕ) → Part s at e next → at + n ≡ next → take n (drop at s) ≡ e
  taken at next n e p h = rw p.bytes (take_at e (drop next s) n (omega (arith, p.long, h)))

  pub number_part : (n at : ℕ) → Bytes s → at + n ≤ length s → Part s at (digits n (big_endian n s at)) (at + n)
  number_part n at b h = rw ((integers n).written_read s at b h) (there n at h)

  -- A part taken apart again.
  pub first_part : (at mid next : ℕ) (a b : List ℕ) → at + length a ≡ mid → Part s at (a ++ b) next → Part s at a mid
  first_part at mid next a b m p =
      record {
        bytes = p.bytes ∙ append_assoc a b (drop next s) ∙ ap (λ (r : List ℕ). a ++ r) (sym (behind at mid next a b m p));
        long = m;
        within = omega (arith, length-append a b, p.long, p.within);
      }

  pub second_part : (at mid next : ℕ) (a b : List ℕ) → at + length a ≡ mid → Part s at (a ++ b) next → Part s mid b next
  second_part at mid next a b m p =
      record { bytes = behind at mid next a b m p; long = omega (arith, length-append a b, p.long); within = p.within }

  -- What s starts with.
  pub starting : (e rest : List ℕ) → s ≡ e ++ rest → Part s 0 e (length e)
  starting e rest h =
      record {
        bytes = h ∙ ap (λ (r : List ℕ). e ++ r) (sym (ap (drop (length e)) h ∙ drop_at e rest (length e) refl));
        long = omega arith;
        within = omega (arith, ap length h, length-append e rest);
      }

  pub part_number : (n x at next : ℕ) → x < 256 ^ n → Part s at (digits n x) next → big_endian n s at ≡ x
  part_number n x at next l p =
      ap (λ (r : List ℕ). big_endian n r at) (sym (take-append-drop at s) ∙ ap (λ (r : List ℕ). take at s ++ r) p.bytes)
      ∙ ap (big_endian n (take at s ++ (digits n x ++ drop next s))) (sym (length-take-le at s (omega (arith, p.long, p.within))))
      ∙ (integers n).read_written x (take at s) (drop next s) l

-- A part from the start to the end is the whole.
pub to_the_end : (s e : List ℕ) (next : ℕ) → length s ≤ next → Part s 0 e next → s ≡ e
to_the_end s e next l p = p.bytes ∙ (ap (λ (r : List ℕ). e ++ r) (drop_of_length-le s {i = next} l) ∙ append-nil e)

pub bytes_part : (n at : ℕ) (s : List ℕ) → Bytes s → Bytes (take n (drop at s))
unfolding Bytes
bytes_part n at s b i = bytes_take n (drop at s) (λ j. rw (get_or-drop at s j 0) (b (at + j))) i
  where
    bytes_take : (n : ℕ) (s : List ℕ) → ((i : ℕ) → get_or s i 0 < 256) → (i : ℕ) → get_or (take n s) i 0 < 256
    bytes_take zero s b i = omega arith
    bytes_take (suc n) [] b i = omega arith
    bytes_take (suc n) (x ∷ s) b zero = b 0
    bytes_take (suc n) (x ∷ s) b (suc i) = bytes_take n s (λ j. b (suc j)) i
