-- The law of every width, by induction over it: one byte more is one digit more, to the base 256. Assumes nothing.
use mathlib.Core.Path.{◌≡◌, refl, sym}
use mathlib.Core.Bool.{Bool, true, false}
use mathlib.Core.List.{List, [], ◌∷◌, ◌++◌, append_assoc}
use Prim.Native.Nat.{ℕ, zero, suc, ◌+◌, ◌-◌, ◌*◌, ◌/◌, ◌%◌, ◌<◌, ◌^◌, ◌≤◌}
use native.Mathlib.Nat.{pow-suc, pow-zero, div-one, div-add-mod', div-div-eq-div-mul, mul_comm, mul_assoc}
use native.Mathlib.Omega.{arith}
use lib.Arith.{digits_div, digits_mod}
use lib.ListN.{length, get_or, take, drop, length-append, length-drop}
use borrow.Author.Tests.{le-leb, lt-leb, leb-true, leb-false}
use lib.Dec.{leb}
use borrow.Rule.Slice.PartMut.{put_mid}
use lib.Seq.{get_or-append-add, take-suc, take_all, get_or-drop, get_or-take, get_or_at}
use Rattle.wire.specs.Buffer.{splice}
use Rattle.wire.proofs.Splice.{splice_part}
use Rattle.wire.specs.Integers.{Bytes, big_endian, digits, width_of, number_at, number_or_zero, Law}
use Rattle.wire.specs.declared.integers.Width.{Width}
use Rattle.wire.specs.declared.integers.Width.TheVariants.{One, Two, Three, Four, Eight}
use Rattle.std.specs.Int.{byte_at, bytes_high_first}
use Rattle.std.specs.Prelude.{Some, None}

pub size : (n x : ℕ) → length (digits n x) ≡ n
unfolding digits
size zero x = refl
size (suc n) x = simp length-append (rw (size n (x / 256)) (omega arith))

range : (n : ℕ) (s : List ℕ) (at : ℕ) → Bytes s → big_endian n s at < 256 ^ n
unfolding big_endian Bytes
range zero s at b = omega arith
range (suc n) s at b = rw pow-suc (omega (arith, range n s at b, b (at + n)))

pub positive : (n : ℕ) → 0 < 256 ^ n
positive zero = omega arith
positive (suc n) = rw pow-suc (omega (arith, positive n))

below : (n x : ℕ) → x < 256 ^ suc n → x / 256 < 256 ^ n
below n x h = let k : x < 256 ^ n * 256 = rw pow-suc at h in omega arith

read_written : (n x : ℕ) (p q : List ℕ) → x < 256 ^ n → big_endian n (p ++ (digits n x ++ q)) (length p) ≡ x
unfolding big_endian digits
read_written zero x p q h = omega arith
read_written (suc n) x p q h =
    rw (
      append_assoc (digits n (x / 256)) (x % 256 ∷ []) q,
      read_written n (x / 256) p (x % 256 ∷ q) (below n x h),
      get_or-append-add p (digits n (x / 256) ++ (x % 256 ∷ q)) n 0,
      get_or_at (digits n (x / 256)) (x % 256) q 0 n (size n (x / 256)),
    )
    (div-add-mod' x 256)

written_read : (n : ℕ) (s : List ℕ) (at : ℕ) → Bytes s → at + n ≤ length s → digits n (big_endian n s at) ≡ take n (drop at s)
unfolding big_endian digits Bytes
written_read zero s at b h = refl
written_read (suc n) s at b h =
    let k : at + n ≤ length s = omega arith in
    let j : n < length (drop at s) = simp length-drop (omega arith) in
    rw (
      digits_div (big_endian n s at) (b (at + n)),
      digits_mod (big_endian n s at) (b (at + n)),
      written_read n s at b k,
      take-suc (drop at s) n 0 j,
      get_or-drop at s n 0,
    )

-- The digits from the front, as the code that writes them from the back meets them.
pub digits_front : (k x : ℕ) → digits (suc k) x ≡ (x / 256 ^ k % 256) ∷ digits k x
unfolding digits
digits_front zero x = rw (pow-zero, div-one)
digits_front (suc k) x = rw (digits_front k (x / 256)) (simp (div-div-eq-div-mul, pow-suc, mul_comm (256 ^ k) 256))

-- The bytes that std takes a number of eight bytes apart into: the last n are the n low ones.
std_byte : (k x : ℕ) → byte_at k x ≡ x / 256 ^ k % 256
std_byte zero x = rw (pow-zero, div-one)
std_byte (suc k) x = refl

std_bytes : (n x : ℕ) → bytes_high_first n x ≡ digits n x
std_bytes zero x = unfold digits in refl
std_bytes (suc n) x = rw (digits_front n x, std_byte n x, std_bytes n x)

last_digits : (m n x : ℕ) → drop m (digits (m + n) x) ≡ digits n x
last_digits zero n x = let e : zero + n ≡ n = omega arith in rw e
last_digits (suc m) n x =
    let e : suc m + n ≡ suc (m + n) = omega arith in
    rw (e, digits_front (m + n) x) (last_digits m n x)

pub at_most_eight : (w : Width) → width_of w ≤ 8
at_most_eight One = omega arith
at_most_eight Two = omega arith
at_most_eight Three = omega arith
at_most_eight Four = omega arith
at_most_eight Eight = omega arith

pub low_bytes : (n x : ℕ) → n ≤ 8 → take (8 - (8 - n)) (drop (8 - n) (bytes_high_first 8 x)) ≡ digits n x
low_bytes n x h =
    let e : 8 - n + n ≡ 8 = omega arith in
    let f : 8 - (8 - n) ≡ n = omega arith in
    let g : length (digits n x) ≤ n = rw (size n x) (omega arith) in
    rw (std_bytes 8 x, rw e at (last_digits (8 - n) n x), f) (take_all n (digits n x) g)

-- The part that holds them, whose bounds the code has as an end less a start.
pub splice_low : (s t b : List ℕ) (at n k v : ℕ) → k ≡ n → n ≤ 8 → b ≡ bytes_high_first 8 v → t ≡ take (8 - (8 - n)) (drop (8 - n) b) → put_mid at k s t ≡ splice s at (digits n v)
splice_low s t b at n k v e h f g =
    rw (e, g, f, low_bytes n v h) (splice_part s (digits n v) at n (size n v))

-- A list of bytes with one more in front.
pub bytes_cons : (b : ℕ) (s : List ℕ) → b < 256 → Bytes s → Bytes (b ∷ s)
unfolding Bytes
bytes_cons b s h t zero = h
bytes_cons b s h t (suc i) = t i

bytes : (n x : ℕ) → Bytes (digits n x)
bytes zero x = unfold digits Bytes in (λ i. omega arith)
bytes (suc n) x = rw digits_front (bytes_cons (x / 256 ^ n % 256) (digits n x) (omega arith) (bytes n x))

pub integers : (n : ℕ) → Law n
integers n = record { size = size n; bytes = bytes n; range = range n; read_written = read_written n; written_read = written_read n }

-- The number of m bytes and the number of n bytes behind them.
pub join : (m n : ℕ) (s : List ℕ) (at : ℕ) → big_endian m s at * 256 ^ n + big_endian n s (at + m) ≡ big_endian (m + n) s at
unfolding big_endian
join m zero s at =
    let e : m + 0 ≡ m = omega arith in
    rw (e, pow-zero) (omega arith)
join m (suc n) s at =
    let e : m + suc n ≡ suc (m + n) = omega arith in
    let f : at + m + n ≡ at + (m + n) = omega arith in
    rw (e, f, ← join m n s at, pow-suc) (more (big_endian m s at) (256 ^ n) (big_endian n s (at + m)) (get_or s (at + (m + n)) 0))
  where
    more : (x p y d : ℕ) → x * (p * 256) + (y * 256 + d) ≡ (x * p + y) * 256 + d
    more x p y d = let g : x * (p * 256) ≡ x * p * 256 = sym (mul_assoc x p 256) in omega (arith, g)

-- A number that is there, and one that is cut.
module _ (n : ℕ) (s : List ℕ) (at : ℕ) where
  there : at + n ≤ length s → number_at n s at ≡ Some (big_endian n s at)
  unfolding number_at
  there h = rw (le-leb _ _ h)

  cut : length s < at + n → number_at n s at ≡ None
  unfolding number_at
  cut h = rw (lt-leb _ _ h)

  pub or_zero_lem : at + n ≤ length s → number_or_zero n s at ≡ big_endian n s at
  unfolding number_or_zero
  or_zero_lem h = rw (le-leb _ _ h)

  pub or_zero_cut : length s < at + n → number_or_zero n s at ≡ 0
  unfolding number_or_zero
  or_zero_cut h = rw (lt-leb _ _ h)

  -- What the answer tells.
  pub is_there : (v : ℕ) → Some v ≡ number_at n s at → (at + n ≤ length s) × (v ≡ big_endian n s at)
  is_there v e = by (leb (at + n) (length s)) refl
    where
      by : (t : Bool) → leb (at + n) (length s) ≡ t → (at + n ≤ length s) × (v ≡ big_endian n s at)
      by true f = let h = leb-true _ _ f in let g = there h in (h, cc)
      by false f = let g = cut (leb-false _ _ f) in absurd (let z : ◌≡◌ {A = ℕ} 0 1 = cc in omega arith)

  pub is_cut : None ≡ number_at n s at → length s < at + n
  is_cut e = by (leb (at + n) (length s)) refl
    where
      by : (t : Bool) → leb (at + n) (length s) ≡ t → length s < at + n
      by true f = let g = there (leb-true _ _ f) in absurd (let z : ◌≡◌ {A = ℕ} 0 1 = cc in omega arith)
      by false f = leb-false _ _ f

-- A number in a part of s is the number in s, further on.
pub in_part : (n m k : ℕ) (s : List ℕ) (at : ℕ) → k + n ≤ m → big_endian n (take m (drop at s)) k ≡ big_endian n s (at + k)
unfolding big_endian
in_part zero m k s at h = refl
in_part (suc n) m k s at h =
    let e : at + (k + n) ≡ at + k + n = omega arith in
    rw (in_part n m k s at (omega arith), get_or-take m (drop at s) (k + n) 0 (omega arith), get_or-drop at s (k + n) 0, e)
