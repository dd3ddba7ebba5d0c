-- The digits that are put are those of the number: the fewest that hold it are as many as the definition counts.
-- Assumes nothing.
use mathlib.Core.Path.{◌≡◌, refl, sym, ◌∙◌, ap, subst}
use mathlib.Core.Bool.{Bool, true, false, cond}
use mathlib.Core.List.{List, [], ◌∷◌, ◌++◌, append_assoc}
use Prim.Native.Nat.{ℕ, zero, suc, ◌+◌, ◌-◌, ◌*◌, ◌/◌, ◌^◌, ◌<◌, ◌≤◌}
use native.Mathlib.Nat.{pow-suc, div-lt_iff_lt-mul, le-div_iff_mul-le, one-le-pow, pow-le-pow_right}
use native.Mathlib.Omega.{arith}
use lib.Dec.{ltb}
use lib.ListN.{length, length-append}
use lib.Seq.{take-length}
use borrow.Author.Tests.{lt-ltb, le-ltb, ltb-true, ltb-false}
use Rattle.io.specs.Digits.{last_digits, IsDigitCount}
use Rattle.wire.proofs.Splice.{copied_there, put_fits, splice_none, splice_splice, length_splice}
use Rattle.wire.specs.Buffer.{Holds, holds, put, copied, splice}
use Rattle.listing_lines.specs.Text.{places, decimal, hex, puts, joined}
use Rattle.listing_lines.specs.Printed.{Prints}
use Rattle.listing_lines.specs.declared.text.Text.{Text}

-- k more digits than one.
places_of : (more n k : ℕ) → k ≤ more → n < 10 ^ suc k → (0 < k → 10 ^ k ≤ n) → places more n ≡ suc k
unfolding places
places_of zero n zero h l m = refl
places_of zero n (suc k) h l m = absurd (omega (arith, h))
places_of (suc more) n zero h l m = rw (lt-ltb n 10 l)
places_of (suc more) n (suc k) h l m =
    let p : 10 ^ suc k ≤ n = m (omega arith) in
    let q : 10 ≤ n = ten_or_more k n p in
    rw (le-ltb n 10 q)
    (ap suc (places_of more (n / 10) k (omega (arith, h)) ((div-lt_iff_lt-mul (omega arith)).1 (rw pow-suc at l)) (λ z. (le-div_iff_mul-le (omega arith)).1 (rw pow-suc at p))))
  where
    ten_or_more : (k n : ℕ) → 10 ^ suc k ≤ n → 10 ≤ n
    ten_or_more k n h = let o : 1 ≤ 10 ^ k = one-le-pow k 10 (omega arith) in let p : 10 ^ k * 10 ≤ n = rw pow-suc at h in omega (arith, o, p)

-- The fewest digits of a number that m digits hold are at most m.
at_most : (b least m n k : ℕ) → 0 < b → least ≤ m → n < b ^ m → (least < k → b ^ (k - 1) ≤ n) → k ≤ m
at_most b least m n k p h l g = by (ltb m k) refl
  where
    below : m < k → m ≤ k - 1
    below i = omega (arith, i)

    more : m < k → least < k
    more i = omega (arith, i, h)

    too_many : (x y : ℕ) → x ≤ y → y ≤ n → n < x → k ≤ m
    too_many x y i j o = absurd (omega (arith, i, j, o))

    by : (t : Bool) → ltb m k ≡ t → k ≤ m
    by true e = too_many (b ^ m) (b ^ (k - 1)) (pow-le-pow_right p (below (ltb-true _ _ e))) (g (more (ltb-true _ _ e))) l
    by false e = ltb-false _ _ e

pub decimal_digits : (n k : ℕ) → n < 10 ^ 20 → IsDigitCount 10 1 n k → last_digits 10 k n ≡ decimal n
unfolding decimal
decimal_digits n zero l f = absurd (omega (arith, f.0))
decimal_digits n (suc k) l f =
    let m : suc k ≤ 20 = at_most 10 1 20 n (suc k) (omega arith) (omega arith) l f.2 in
    rw (places_of 19 n k (omega (arith, m)) f.1 (λ z. least k z f.2))
  where
    least : (k : ℕ) → 0 < k → (1 < suc k → 10 ^ (suc k - 1) ≤ n) → 10 ^ k ≤ n
    least k z g = let e : suc k - 1 ≡ k = omega arith in rw e at (g (omega (arith, z)))

-- A number that so many hexadecimal digits hold has exactly so many, with zeros in front.
pub hex_digits : (w n k : ℕ) → n < 16 ^ w → IsDigitCount 16 w n k → last_digits 16 k n ≡ last_digits 16 w n
hex_digits w n k l f =
    let m : k ≤ w = at_most 16 w w n k (omega arith) (omega arith) l f.2 in
    let e : k ≡ w = omega (arith, m, f.0) in
    rw e

-- All of a word.
pub put_whole : (o word : List ℕ) (at : ℕ) (h : Holds) → h ≡ copied o at word 0 (length word) → h ≡ puts o at (word ∷ [])
unfolding puts
put_whole o word at h f = f ∙ copied_there o at word 0 (length word) (omega arith) ∙ ap (put o at) (take-length word)

-- Pieces behind others.
pieces : (o : List ℕ) (at : ℕ) (ps qs : List (List ℕ)) (o₁ : List ℕ) (at₁ : ℕ) (h : Holds) → holds o₁ at₁ ≡ puts o at ps → h ≡ puts o₁ at₁ qs → h ≡ puts o at (ps ++ qs)
unfolding puts
pieces o at [] qs o₁ at₁ h e f = f ∙ ap (λ (x : Holds). puts x.bytes x.next qs) e
pieces o at (p ∷ ps) qs o₁ at₁ h e f = pieces (put o at p).bytes (put o at p).next ps qs o₁ at₁ h e f

pub same_piece : {p q : List ℕ} {a b : Text} → p ≡ q → Prints (p ∷ []) a b → Prints (q ∷ []) a b
same_piece {a = a} {b = b} e f = subst (λ (p : List ℕ). Prints (p ∷ []) a b) e f

-- Pieces, and others behind them.
pub then : {ps qs : List (List ℕ)} {a b c : Text} → Prints ps a b → Prints qs b c → Prints (ps ++ qs) a c
then e f = record { text = pieces _ _ _ _ _ _ _ e.text f.text; same_buffer = f.same_buffer ∙ e.same_buffer }

pub prints_none : {t : Text} → Prints [] t t
unfolding puts
prints_none = record { text = refl; same_buffer = refl }

pub joined_append : (ps qs : List (List ℕ)) → joined (ps ++ qs) ≡ joined ps ++ joined qs
unfolding joined
joined_append [] qs = refl
joined_append (p ∷ ps) qs = rw (joined_append ps qs) (sym (append_assoc p (joined ps) (joined qs)))

-- Pieces that have room are there as one text.
pub puts_fit : (o : List ℕ) (at : ℕ) (ps : List (List ℕ)) → at + length (joined ps) ≤ length o → puts o at ps ≡ holds (splice o at (joined ps)) (at + length (joined ps))
unfolding puts joined
puts_fit o at [] h = let e : at + 0 ≡ at = omega arith in rw (e, ← splice_none o at)
puts_fit o at (p ∷ ps) h =
    let l : length (p ++ joined ps) ≡ length p + length (joined ps) = length-append p (joined ps) in
    let a : at + length p ≤ length o = omega (arith, l, h) in
    let b : at + length p + length (joined ps) ≤ length o = omega (arith, l, h) in
    let c : at + length p + length (joined ps) ≤ length (splice o at p) = rw (length_splice o p at a) b in
    let d : at + length p + length (joined ps) ≡ at + length (p ++ joined ps) = omega (arith, l) in
    rw (put_fits o at p a, puts_fit (splice o at p) (at + length p) ps c, splice_splice o p (joined ps) at b, d)

length_digits : (b k n : ℕ) → length (last_digits b k n) ≡ k
length_digits b zero n = refl
length_digits b (suc k) n = length-append (last_digits b k (n / b)) _ ∙ (let e : length (last_digits b k (n / b)) ≡ k = length_digits b k (n / b) in omega (arith, e))

places_most : (more n : ℕ) → places more n ≤ suc more
unfolding places
places_most zero n = omega arith
places_most (suc more) n = by (ltb n 10) (places_most more (n / 10))
  where
    by : (t : Bool) → places more (n / 10) ≤ suc more → cond t 1 (suc (places more (n / 10))) ≤ suc (suc more)
    by true h = omega arith
    by false h = omega (arith, h)

pub decimal_most : (n : ℕ) → length (decimal n) ≤ 20
unfolding decimal
decimal_most n = rw (length_digits 10 (places 19 n) n) (places_most 19 n)

pub hex_length : (n : ℕ) → length (hex n) ≡ 4
unfolding hex
hex_length n = length_digits 16 4 n

-- Pieces that have at most so many bytes each.
abbrev pub Most : List (List ℕ) → List ℕ → Type 0
Most [] ms = Unit
Most (p ∷ ps) [] = ⊥
Most (p ∷ ps) (m ∷ ms) = (length p ≤ m) × Most ps ms

abbrev pub sum : List ℕ → ℕ
sum [] = 0
sum (m ∷ ms) = m + sum ms

pub joined_most : (ps : List (List ℕ)) (ms : List ℕ) → Most ps ms → length (joined ps) ≤ sum ms
unfolding joined
joined_most [] ms h = omega arith
joined_most (p ∷ ps) [] h = absurd h
joined_most (p ∷ ps) (m ∷ ms) h = let l = joined_most ps ms h.1 in rw (length-append p (joined ps)) (omega (arith, h.0, l))
