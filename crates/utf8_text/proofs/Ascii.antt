-- Texts of ASCII bytes: what the parts say of the whole, and why such a text is UTF-8. Assumes nothing.
use mathlib.Core.Path.{◌≡◌, refl, ◌∙◌, sym, ap}
use mathlib.Core.Bool.{Bool, true, false, ◌&&◌, and_assoc, and-true, and-eq-true_iff}
use mathlib.Core.List.{List, [], ◌∷◌, ◌++◌}
use mathlib.Core.Option.{some}
use Prim.Native.Nat.{ℕ, ◌+◌, ◌<◌, ◌≤◌}
use native.Mathlib.Omega.{arith}
use lib.Dec.{ltb}
use lib.ListN.{length, get_or, take, drop, take-append-drop, length-drop}
use lib.Seq.{drop-cons, take-add, drop-drop, take-take, take_all}
use borrow.Author.Tests.{ltb-true, lt-ltb, le-ltb}
use Rattle.utf8_text.specs.Utf8.{following, whole, utf8, ascii}
use Rattle.utf8_text.proofs.Following.{one_byte}

ascii_append : (s t : List ℕ) → ascii (s ++ t) ≡ (ascii s && ascii t)
unfolding ascii
ascii_append [] t = refl
ascii_append (b ∷ s) t =
    ap (λ (r : Bool). ltb b 0x80 && r) (ascii_append s t) ∙ sym (and_assoc (ltb b 0x80) (ascii s) (ascii t))

-- A part of the text: one byte, two parts side by side, four bytes.
one : (s : List ℕ) (i : ℕ) → i < length s → ltb (get_or s i 0) 0x80 ≡ ascii (take 1 (drop i s))
unfolding ascii
one s i h = rw (drop-cons s i 0 h) (sym (and-true (ltb (get_or s i 0) 0x80)))

pub is_ascii : (s : List ℕ) (i : ℕ) → i < length s → get_or s i 0 ≤ 0x7f → ascii (take 1 (drop i s)) ≡ true
is_ascii s i h k = sym (one s i h) ∙ lt-ltb (get_or s i 0) 0x80 (omega arith)

pub is_not : (s : List ℕ) (i : ℕ) → i < length s → 0x7f < get_or s i 0 → ascii (take 1 (drop i s)) ≡ false
is_not s i h k = sym (one s i h) ∙ le-ltb (get_or s i 0) 0x80 (omega arith)

parts : (s : List ℕ) (i n m : ℕ) → (ascii (take n (drop i s)) && ascii (take m (drop (i + n) s))) ≡ ascii (take (n + m) (drop i s))
parts s i n m =
    rw (take-add n m (drop i s), drop-drop n i s)
    (sym (ascii_append (take n (drop i s)) (take m (drop (i + n) s))))

pub four : (s : List ℕ) (i : ℕ) → i + 4 ≤ length s → (((ltb (get_or s i 0) 0x80 && ltb (get_or s (i + 1) 0) 0x80) && ltb (get_or s (i + 2) 0) 0x80) && ltb (get_or s (i + 3) 0) 0x80) ≡ ascii (take 4 (drop i s))
four s i h =
    rw (
      one s i (omega arith),
      one s (i + 1) (omega arith),
      one s (i + 2) (omega arith),
      one s (i + 3) (omega arith),
      parts s i 1 1,
      parts s i 2 1,
    )
    (parts s i 3 1)

pub eight : (s : List ℕ) (i : ℕ) (a b : Bool) → a ≡ ascii (take 4 (drop i s)) → b ≡ ascii (take 4 (drop (i + 4) s)) → (a && b) ≡ ascii (take 8 (drop i s))
eight s i a b e f = rw (e, f) (parts s i 4 4)

-- The loops over a text: a turn, a byte that is not ASCII, the end.
module _ (s : List ℕ) (i : ℕ) (done : ascii (take i s) ≡ true) where
  pub turn : (n : ℕ) → ascii (take n (drop i s)) ≡ true → ascii (take (i + n) s) ≡ true
  turn n h = rw (take-add i n s, ascii_append (take i s) (take n (drop i s)), done, h)

  rest : ascii s ≡ ascii (drop i s)
  rest = ap ascii (sym (take-append-drop i s)) ∙ ascii_append (take i s) (drop i s) ∙ ap (λ (r : Bool). r && ascii (drop i s)) done

  pub broken : (n : ℕ) → ascii (take n (drop i s)) ≡ false → false ≡ ascii s
  broken n h =
      sym
      (rest
      ∙ ap ascii (sym (take-append-drop n (drop i s)))
      ∙ ascii_append (take n (drop i s)) (drop n (drop i s))
      ∙ ap (λ (r : Bool). r && ascii (drop n (drop i s))) h)

front : (s : List ℕ) (n : ℕ) → ascii s ≡ true → ascii (take n s) ≡ true
front s n h =
    ((and-eq-true_iff (ascii (take n s)) (ascii (drop n s))).0
    (sym (ascii_append (take n s) (drop n s)) ∙ ap ascii (take-append-drop n s) ∙ h)
    ).0

-- The last n bytes decide once those before them are ASCII, of which more may have been looked at.
pub ended : (s : List ℕ) (i n last : ℕ) → ascii (take i s) ≡ true → last ≤ i → last + n ≡ length s → ascii (take n (drop last s)) ≡ ascii s
ended s i n last done h e =
    let f : length (drop last s) ≤ n = rw length-drop (omega arith) in
    let g : ascii (take last s) ≡ true = rw take-take at (front (take i s) last done) in
    rw (take_all n (drop last s) f) (sym (rest s last g))

-- An ASCII byte is a character, so that the next one begins where it ends.
stays : (s : List ℕ) → ascii s ≡ true → following (some []) s ≡ some []
unfolding ascii following
stays [] h = refl
stays (b ∷ s) h =
    let k = (and-eq-true_iff (ltb b 0x80) (ascii s)).0 h in
    let l : b ≤ 0x7f = omega (arith, ltb-true b 0x80 k.0) in
    rw (one_byte b l) (stays s k.1)

pub ascii_utf8 : (s : List ℕ) → ascii s ≡ true → utf8 s ≡ true
ascii_utf8 s h = ap whole (stays s h)
