-- How the code's state follows the ABNF: the row that a byte begins, and one byte after another. Assumes nothing.
use mathlib.Core.Path.{◌≡◌, refl, ◌∙◌, sym, ap}
use mathlib.Core.Bool.{Bool, true, false, ◌&&◌}
use mathlib.Core.List.{List, [], ◌∷◌}
use mathlib.Core.Option.{Option, none, some}
use Prim.Native.Nat.{ℕ, zero, suc, ◌+◌, ◌-◌, ◌<◌, ◌≤◌}
use native.Mathlib.Numerals.{add-one}
use native.Mathlib.Omega.{arith}
use lib.Dec.{leb, eqb, eqb-suc-zero}
use lib.ListN.{length, get_or, drop, replicate, drop_of_length-le}
use lib.Seq.{drop-cons}
use borrow.Author.Tests.{le-leb, lt-leb}
use Rattle.utf8_text.specs.Utf8.{Range, ◌‥◌, within, tail, begun, characters, first, next, following, whole, utf8, ranges, expects}
use Rattle.utf8_text.specs.declared.utf8.Pending.{Pending}
use Rattle.std.specs.Prelude.{Some, None}

pub inside : (low high b : ℕ) → low ≤ b → b ≤ high → within (low ‥ high) b ≡ true
inside low high b p q = simp (le-leb low b p, le-leb b high q)

pub above : (low high b : ℕ) → high < b → within (low ‥ high) b ≡ false
above low high b p = either (leb low b)
  where
    either : (t : Bool) → (t && leb b high) ≡ false
    either true = lt-leb b high p
    either false = refl

pub below : (low high b : ℕ) → b < low → within (low ‥ high) b ≡ false
below low high b p = simp (lt-leb low b p)

-- The alternative that begins with the byte, and one that does not.
pub begins : (low high b : ℕ) (rs : List Range) (rows : List (List Range)) → low ≤ b → b ≤ high → begun ((low ‥ high ∷ rs) ∷ rows) b ≡ some rs
unfolding begun
begins low high b rs rows p q = rw (inside low high b p q)

pub later : (low high b : ℕ) (rs : List Range) (rows : List (List Range)) → high < b → begun ((low ‥ high ∷ rs) ∷ rows) b ≡ begun rows b
unfolding begun
later low high b rs rows p = rw (above low high b p)

pub earlier : (low high b : ℕ) (rs : List Range) (rows : List (List Range)) → b < low → begun ((low ‥ high ∷ rs) ∷ rows) b ≡ begun rows b
unfolding begun
earlier low high b rs rows p = rw (below low high b p)

none_left : (b : ℕ) → begun [] b ≡ none
unfolding begun
none_left b = refl

-- What has to follow e0, ed, f0 and f4.
pub after_e0 : first 0xe0 ≡ some (0xa0 ‥ 0xbf ∷ tail ∷ [])
unfolding begun characters
after_e0 = refl

pub after_ed : first 0xed ≡ some (0x80 ‥ 0x9f ∷ tail ∷ [])
unfolding begun characters
after_ed = refl

pub after_f0 : first 0xf0 ≡ some (0x90 ‥ 0xbf ∷ tail ∷ tail ∷ [])
unfolding begun characters
after_f0 = refl

pub after_f4 : first 0xf4 ≡ some (0x80 ‥ 0x8f ∷ tail ∷ tail ∷ [])
unfolding begun characters
after_f4 = refl

-- What has to follow each first byte that is none of e0, ed, f0 and f4, by the row that it begins.
module _ (b : ℕ) where
  pub one_byte : b ≤ 0x7f → first b ≡ some []
  unfolding characters
  one_byte h = begins 0x00 0x7f b _ _ (omega arith) h

  past_one : 0x7f < b → first b ≡ begun (drop 1 characters) b
  unfolding characters
  past_one h = later 0x00 0x7f b _ _ h

  pub no_first_low : 0x80 ≤ b → b ≤ 0xc1 → first b ≡ none
  unfolding characters
  no_first_low p q =
      past_one (omega arith)
      ∙ earlier 0xc2 0xdf b _ _ (omega arith)
      ∙ earlier 0xe0 0xe0 b _ _ (omega arith)
      ∙ earlier 0xe1 0xec b _ _ (omega arith)
      ∙ earlier 0xed 0xed b _ _ (omega arith)
      ∙ earlier 0xee 0xef b _ _ (omega arith)
      ∙ earlier 0xf0 0xf0 b _ _ (omega arith)
      ∙ earlier 0xf1 0xf3 b _ _ (omega arith)
      ∙ earlier 0xf4 0xf4 b _ _ (omega arith)
      ∙ none_left b

  pub two_bytes_lem : 0xc2 ≤ b → b ≤ 0xdf → first b ≡ some (tail ∷ [])
  unfolding characters
  two_bytes_lem p q = past_one (omega arith) ∙ begins 0xc2 0xdf b _ _ p q

  past_e0 : 0xe0 < b → first b ≡ begun (drop 3 characters) b
  unfolding characters
  past_e0 h = past_one (omega arith) ∙ later 0xc2 0xdf b _ _ (omega arith) ∙ later 0xe0 0xe0 b _ _ h

  pub three_bytes : 0xe1 ≤ b → b ≤ 0xec → first b ≡ some (tail ∷ tail ∷ [])
  unfolding characters
  three_bytes p q = past_e0 (omega arith) ∙ begins 0xe1 0xec b _ _ p q

  past_ed : 0xed < b → first b ≡ begun (drop 5 characters) b
  unfolding characters
  past_ed h = past_e0 (omega arith) ∙ later 0xe1 0xec b _ _ (omega arith) ∙ later 0xed 0xed b _ _ h

  pub three_bytes_high : 0xee ≤ b → b ≤ 0xef → first b ≡ some (tail ∷ tail ∷ [])
  unfolding characters
  three_bytes_high p q = past_ed (omega arith) ∙ begins 0xee 0xef b _ _ p q

  past_f0 : 0xf0 < b → first b ≡ begun (drop 7 characters) b
  unfolding characters
  past_f0 h = past_ed (omega arith) ∙ later 0xee 0xef b _ _ (omega arith) ∙ later 0xf0 0xf0 b _ _ h

  pub four_bytes : 0xf1 ≤ b → b ≤ 0xf3 → first b ≡ some (tail ∷ tail ∷ tail ∷ [])
  unfolding characters
  four_bytes p q = past_f0 (omega arith) ∙ begins 0xf1 0xf3 b _ _ p q

  pub no_first_high : 0xf5 ≤ b → first b ≡ none
  unfolding characters
  no_first_high p = past_f0 (omega arith) ∙ later 0xf1 0xf3 b _ _ (omega arith) ∙ later 0xf4 0xf4 b _ _ (omega arith) ∙ none_left b

-- The code's state after one byte of a character that has begun.
ranges_tail : (n : ℕ) → ranges n tail ≡ replicate n tail
ranges_tail zero = refl
ranges_tail (suc n) = refl

ranges_more : (n : ℕ) (r : Range) → 0 < n → ranges n r ≡ r ∷ replicate (n - 1) tail
ranges_more zero r h = absurd (omega arith)
ranges_more (suc n) r h = let e : suc n - 1 ≡ n = omega arith in rw e

pub between : (p : Pending) → p.left ≡ 0 → expects (Some p) ≡ some []
unfolding expects
between p h = rw h

module _ (p : Pending) (b : ℕ) (begun : p.left ≡ 0 → ⊥) where
  expected : expects (Some p) ≡ some ((p.low ‥ p.high) ∷ replicate (p.left - 1) tail)
  unfolding expects
  expected = rw (ranges_more p.left (p.low ‥ p.high) (omega arith))

  pub out_of_range : within (p.low ‥ p.high) b ≡ false → expects None ≡ next (expects (Some p)) b
  unfolding expects
  out_of_range h = rw (expected, h)

  pub in_range : p.low ≤ b → b ≤ p.high → expects (Some (record { left = p.left - 1; low = 0x80; high = 0xbf })) ≡ next (expects (Some p)) b
  unfolding expects
  in_range h k =
      rw (
        expected,
        ranges_tail (p.left - 1),
        le-leb p.low b h,
        le-leb b p.high k,
      )

-- The loop over a text: its start, a turn, a byte that nothing can make right, and its end.
pub start : (s : List ℕ) (p : Pending) → p ≡ record { left = 0; low = 0x80; high = 0xbf } → following (some []) s ≡ following (expects (Some p)) (drop 0 s)
unfolding expects
start s p e = rw e

step : (s : List ℕ) (i : ℕ) (o : Option (List Range)) → i < length s → following (some []) s ≡ following o (drop i s) → following (some []) s ≡ following (next o (get_or s i 0)) (drop (i + 1) s)
unfolding following
step s i o h e = rw add-one (e ∙ ap (following o) (drop-cons s i 0 h))

pub turn : (s : List ℕ) (i : ℕ) (p q : Pending) → i < length s → following (some []) s ≡ following (expects (Some p)) (drop i s) → expects (Some q) ≡ next (expects (Some p)) (get_or s i 0) → following (some []) s ≡ following (expects (Some q)) (drop (i + 1) s)
turn s i p q h e f = rw f (step s i (expects (Some p)) h e)

stays_wrong : (s : List ℕ) → following none s ≡ none
unfolding following
stays_wrong [] = refl
stays_wrong (b ∷ s) = stays_wrong s

pub broken : (s : List ℕ) (i : ℕ) (p : Pending) → i < length s → following (some []) s ≡ following (expects (Some p)) (drop i s) → expects None ≡ next (expects (Some p)) (get_or s i 0) → false ≡ utf8 s
unfolding expects
broken s i p h e f = ap whole (sym (rw (← f, stays_wrong (drop (i + 1) s)) at (step s i (expects (Some p)) h e)))

whole_ranges : (n : ℕ) (r : Range) → eqb n 0 ≡ whole (some (ranges n r))
whole_ranges zero r = refl
whole_ranges (suc n) r = eqb-suc-zero n

pub ended : (s : List ℕ) (i : ℕ) (p : Pending) → length s ≤ i → following (some []) s ≡ following (expects (Some p)) (drop i s) → eqb p.left 0 ≡ utf8 s
unfolding following expects
ended s i p h e = whole_ranges p.left (p.low ‥ p.high) ∙ ap whole (sym (e ∙ ap (following (expects (Some p))) (drop_of_length-le s h)))
