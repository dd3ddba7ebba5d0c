-- The ABNF's rows are the scalar values' encodings: each row is one interval of character numbers, whose bytes are the
-- number's digits to the base 64. Assumes nothing.
use mathlib.Core.Path.{◌≡◌, refl, ◌∙◌, sym, ap}
use mathlib.Core.Bool.{Bool, true, false, false≢true, ◌&&◌}
use mathlib.Core.List.{List, [], ◌∷◌, ◌++◌}
use mathlib.Core.Logic.{inl, inr}
use mathlib.Core.Option.{none, some}
use Prim.Native.Nat.{ℕ, zero, suc, ◌+◌, ◌-◌, ◌*◌, ◌/◌, ◌%◌, ◌<◌, ◌≤◌}
use native.Mathlib.Omega.{arith}
use lib.Dec.{leb, ltb}
use lib.ListN.{length, length-append}
use borrow.Author.Tests.{lt-ltb, le-ltb, leb-true, leb-false, ltb-true, ltb-false}
use Rattle.utf8_text.specs.Utf8.{Range, ◌‥◌, within, tail, first, following, whole, utf8}
use Rattle.utf8_text.specs.Unicode.{Scalar, character, encoded, Scalars, Unicode}
use Rattle.utf8_text.proofs.Following.{inside, after_e0, after_ed, after_f0, after_f4, one_byte, two_bytes_lem, three_bytes, three_bytes_high, four_bytes, no_first_low, no_first_high}

by_test : {P : Type 0} (t : Bool) → (t ≡ true → P) → (t ≡ false → P) → P
by_test true f g = f refl
by_test false f g = g refl

-- A character's bytes, by its number.
module _ (c : ℕ) where
  of_one : c < 0x80 → character c ≡ c ∷ []
  unfolding character
  of_one h = rw (lt-ltb _ _ h)

  of_two : 0x80 ≤ c → c < 0x800 → character c ≡ (0xc0 + c / 64) ∷ (0x80 + c % 64) ∷ []
  unfolding character
  of_two l h = rw (le-ltb c 0x80 l, lt-ltb _ _ h)

  of_three : 0x800 ≤ c → c < 0x10000 → character c ≡ (0xe0 + c / 4096) ∷ (0x80 + c / 64 % 64) ∷ (0x80 + c % 64) ∷ []
  unfolding character
  of_three l h = rw (le-ltb c 0x80 (omega arith), le-ltb c 0x800 l, lt-ltb _ _ h)

  of_four : 0x10000 ≤ c → character c ≡ (0xf0 + c / 262144) ∷ (0x80 + c / 4096 % 64) ∷ (0x80 + c / 64 % 64) ∷ (0x80 + c % 64) ∷ []
  unfolding character
  of_four l = rw (le-ltb c 0x80 (omega arith), le-ltb c 0x800 (omega arith), le-ltb c 0x10000 l)

-- A byte in its range is taken off what has to follow.
takes : (low high b : ℕ) (rs : List Range) (s : List ℕ) → low ≤ b → b ≤ high → following (some (low ‥ high ∷ rs)) (b ∷ s) ≡ following (some rs) s
unfolding following
takes low high b rs s p q = rw (inside low high b p q)

starts : (b : ℕ) (rs : List Range) (s : List ℕ) → first b ≡ some rs → following (some []) (b ∷ s) ≡ following (some rs) s
unfolding following
starts b rs s e = rw e

-- A scalar value's bytes leave nothing that has to follow.
module _ (c : ℕ) (s : List ℕ) where
  passes_three : 0x800 ≤ c → c < 0x10000 → (low high : ℕ) → first (0xe0 + c / 4096) ≡ some (low ‥ high ∷ tail ∷ []) → low ≤ 0x80 + c / 64 % 64 → 0x80 + c / 64 % 64 ≤ high → following (some []) (character c ++ s) ≡ following (some []) s
  passes_three l h low high e p q =
      rw (of_three c l h)
      (starts _ _ _ e ∙ takes low high _ _ _ p q ∙ takes 0x80 0xbf _ _ _ (omega arith) (omega arith))

  passes_four : 0x10000 ≤ c → (low high : ℕ) → first (0xf0 + c / 262144) ≡ some (low ‥ high ∷ tail ∷ tail ∷ []) → low ≤ 0x80 + c / 4096 % 64 → 0x80 + c / 4096 % 64 ≤ high → following (some []) (character c ++ s) ≡ following (some []) s
  passes_four l low high e p q =
      rw (of_four c l)
      (starts _ _ _ e
      ∙ takes low high _ _ _ p q
      ∙ takes 0x80 0xbf _ _ _ (omega arith) (omega arith)
      ∙ takes 0x80 0xbf _ _ _ (omega arith) (omega arith))

  at : (b e : ℕ) (rs : List Range) → b ≡ e → first e ≡ some rs → first b ≡ some rs
  at b e rs p q = rw p q

  passes_low : c ≤ 0xd7ff → following (some []) (character c ++ s) ≡ following (some []) s
  passes_low h =
      by_test (ltb c 0x80)
      (λ t. let k : c < 0x80 = ltb-true c 0x80 t in rw (of_one c k) (starts c [] s (one_byte c (omega arith))))
      (λ f. let l1 : 0x80 ≤ c = ltb-false c 0x80 f in by_test (ltb c 0x800)
      (λ t. let k : c < 0x800 = ltb-true c 0x800 t in rw (of_two c l1 k) (starts _ _ _ (two_bytes_lem _ (omega arith) (omega arith)) ∙ takes 0x80 0xbf _ _ _ (omega arith) (omega arith)))
      (λ f. let l2 : 0x800 ≤ c = ltb-false c 0x800 f in by_test (ltb c 0x1000)
      (λ t. let k : c < 0x1000 = ltb-true c 0x1000 t in passes_three l2 (omega arith) 0xa0 0xbf (at _ 0xe0 _ (omega arith) after_e0) (omega arith) (omega arith))
      (λ f. let l3 : 0x1000 ≤ c = ltb-false c 0x1000 f in by_test (ltb c 0xd000)
      (λ t. let k : c < 0xd000 = ltb-true c 0xd000 t in passes_three l2 (omega arith) 0x80 0xbf (three_bytes _ (omega arith) (omega arith)) (omega arith) (omega arith))
      (λ f. let l4 : 0xd000 ≤ c = ltb-false c 0xd000 f in passes_three l2 (omega arith) 0x80 0x9f (at _ 0xed _ (omega arith) after_ed) (omega arith) (omega arith)))))

  passes_high : 0xe000 ≤ c → c ≤ 0x10ffff → following (some []) (character c ++ s) ≡ following (some []) s
  passes_high l h =
      by_test (ltb c 0x10000)
      (λ t. let k : c < 0x10000 = ltb-true c 0x10000 t in passes_three (omega arith) k 0x80 0xbf (three_bytes_high _ (omega arith) (omega arith)) (omega arith) (omega arith))
      (λ f. let l1 : 0x10000 ≤ c = ltb-false c 0x10000 f in by_test (ltb c 0x40000)
      (λ t. let k : c < 0x40000 = ltb-true c 0x40000 t in passes_four l1 0x90 0xbf (at _ 0xf0 _ (omega arith) after_f0) (omega arith) (omega arith))
      (λ f. let l2 : 0x40000 ≤ c = ltb-false c 0x40000 f in by_test (ltb c 0x100000)
      (λ t. let k : c < 0x100000 = ltb-true c 0x100000 t in passes_four l1 0x80 0xbf (four_bytes _ (omega arith) (omega arith)) (omega arith) (omega arith))
      (λ f. let l3 : 0x100000 ≤ c = ltb-false c 0x100000 f in passes_four l1 0x80 0x8f (at _ 0xf4 _ (omega arith) after_f4) (omega arith) (omega arith))))

  passes : Scalar c → following (some []) (character c ++ s) ≡ following (some []) s
  passes (inl h) = passes_low h
  passes (inr h) = passes_high h.0 h.1

all_pass : (cs : List ℕ) → Scalars cs → utf8 (encoded cs) ≡ true
unfolding encoded following
all_pass [] h = refl
all_pass (c ∷ cs) h = rw (passes c (encoded cs) h.0) (all_pass cs h.1)

-- The other way: what passes is a scalar value's bytes and a rest that passes.
dead : (s : List ℕ) → following none s ≡ none
unfolding following
dead [] = refl
dead (b ∷ s) = dead s

record Byte (low high : ℕ) (rs : List Range) (s : List ℕ) : Type 0 where
  byte : ℕ
  rest : List ℕ
  is : s ≡ byte ∷ rest
  from : low ≤ byte
  to : byte ≤ high
  passes : whole (following (some rs) rest) ≡ true

within_both : (a b : Bool) → (a && b) ≡ true → (a ≡ true) × (b ≡ true)
within_both true true e = (refl, refl)
within_both true false e = absurd (false≢true e)
within_both false true e = absurd (false≢true e)
within_both false false e = absurd (false≢true e)

-- The byte that has to follow is there and in its range.
byte_there : (low high : ℕ) (rs : List Range) (s : List ℕ) → whole (following (some (low ‥ high ∷ rs)) s) ≡ true → Byte low high rs s
unfolding following
byte_there low high rs [] h = absurd (false≢true h)
byte_there low high rs (b ∷ s) h =
    by_test (within (low ‥ high) b)
    (λ t. let e = within_both (leb low b) (leb b high) t in
    record { byte = b; rest = s; is = refl; from = leb-true _ _ e.0; to = leb-true _ _ e.1; passes = rw t at h })
    (λ f. absurd (false≢true (sym (ap whole (dead s)) ∙ rw f at h)))

record Taken (s : List ℕ) : Type 0 where
  number : ℕ
  scalar : Scalar number
  rest : List ℕ
  is : s ≡ character number ++ rest
  passes : utf8 rest ≡ true

-- The number that the bytes of each length are.
abbrev number_of_two : ℕ → ℕ → ℕ
number_of_two b t = (b - 0xc0) * 64 + (t - 0x80)

abbrev number_of_three : ℕ → ℕ → ℕ → ℕ
number_of_three b t u = (b - 0xe0) * 4096 + (t - 0x80) * 64 + (u - 0x80)

abbrev number_of_four : ℕ → ℕ → ℕ → ℕ → ℕ
number_of_four b t u v = (b - 0xf0) * 262144 + (t - 0x80) * 4096 + (u - 0x80) * 64 + (v - 0x80)

two : (b t : ℕ) → 0xc2 ≤ b → b ≤ 0xdf → 0x80 ≤ t → t ≤ 0xbf → character (number_of_two b t) ≡ b ∷ t ∷ []
two b t p q r s =
    let e : 0xc0 + number_of_two b t / 64 ≡ b = omega arith in
    let f : 0x80 + number_of_two b t % 64 ≡ t = omega arith in
    rw (of_two (number_of_two b t) (omega arith) (omega arith), e, f)

three : (b t u : ℕ) → 0xe0 ≤ b → b ≤ 0xef → 0x80 ≤ t → t ≤ 0xbf → 0x80 ≤ u → u ≤ 0xbf → 0x800 ≤ number_of_three b t u → character (number_of_three b t u) ≡ b ∷ t ∷ u ∷ []
three b t u p q r s v w l =
    let e : 0xe0 + number_of_three b t u / 4096 ≡ b = omega arith in
    let f : 0x80 + number_of_three b t u / 64 % 64 ≡ t = omega arith in
    let g : 0x80 + number_of_three b t u % 64 ≡ u = omega arith in
    rw (of_three (number_of_three b t u) l (omega arith), e, f, g)

four : (b t u v : ℕ) → 0xf0 ≤ b → 0x80 ≤ t → t ≤ 0xbf → 0x80 ≤ u → u ≤ 0xbf → 0x80 ≤ v → v ≤ 0xbf → 0x10000 ≤ number_of_four b t u v → character (number_of_four b t u v) ≡ b ∷ t ∷ u ∷ v ∷ []
four b t u v p r s w x y z l =
    let e : 0xf0 + number_of_four b t u v / 262144 ≡ b = omega arith in
    let f : 0x80 + number_of_four b t u v / 4096 % 64 ≡ t = omega arith in
    let g : 0x80 + number_of_four b t u v / 64 % 64 ≡ u = omega arith in
    let h : 0x80 + number_of_four b t u v % 64 ≡ v = omega arith in
    rw (of_four (number_of_four b t u v) l, e, f, g, h)

-- A text that passes, by its first byte.
module _ (b : ℕ) (s : List ℕ) (h : whole (following (some []) (b ∷ s)) ≡ true) where
  begun : (rs : List Range) → first b ≡ some rs → whole (following (some rs) s) ≡ true
  begun rs e = rw (starts b rs s e) at h

  taken_one : b ≤ 0x7f → Taken (b ∷ s)
  taken_one p =
      record { number = b; scalar = inl (omega arith); rest = s; is = ap (λ (l : List ℕ). l ++ s) (sym (of_one b (omega arith))); passes = begun [] (one_byte b p) }

  taken_two : 0xc2 ≤ b → b ≤ 0xdf → Taken (b ∷ s)
  taken_two p q =
      let t = byte_there 0x80 0xbf [] s (begun (tail ∷ []) (two_bytes_lem b p q)) in
      record {
        number = number_of_two b t.byte;
        scalar = inl (omega (arith, t.from, t.to));
        rest = t.rest;
        is = ap (λ (l : List ℕ). b ∷ l) t.is ∙ ap (λ (l : List ℕ). l ++ t.rest) (sym (two b t.byte p q t.from t.to));
        passes = t.passes;
      }

  taken_three : (low high : ℕ) → first b ≡ some (low ‥ high ∷ tail ∷ []) → 0xe0 ≤ b → b ≤ 0xef → 0x80 ≤ low → high ≤ 0xbf → ((t u : ℕ) → low ≤ t → t ≤ high → 0x80 ≤ u → u ≤ 0xbf → (0x800 ≤ number_of_three b t u) × Scalar (number_of_three b t u)) → Taken (b ∷ s)
  taken_three low high e p q l m f =
      let t = byte_there low high (tail ∷ []) s (begun _ e) in
      let u = byte_there 0x80 0xbf [] t.rest t.passes in
      let k = f t.byte u.byte t.from t.to u.from u.to in
      let lt : 0x80 ≤ t.byte = omega (arith, t.from) in
      let ht : t.byte ≤ 0xbf = omega (arith, t.to) in
      record {
        number = number_of_three b t.byte u.byte;
        scalar = k.1;
        rest = u.rest;
        is =
            ap (λ (l : List ℕ). b ∷ l) t.is
            ∙ ap (λ (l : List ℕ). b ∷ t.byte ∷ l) u.is
            ∙ ap (λ (l : List ℕ). l ++ u.rest) (sym (three b t.byte u.byte p q lt ht u.from u.to k.0));
        passes = u.passes;
      }

  taken_four : (low high : ℕ) → first b ≡ some (low ‥ high ∷ tail ∷ tail ∷ []) → 0xf0 ≤ b → 0x80 ≤ low → high ≤ 0xbf → ((t u v : ℕ) → low ≤ t → t ≤ high → 0x80 ≤ u → u ≤ 0xbf → 0x80 ≤ v → v ≤ 0xbf → (0x10000 ≤ number_of_four b t u v) × Scalar (number_of_four b t u v)) → Taken (b ∷ s)
  taken_four low high e p l m f =
      let t = byte_there low high (tail ∷ tail ∷ []) s (begun _ e) in
      let u = byte_there 0x80 0xbf (tail ∷ []) t.rest t.passes in
      let v = byte_there 0x80 0xbf [] u.rest u.passes in
      let k = f t.byte u.byte v.byte t.from t.to u.from u.to v.from v.to in
      let lt : 0x80 ≤ t.byte = omega (arith, t.from) in
      let ht : t.byte ≤ 0xbf = omega (arith, t.to) in
      record {
        number = number_of_four b t.byte u.byte v.byte;
        scalar = k.1;
        rest = v.rest;
        is =
            ap (λ (l : List ℕ). b ∷ l) t.is
            ∙ ap (λ (l : List ℕ). b ∷ t.byte ∷ l) u.is
            ∙ ap (λ (l : List ℕ). b ∷ t.byte ∷ u.byte ∷ l) v.is
            ∙ ap (λ (l : List ℕ). l ++ v.rest) (sym (four b t.byte u.byte v.byte p lt ht u.from u.to v.from v.to k.0));
        passes = v.passes;
      }

  wrong : first b ≡ none → Taken (b ∷ s)
  unfolding following
  wrong e = absurd (false≢true (sym (ap whole (dead s)) ∙ rw e at h))

  -- One more interval of first bytes is behind.
  from : {P : Type 0} (k : ℕ) → (b ≤ k → P) → (suc k ≤ b → P) → P
  from k f g = by_test (leb b k) (λ t. f (leb-true b k t)) (λ t. g (leb-false b k t))

  first_is : (k : ℕ) (rs : List Range) → first k ≡ some rs → k ≤ b → b ≤ k → first b ≡ some rs
  first_is k rs e p q = let i : b ≡ k = omega arith in rw i e

  taken : Taken (b ∷ s)
  taken =
      from 0x7f taken_one
      (λ l1. from 0xc1 (λ p. wrong (no_first_low b l1 p))
      (λ l2. from 0xdf (taken_two l2)
      (λ l3. from 0xe0 (λ p. taken_three 0xa0 0xbf (first_is 0xe0 _ after_e0 l3 p) l3 (omega arith) (omega arith) (omega arith) (λ t u a c d e. (omega arith, inl (omega arith))))
      (λ l4. from 0xec (λ p. taken_three 0x80 0xbf (three_bytes b l4 p) (omega arith) (omega arith) (omega arith) (omega arith) (λ t u a c d e. (omega arith, inl (omega arith))))
      (λ l5. from 0xed (λ p. taken_three 0x80 0x9f (first_is 0xed _ after_ed l5 p) (omega arith) (omega arith) (omega arith) (omega arith) (λ t u a c d e. (omega arith, inl (omega arith))))
      (λ l6. from 0xef (λ p. taken_three 0x80 0xbf (three_bytes_high b l6 p) (omega arith) p (omega arith) (omega arith) (λ t u a c d e. (omega arith, inr (omega arith, omega arith))))
      (λ l7. from 0xf0 (λ p. taken_four 0x90 0xbf (first_is 0xf0 _ after_f0 l7 p) l7 (omega arith) (omega arith) (λ t u v a c d e f g. (omega arith, inr (omega arith, omega arith))))
      (λ l8. from 0xf3 (λ p. taken_four 0x80 0xbf (four_bytes b l8 p) (omega arith) (omega arith) (omega arith) (λ t u v a c d e f g. (omega arith, inr (omega arith, omega arith))))
      (λ l9. from 0xf4 (λ p. taken_four 0x80 0x8f (first_is 0xf4 _ after_f4 l9 p) (omega arith) (omega arith) (omega arith) (λ t u v a c d e f g. (omega arith, inr (omega arith, omega arith))))
      (λ l10. wrong (no_first_high b l10)))))))))))

some_bytes : (c : ℕ) → (l : ℕ) × (length (character c) ≡ suc l)
unfolding character
some_bytes c =
    by_test (ltb c 0x80)
    (λ t. (0, rw t))
    (λ f. by_test (ltb c 0x800)
    (λ t. (1, rw (f, t)))
    (λ g. by_test (ltb c 0x10000) (λ t. (2, rw (f, g, t))) (λ k. (3, rw (f, g, k)))))

-- By the text's length: a character's bytes are at least one.
decoded : (n : ℕ) (s : List ℕ) → length s ≤ n → utf8 s ≡ true → (cs : List ℕ) × Scalars cs × (s ≡ encoded cs)
unfolding encoded
decoded zero [] l h = ([], tt, refl)
decoded zero (b ∷ s) l h = absurd (omega arith)
decoded (suc n) [] l h = ([], tt, refl)
decoded (suc n) (b ∷ s) l h =
    let t = taken b s h in
    let k = some_bytes t.number in
    let m : length t.rest ≤ n = omega (arith, ap length t.is, length-append (character t.number) t.rest, k.1) in
    let r = decoded n t.rest m t.passes in
    (t.number ∷ r.0, (t.scalar, r.1), t.is ∙ ap (λ (x : List ℕ). character t.number ++ x) r.2)

pub unicode : Unicode
unicode s = (λ h. decoded (length s) s (omega arith) h, λ d. rw d.2 (all_pass d.0 d.1))
