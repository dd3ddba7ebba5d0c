-- Elements whose fields are numbers that fill their bytes are all read if their bytes are there, since no value of them is refused;
-- and of those that are not all there, the first that is cut is refused. Assumes nothing.
use mathlib.Core.Path.{◌≡◌, refl, ◌∙◌, sym, ap, subst}
use mathlib.Core.Bool.{Bool, true, false, cond}
use mathlib.Core.List.{List, [], ◌∷◌}
use Prim.Native.Nat.{ℕ, zero, suc, ◌+◌, ◌-◌, ◌*◌, ◌/◌, ◌^◌, ◌<◌, ◌≤◌}
use native.Mathlib.Nat.{div-zero, zero-div, div-mul-le_self, lt-div-mul-add, mul-le-mul_right}
use native.Mathlib.Omega.{arith}
use lib.Dec.{ltb}
use lib.ListN.{length}
use borrow.Author.Tests.{lt-ltb, le-ltb, ltb-true, ltb-false}
use Rattle.wire.specs.Integers.{Bytes, big_endian, width_of}
use Rattle.wire.specs.declared.integers.Width.{Width}
use Rattle.wire.specs.declared.integers.Width.TheVariants.{One, Two, Three, Four, Eight}
use Rattle.wire.proofs.Widths.{positive}
use Rattle.protocol.specs.Fields.{Field, number}
use Rattle.protocol.specs.Kinds.{Row, end, ◌·◌, unsigned}
use Rattle.protocol.specs.Refusals.{field_cut}
use Rattle.protocol.specs.declared.place.Place.{Place}
use Rattle.rules.specs.Outcome.{got, refused, repeated}
use Rattle.rules.specs.Reading.{read_field, read_row}
use Rattle.rules.proofs.Numbers.{number_there, number_cut, whole_width}
use Rattle.std.specs.Prelude.{Ok, Err}
use Rattle.byte_strings.specs.Stops.{Stop, stop, stop_at}
use Rattle.byte_strings.proofs.Stops.{at_one}
use Rattle.number_lists.specs.Fixed.{NumbersOf, none, one_more, fixed_end}

module _ (s : List ℕ) (b : Bytes s) where
  row_read : {row : Row} {w : ℕ} → NumbersOf row w → (at : ℕ) → at + w ≤ length s → (fs : List (Field Place)) × (read_row row s at ≡ got fs (at + w))
  unfolding read_row read_field
  row_read none at h = let e : at + 0 ≡ at = omega arith in ([], rw e)
  row_read (one_more {row = row} {w = w} n most i r) at h =
      let f : at + n + w ≡ at + (n + w) = omega arith in
      let rest = row_read r (at + n) (omega arith) in
      (number (big_endian n s at) ∷ rest.0, rw (whole_width n s at most i b, number_there n s at (omega arith), rest.1, f))

  -- A row that is cut is refused at the first number that is not all there.
  abbrev Refused : Row → ℕ → Type 0
  Refused row at = (p : ℕ) × (read_row row s at ≡ refused field_cut p)

  first_cut : (row : Row) (n most at : ℕ) → 256 ^ n ≡ suc most → (at + n ≤ length s → Refused row (at + n)) → Refused (unsigned n most · row) at
  unfolding read_row read_field
  first_cut row n most at i rest = by (ltb (length s) (at + n)) refl
    where
      by : (t : Bool) → ltb (length s) (at + n) ≡ t → Refused (unsigned n most · row) at
      by true e = (at, rw (whole_width n s at most i b, number_cut n s at (ltb-true _ _ e)))
      by false e =
          let h = ltb-false _ _ e in
          let r = rest h in
          (r.0, rw (whole_width n s at most i b, number_there n s at h, r.1))

  rest_cut : {row : Row} {w : ℕ} → NumbersOf row w → (at : ℕ) → at ≤ length s → length s < at + w → Refused row at
  rest_cut none at l h = absurd (omega (arith, l, h))
  rest_cut (one_more {row = row} n most i r) at l h = first_cut row n most at i (λ k. rest_cut r (at + n) k (omega (arith, h)))

  row_cut : {row : Row} {w : ℕ} → NumbersOf row w → (w ≡ 0 → ⊥) → (at : ℕ) → length s < at + w → Refused row at
  row_cut none z at h = absurd (z refl)
  row_cut (one_more {row = row} n most i r) z at h = first_cut row n most at i (λ k. rest_cut r (at + n) k (omega (arith, h)))

  -- So many that are there, and then others.
  passed : {row : Row} {w : ℕ} → NumbersOf row w → (m n at : ℕ) → at + m * w ≤ length s → repeated (read_row row) (m + n) s at ≡ repeated (read_row row) n s (at + m * w)
  unfolding repeated
  passed {w = w} r zero n at h = let e : at + 0 * w ≡ at = omega arith in let f : 0 + n ≡ n = omega arith in rw (e, f)
  passed {row} {w} r (suc m) n at h =
      let e : at + w + m * w ≡ at + suc m * w = omega arith in
      let f : suc m + n ≡ suc (m + n) = omega arith in
      let first : (fs : List (Field Place)) × (read_row row s at ≡ got fs (at + w)) = row_read r at (omega arith) in
      let rest : repeated (read_row row) (m + n) s (at + w) ≡ repeated (read_row row) n s (at + w + m * w) = passed r m n (at + w) (omega arith) in
      rw (f, first.1) (rest ∙ ap (λ (x : ℕ). repeated (read_row row) n s x) e)

  -- All of them are there, or the first that is cut is refused.
  module _ {row : Row} {w : ℕ} (r : NumbersOf row w) (z : w ≡ 0 → ⊥) (at count : ℕ) where
    abbrev whole : ℕ
    whole = (length s - at) / w

    -- Beyond the end of s there is none.
    beyond : length s < at → whole ≡ 0
    beyond l = let e : length s - at ≡ 0 = omega arith in rw e (zero-div w)

    pub all_there : count ≤ whole → stop_at (at + count * w) 0 ≡ stop (repeated (read_row row) count s at)
    unfolding repeated
    all_there h = by (ltb (length s) at) refl
      where
        by : (t : Bool) → ltb (length s) at ≡ t → stop_at (at + count * w) 0 ≡ stop (repeated (read_row row) count s at)
        by true i =
            let none : count ≡ 0 = omega (arith, beyond (ltb-true _ _ i), h) in
            let e : at + 0 * w ≡ at = omega arith in
            rw (none, e)
        by false i =
            let l : at ≤ length s = ltb-false _ _ i in
            let m : count * w ≤ whole * w = mul-le-mul_right w h in
            let there : at + count * w ≤ length s = omega (arith, div-mul-le_self (length s - at) w) in
            let e : count + 0 ≡ count = omega arith in
            rw (rw e at (passed r count 0 at there))

    -- The first that is not all there.
    pub first_short : length s < at + whole * w + w
    first_short = omega (arith, lt-div-mul-add {a = length s - at} {b = w} (omega (arith, z)))

    pub first_refused : whole < count → (e : Stop) → e ≡ stop (read_row row s (at + whole * w)) → e ≡ stop (repeated (read_row row) count s at)
    first_refused h e f = by (ltb (length s) at) refl
      where
        -- Where it begins.
        at_first_lem : (k first : ℕ) → (k ≡ 0 → ⊥) → length s < first + w → e ≡ stop (read_row row s first) → e ≡ stop (repeated (read_row row) k s first)
        at_first_lem k first n l g =
            let c : Refused row first = row_cut r z first l in
            g ∙ ap stop c.1 ∙ ap stop (sym (at_one (read_row row) s k first field_cut c.0 n c.1))

        by : (t : Bool) → ltb (length s) at ≡ t → e ≡ stop (repeated (read_row row) count s at)
        by true i =
            let l : length s < at = ltb-true _ _ i in
            let o : at + whole * w ≡ at = rw (beyond l) (omega arith) in
            at_first_lem count at (λ y. omega (arith, y, h)) (omega arith) (rw o at f)
        by false i =
            let l : at ≤ length s = ltb-false _ _ i in
            let n : whole + (count - whole) ≡ count = omega arith in
            let there : at + whole * w ≤ length s = omega (arith, div-mul-le_self (length s - at) w) in
            at_first_lem (count - whole) (at + whole * w) (λ y. omega (arith, y, h)) first_short f ∙ ap stop (sym (rw n at (passed r whole (count - whole) at there)))

-- ---- The code's answer

module _ (len at width count : ℕ) where
  pub none_asked : count ≡ 0 → Ok at ≡ fixed_end len at width count
  unfolding fixed_end
  none_asked n = let e : at + 0 * width ≡ at = omega arith in rw (n, le-ltb ((len - at) / width) 0 (omega arith), e)

  module _ (n : count ≡ 0 → ⊥) where
    none_there : (len - at) / width ≡ 0 → Err at ≡ fixed_end len at width count
    unfolding fixed_end
    none_there i = let e : at + 0 * width ≡ at = omega arith in rw (i, lt-ltb 0 count (omega (arith, n)), e)

    pub no_width : width ≡ 0 → Err at ≡ fixed_end len at width count
    no_width i = none_there (rw i (div-zero (len - at)))

    pub outside : len < at → Err at ≡ fixed_end len at width count
    outside l = let e : len - at ≡ 0 = omega arith in none_there (rw e (zero-div width))

  pub too_few : (len - at) / width < count → Err (at + (len - at) / width * width) ≡ fixed_end len at width count
  unfolding fixed_end
  too_few l = rw (lt-ltb _ _ l)

  pub enough : count ≤ (len - at) / width → Ok (at + count * width) ≡ fixed_end len at width count
  unfolding fixed_end
  enough l = rw (le-ltb _ _ l)

  -- What it tells.
  pub known_end : (e : ℕ) → Ok e ≡ fixed_end len at width count → (count ≤ (len - at) / width) × (e ≡ at + count * width)
  unfolding fixed_end
  known_end e h = by (ltb ((len - at) / width) count) refl h
    where
      by : (t : Bool) → ltb ((len - at) / width) count ≡ t → Ok e ≡ cond t (Err (at + (len - at) / width * width)) (Ok (at + count * width)) → (count ≤ (len - at) / width) × (e ≡ at + count * width)
      by true i j = absurd (let y : ◌≡◌ {A = ℕ} 0 1 = cc in omega arith)
      by false i j = (ltb-false _ _ i, cc)

  pub known_cut : (e : ℕ) → Err e ≡ fixed_end len at width count → ((len - at) / width < count) × (e ≡ at + (len - at) / width * width)
  unfolding fixed_end
  known_cut e h = by (ltb ((len - at) / width) count) refl h
    where
      by : (t : Bool) → ltb ((len - at) / width) count ≡ t → Err e ≡ cond t (Err (at + (len - at) / width * width)) (Ok (at + count * width)) → ((len - at) / width < count) × (e ≡ at + (len - at) / width * width)
      by true i j = (ltb-true _ _ i, cc)
      by false i j = absurd (let y : ◌≡◌ {A = ℕ} 0 1 = cc in omega arith)

-- ---- One number

-- A number that fills its bytes has a largest value.
filled : (n : ℕ) → 256 ^ n ≡ suc (256 ^ n - 1)
filled n = omega (arith, positive n)

one_number : (n most : ℕ) → 256 ^ n ≡ suc most → NumbersOf (unsigned n most · end) n
one_number n most i = let e : n + 0 ≡ n = omega arith in subst (NumbersOf (unsigned n most · end)) e (one_more n most i none)

some_width : (w : Width) → width_of w ≡ 0 → ⊥
some_width One e = omega (arith, e)
some_width Two e = omega (arith, e)
some_width Three e = omega (arith, e)
some_width Four e = omega (arith, e)
some_width Eight e = omega (arith, e)

abbrev pub number_row : Width → Row
number_row w = unsigned (width_of w) (256 ^ width_of w - 1) · end

number_cut_there : (s : List ℕ) (b : Bytes s) (n most at : ℕ) → 256 ^ n ≡ suc most → length s < at + n → stop_at at field_cut ≡ stop (read_row (unsigned n most · end) s at)
unfolding read_row read_field
number_cut_there s b n most at i h = rw (whole_width n s at most i b, number_cut n s at h)

module _ (s : List ℕ) (b : Bytes s) (w : Width) (at count e : ℕ) where
  of_width : NumbersOf (number_row w) (width_of w)
  of_width = one_number (width_of w) (256 ^ width_of w - 1) (filled (width_of w))

  pub numbers_end : Ok e ≡ fixed_end (length s) at (width_of w) count → stop_at e 0 ≡ stop (repeated (read_row (number_row w)) count s at)
  numbers_end h = let k = known_end (length s) at (width_of w) count e h in rw k.1 (all_there s b of_width (some_width w) at count k.0)

  pub numbers_cut : Err e ≡ fixed_end (length s) at (width_of w) count → stop_at e field_cut ≡ stop (repeated (read_row (number_row w)) count s at)
  numbers_cut h =
      let k = known_cut (length s) at (width_of w) count e h in
      let short : length s < e + width_of w = rw k.1 (first_short s b of_width (some_width w) at count) in
      first_refused s b of_width (some_width w) at count k.0 (stop_at e field_cut) (rw (← k.1) (number_cut_there s b (width_of w) (256 ^ width_of w - 1) e (filled (width_of w)) short))
