-- A byte string is read as it is written: the same checks in the same order. So the code asks one function why it is
-- refused, and what is read or written follows from the answer. Assumes nothing.
use mathlib.Core.Path.{◌≡◌, refl, ◌∙◌, sym, ap}
use mathlib.Core.Bool.{Bool, true, false, cond, not, ◌&&◌, false≢true}
use mathlib.Core.List.{List, [], ◌++◌}
use mathlib.Core.Option.{none, some}
use Prim.Native.Nat.{ℕ, zero, suc, ◌+◌, ◌-◌, ◌/◌, ◌^◌, ◌<◌, ◌≤◌}
use native.Mathlib.Omega.{arith}
use lib.Dec.{eqb, ltb, leb, lit<, lit≤}
use lib.IntN.{pos, negsuc}
use lib.ListN.{length, take, drop}
use borrow.Author.Tests.{lt-ltb, le-ltb, lt-leb, ltb-true, ltb-false, leb-true, leb-false, eqb-true, eqb-false}
use Rattle.wire.specs.Integers.{Bytes, big_endian, digits, number_or_zero}
use Rattle.wire.specs.Signed.{signed}
use Rattle.wire.proofs.TwosComplement.{below_half, above_half, minus_one, below_minus_one}
use Rattle.wire.proofs.Widths.{integers, or_zero_lem}
use Rattle.protocol.specs.Fields.{Field, place}
use Rattle.protocol.specs.Fields as F
use Rattle.protocol.specs.Kinds.{length_width}
use Rattle.protocol.specs.Refusals.{field_cut, bad_length, not_utf8, reference_too_long}
use Rattle.protocol.specs.declared.kind.Form.{Form}
use Rattle.protocol.specs.declared.kind.Form.TheVariants.{Text, Reference, Bytes as Raw}
use Rattle.protocol.specs.declared.place.Place.{Place}
use Rattle.rules.specs.Outcome.{Outcome, got, refused, refuse_if}
use Rattle.rules.specs.Reading.{read_string, read_body, too_long, is_text}
use Rattle.rules.specs.Writing.{Encoding, wrote, refuse, checked, write_string}
use Rattle.rules.proofs.Numbers.{number_there, number_cut}
use Rattle.byte_strings.specs.Stops.{refusal_of}
use Rattle.byte_strings.proofs.Checked.{check_passed, refused_as}

-- ---- The lengths of each form

pub most_small : (form : Form) → 256 ^ length_width form / 2 - 1 ≤ 0x7fff_ffff
most_small Text = lit≤ tt
most_small Reference = lit≤ tt
most_small Raw = lit≤ tt

pub some_length : (form : Form) → 0 < 256 ^ length_width form / 2
some_length Text = lit< tt
some_length Reference = lit< tt
some_length Raw = lit< tt

module _ (form : Form) (most len : ℕ) (e : most ≡ 256 ^ length_width form / 2 - 1) where
  pub negative : most < len → 256 ^ length_width form / 2 ≤ len
  negative h = omega arith

  pub not_negative : len ≤ most → len < 256 ^ length_width form / 2
  not_negative h = omega (arith, some_length form)

-- What the refusal of a length, or 0, tells of a byte string that has it.
module _ (form : Form) (s : List ℕ) (at len r : ℕ) (e : r ≡ refusal_of (checked (leb (256 ^ length_width form / 2) len) bad_length (checked (too_long form len) reference_too_long (wrote [])))) where
  pub length_refused : (r ≡ 0 → ⊥) → r ≡ refusal_of (write_string form false s (some (place at len)))
  unfolding write_string
  length_refused z = by (leb (256 ^ length_width form / 2) len) (too_long form len) _ e
    where
      by : (t u : Bool) (rest : Encoding) → r ≡ refusal_of (checked t bad_length (checked u reference_too_long (wrote []))) → r ≡ refusal_of (checked t bad_length (checked u reference_too_long rest))
      by true u rest i = i
      by false true rest i = i
      by false false rest i = absurd (z i)

  length_passed : r ≡ 0 → (len < 256 ^ length_width form / 2) × (too_long form len ≡ false)
  length_passed z =
      let long = check_passed (leb (256 ^ length_width form / 2) len) bad_length _ (λ k. omega (arith, k)) (sym e ∙ z) in
      (leb-false _ _ long.0, (check_passed (too_long form len) reference_too_long (wrote []) (λ k. omega (arith, k)) long.1).0)

  -- After a length that passes, the place tells, and then whether it is text.
  pub place_refused : r ≡ 0 → length s < at + len → field_cut ≡ refusal_of (write_string form false s (some (place at len)))
  unfolding write_string
  place_refused z l = let p = length_passed z in rw (lt-leb _ _ p.0, p.1, lt-ltb _ _ l)

  pub text_told : r ≡ 0 → at + len ≤ length s → (t : Bool) → t ≡ is_text form (take len (drop at s)) → cond t 0 not_utf8 ≡ refusal_of (write_string form false s (some (place at len)))
  unfolding write_string
  text_told z l true i = let p = length_passed z in rw (lt-leb _ _ p.0, p.1, le-ltb _ _ l, ← i)
  text_told z l false i = let p = length_passed z in rw (lt-leb _ _ p.0, p.1, le-ltb _ _ l, ← i)

pub narrow : (form : Form) → length_width form ≤ 4
narrow Text = lit≤ tt
narrow Reference = lit≤ tt
narrow Raw = lit≤ tt

-- ---- Behind a length that is not negative

module _ (form : Form) (nullable : Bool) (s : List ℕ) (start at len : ℕ) where
  pub body_cut : too_long form len ≡ false → length s < at + len → read_body form nullable s start (pos len) at ≡ refused field_cut start
  unfolding read_body
  body_cut h l = rw (h, lt-ltb _ _ l)

  pub body_read : too_long form len ≡ false → at + len ≤ length s → is_text form (take len (drop at s)) ≡ true → read_body form nullable s start (pos len) at ≡ got (F.string (some (place at len))) (at + len)
  unfolding read_body
  body_read h l t = rw (h, le-ltb _ _ l, t)

pub negative_refused : (form : Form) (s : List ℕ) (at k next : ℕ) → read_body form false s at (negsuc k) next ≡ refused bad_length at
unfolding read_body
negative_refused form s at zero next = refl
negative_refused form s at (suc k) next = refl

-- ---- What is refused with 0 is admitted

pub record Admitted (form : Form) (s : List ℕ) (at len : ℕ) : Type 0 where
  pub short : len < 256 ^ length_width form / 2
  pub limit : too_long form len ≡ false
  pub inside : at + len ≤ length s
  pub text : is_text form (take len (drop at s)) ≡ true

module _ (form : Form) (s : List ℕ) (at len : ℕ) where
  abbrev encoding : Encoding
  encoding = write_string form false s (some (place at len))

  abbrev bytes : List ℕ
  bytes = digits (length_width form) len ++ take len (drop at s)

  pub admitted : refusal_of encoding ≡ 0 → Admitted form s at len
  unfolding write_string
  admitted h = by (leb (256 ^ length_width form / 2) len) (too_long form len) (ltb (length s) (at + len)) (is_text form (take len (drop at s))) refl refl refl refl h
    where
      by : (a b c d : Bool) → leb (256 ^ length_width form / 2) len ≡ a → too_long form len ≡ b → ltb (length s) (at + len) ≡ c → is_text form (take len (drop at s)) ≡ d → refusal_of (checked a bad_length (checked b reference_too_long (checked c field_cut (checked (not d) not_utf8 (wrote bytes))))) ≡ 0 → Admitted form s at len
      by true b c d i j k l z = absurd (omega (arith, z))
      by false true c d i j k l z = absurd (omega (arith, z))
      by false false true d i j k l z = absurd (omega (arith, z))
      by false false false false i j k l z = absurd (omega (arith, z))
      by false false false true i j k l z = record { short = leb-false _ _ i; limit = j; inside = ltb-false _ _ k; text = l }

  -- What `is_string` tells, if it is one.
  pub passes : (r : Bool) → r ≡ eqb (refusal_of encoding) 0 → r ≡ true → Admitted form s at len
  passes r e h = admitted (eqb-true _ _ (sym e ∙ h))

  pub admitted_bytes : (nullable : Bool) → Admitted form s at len → write_string form nullable s (some (place at len)) ≡ wrote bytes
  unfolding write_string
  admitted_bytes nullable a = rw (lt-leb _ _ a.short, a.limit, le-ltb _ _ a.inside, a.text)

  -- Read as written.
  abbrev read_as : ℕ → Encoding → Outcome (Field Place)
  read_as start (wrote b) = got (F.string (some (place at len))) (at + len)
  read_as start (refuse n) = refused n start

  body_as : (start : ℕ) → read_body form false s start (signed (length_width form) len) at ≡ read_as start encoding
  unfolding read_body write_string
  body_as start = by (leb (256 ^ length_width form / 2) len) refl
    where
      checks : (b c d : Bool) → refuse_if b reference_too_long start (refuse_if c field_cut start (refuse_if (not d) not_utf8 start (got (F.string (some (place at len))) (at + len)))) ≡ read_as start (checked b reference_too_long (checked c field_cut (checked (not d) not_utf8 (wrote bytes))))
      checks true c d = refl
      checks false true d = refl
      checks false false true = refl
      checks false false false = refl

      by : (t : Bool) → leb (256 ^ length_width form / 2) len ≡ t → read_body form false s start (signed (length_width form) len) at ≡ read_as start encoding
      by true e = rw (above_half (length_width form) len (leb-true _ _ e), negative_refused form s start (256 ^ length_width form - 1 - len) at, e)
      by false e = rw (below_half (length_width form) len (leb-false _ _ e), e) (checks (too_long form len) (ltb (length s) (at + len)) (is_text form (take len (drop at s))))

  module _ (r : ℕ) (e : r ≡ refusal_of encoding) where
    pub refused_by : (r ≡ 0 → ⊥) → encoding ≡ refuse r
    refused_by h = refused_as encoding r e h

    pub body_refused : (start : ℕ) → (r ≡ 0 → ⊥) → read_body form false s start (signed (length_width form) len) at ≡ refused r start
    body_refused start h = body_as start ∙ ap (read_as start) (refused_by h)

    pub body_found : (nullable : Bool) (start : ℕ) → r ≡ 0 → read_body form nullable s start (signed (length_width form) len) at ≡ got (F.string (some (place at len))) (at + len)
    body_found nullable start h =
        let a = admitted (sym e ∙ h) in
        rw (below_half (length_width form) len a.short) (body_read form nullable s start at len a.limit a.inside a.text)

-- ---- Null

length_null : (form : Form) (v : ℕ) → v ≡ 256 ^ length_width form - 1 → signed (length_width form) v ≡ negsuc 0
length_null Text v e = minus_one 1 v (omega (arith, e)) (omega (arith, e))
length_null Reference v e = minus_one 1 v (omega (arith, e)) (omega (arith, e))
length_null Raw v e = minus_one 3 v (omega (arith, e)) (omega (arith, e))

length_below : (form : Form) (v : ℕ) → 256 ^ length_width form / 2 ≤ v → suc v < 256 ^ length_width form → (k : ℕ) × (signed (length_width form) v ≡ negsuc (suc k))
length_below Text v = below_minus_one 1 v
length_below Reference v = below_minus_one 1 v
length_below Raw v = below_minus_one 3 v

-- ---- A byte string at a place

pub length_cut : (form : Form) (nullable : Bool) (s : List ℕ) (at : ℕ) → length s < at + length_width form → read_string form nullable s at ≡ refused field_cut at
unfolding read_string
length_cut form nullable s at h = rw (number_cut (length_width form) s at h)

module _ (form : Form) (s : List ℕ) (at : ℕ) (there : at + length_width form ≤ length s) (v : ℕ) (e : v ≡ number_or_zero (length_width form) s at) where
  abbrev body : ℕ
  body = at + length_width form

  abbrev null : ℕ
  null = 256 ^ length_width form - 1

  is_length : v ≡ big_endian (length_width form) s at
  is_length = e ∙ or_zero_lem (length_width form) s at there

  after_length : (nullable : Bool) → read_string form nullable s at ≡ read_body form nullable s at (signed (length_width form) v) body
  unfolding read_string
  after_length nullable = rw (number_there (length_width form) s at there, is_length)

  pub string_null : (nullable : Bool) → (nullable && eqb v null) ≡ true → read_string form nullable s at ≡ got (F.string none) body
  unfolding read_body
  string_null true n = rw (after_length true, length_null form v (eqb-true _ _ n))
  string_null false n = absurd (false≢true n)

  -- At every other length it makes no difference whether null is admitted.
  same_body : Bytes s → (v ≡ null → ⊥) → read_body form true s at (signed (length_width form) v) body ≡ read_body form false s at (signed (length_width form) v) body
  unfolding read_body
  same_body b n = by (leb (256 ^ length_width form / 2) v) refl (ltb (suc v) (256 ^ length_width form)) refl
    where
      low : v < 256 ^ length_width form
      low = rw is_length ((integers (length_width form)).range s at b)

      by : (t : Bool) → leb (256 ^ length_width form / 2) v ≡ t → (u : Bool) → ltb (suc v) (256 ^ length_width form) ≡ u → read_body form true s at (signed (length_width form) v) body ≡ read_body form false s at (signed (length_width form) v) body
      by false f u g = rw (below_half (length_width form) v (leb-false _ _ f))
      by true f true g = rw (length_below form v (leb-true _ _ f) (ltb-true _ _ g)).1
      by true f false g = let k : 256 ^ length_width form ≤ suc v = ltb-false _ _ g in absurd (n (omega (arith, low)))

  module _ (nullable : Bool) (b : Bytes s) (n : (nullable && eqb v null) ≡ false) where
    not_null : read_string form nullable s at ≡ read_body form false s at (signed (length_width form) v) body
    not_null = by nullable n
      where
        by : (t : Bool) → (t && eqb v null) ≡ false → read_string form t s at ≡ read_body form false s at (signed (length_width form) v) body
        by true f = after_length true ∙ same_body b (eqb-false _ _ f)
        by false f = after_length false

    module _ (r : ℕ) (f : r ≡ refusal_of (write_string form false s (some (place body v)))) where
      pub string_refused : (r ≡ 0 → ⊥) → read_string form nullable s at ≡ refused r at
      string_refused z = not_null ∙ body_refused form s body v r f at z

      pub string_found : r ≡ 0 → read_string form nullable s at ≡ got (F.string (some (place body v))) (body + v)
      string_found z = not_null ∙ body_found form s body v r f false at z
