-- A well-formed field of each kind but the chunk is read where its encoding stands: the bytes of every number are there
-- and are its digits, so each check is passed. Assumes nothing.
use mathlib.Core.Path.{◌≡◌, refl, ap, subst, ◌∙◌}
use mathlib.Core.Bool.{Bool, true, false}
use mathlib.Core.List.{List, ◌++◌}
use mathlib.Core.Option.{Option, none, some}
use Prim.Native.Nat.{ℕ, zero, suc, ◌+◌, ◌-◌, ◌^◌, ◌≤◌, ◌<◌}
use native.Mathlib.Omega.{arith}
use lib.IntN.{ℤ, pos, negsuc}
use lib.ListN.{length, take, drop}
use borrow.Author.Tests.{le-ltb}
use Rattle.wire.specs.Integers.{digits}
use Rattle.wire.specs.Signed as two's
use Rattle.wire.proofs.TwosComplement.{below_half, minus_one, twos_complement}
use Rattle.wire.proofs.Widths.{integers, positive}
use Rattle.protocol.specs.Fields.{Field, number, integer, elements, place, value_in}
use Rattle.protocol.specs.Fields as F
use Rattle.protocol.specs.Kinds.{length_width}
use Rattle.protocol.specs.declared.kind.Form.{Form}
use Rattle.protocol.specs.declared.kind.Form.TheVariants.{Text, Reference, Bytes}
use Rattle.protocol.specs.declared.offset.OffsetSpecification.{OffsetSpecification}
use Rattle.protocol.specs.declared.offset.OffsetSpecification.TheVariants.{None, First, Last, Next, Offset, Timestamp}
use Rattle.protocol.specs.declared.place.Place.{Place}
use Rattle.rules.specs.Grammar.{Value, encode_string, encode_offset, Pieces, Length, ValidBytes, ValidString, ValidOffset}
use Rattle.rules.specs.Outcome.{Outcome, got, repeated}
use Rattle.rules.specs.Reading.{read_number, read_unsigned, read_signed, too_long, is_text, read_body, read_string, read_offset, read_timestamp, read_typed, read_specification, read_count, read_list}
use Rattle.rules.proofs.Numbers.{number_there}
use Rattle.rules.proofs.Parts.{Part, first_part, second_part, part_number, taken}

-- Length -1 is all ones, and a length that fits is itself.
null_length_lem : (form : Form) → two's.signed (length_width form) (256 ^ length_width form - 1) ≡ negsuc 0
null_length_lem Text = minus_one 1 (256 ^ 2 - 1) (omega arith) (omega arith)
null_length_lem Reference = minus_one 1 (256 ^ 2 - 1) (omega arith) (omega arith)
null_length_lem Bytes = minus_one 3 (256 ^ 4 - 1) (omega arith) (omega arith)

pub in_half : (n x : ℕ) → Length n x → x < 256 ^ n
in_half n x h = omega (arith, h)

pub not_long : (form : Form) (b : List ℕ) → ValidBytes form b → too_long form (length b) ≡ false
not_long Text b h = refl
not_long Reference b h = le-ltb 256 (length b) h.0
not_long Bytes b h = refl

pub is_text_lem : (form : Form) (b : List ℕ) → ValidBytes form b → is_text form b ≡ true
is_text_lem Text b h = h
is_text_lem Reference b h = h.1
is_text_lem Bytes b h = refl

module _ (s : List ℕ) where
  -- A field is read up to a place, and its value is v.
  abbrev pub Reads : ℕ → Value → Outcome (Field Place) → Type 0
  Reads next v o = (f : Field Place) × (o ≡ got f next) × (value_in s f ≡ v)

  -- A number in front, and what stands behind it.
  pub number_first : (n x at next : ℕ) (e : List ℕ) → Part s at (digits n x ++ e) next → Part s at (digits n x) (at + n)
  number_first n x at next e p = first_part s at (at + n) next (digits n x) e (ap (λ k. at + k) ((integers n).size x)) p

  pub behind_number : (n x at mid next : ℕ) (e : List ℕ) → at + n ≡ mid → Part s at (digits n x ++ e) next → Part s mid e next
  behind_number n x at mid next e m p = second_part s at mid next (digits n x) e (ap (λ k. at + k) ((integers n).size x) ∙ m) p

  pub number_read : (n x at next : ℕ) → x < 256 ^ n → Part s at (digits n x) next → read_number n s at ≡ got x next
  number_read n x at next l p =
      let e : at + n ≡ next = omega (arith, p.long, (integers n).size x) in
      number_there n s at (omega (arith, e, p.within)) ∙ ap (λ y. got y (at + n)) (part_number s n x at next l p) ∙ ap (got x) e

  pub unsigned_read : (n most x at next : ℕ) → x ≤ most → x < 256 ^ n → Part s at (digits n x) next → Reads next (number x) (read_unsigned n most s at)
  unfolding read_unsigned
  unsigned_read n most x at next m l p = (number x, rw (number_read n x at next l p, le-ltb most x m), refl)

  pub signed_read : (n : ℕ) (z : ℤ) (at next : ℕ) → two's.Signed n z → Part s at (digits n (two's.unsigned n z)) next → Reads next (integer z) (read_signed n s at)
  unfolding read_signed
  signed_read zero (pos x) at next l p = absurd (omega (arith, l))
  signed_read zero (negsuc x) at next l p = absurd (omega (arith, l))
  signed_read (suc n) z at next l p =
      (integer z, rw (number_read (suc n) (two's.unsigned (suc n) z) at next ((twos_complement n).bits z l) p, (twos_complement n).signed_unsigned z l), refl)

  body_read : (form : Form) (nullable : Bool) (b : List ℕ) (at mid next : ℕ) → ValidBytes form b → Part s mid b next → Reads next (F.string (some b)) (read_body form nullable s at (pos (length b)) mid)
  unfolding read_body
  body_read form nullable b at mid next v p =
      let e : take (length b) (drop mid s) ≡ b = taken s mid next (length b) b p p.long in
      (F.string (some (place mid (length b))), rw (not_long form b v, p.long, le-ltb (length s) next p.within, e, is_text_lem form b v), ap (λ t. F.string (some t)) e)

  pub string_read : (form : Form) (nullable : Bool) (o : Option (List ℕ)) (at next : ℕ) → ValidString form nullable o → Part s at (encode_string (length_width form) o) next → Reads next (F.string o) (read_string form nullable s at)
  unfolding read_string read_body
  string_read form nullable none at next v p =
      let n : ℕ = length_width form in
      (F.string none, rw (number_read n (256 ^ n - 1) at next (omega (arith, positive n)) p, null_length_lem form, v), refl)
  string_read form nullable (some b) at next v p =
      let n : ℕ = length_width form in
      rw (number_read n (length b) at (at + n) (in_half n (length b) v.0) (number_first n (length b) at next b p), below_half n (length b) v.0)
      (body_read form nullable b at (at + n) next v.1 (behind_number n (length b) at (at + n) next b refl p))

  offset_read : (x at next : ℕ) → x < 256 ^ 8 → Part s at (digits 8 x) next → Reads next (F.offset (Offset x)) (read_offset s at)
  unfolding read_offset
  offset_read x at next l p = (F.offset (Offset x), rw (number_read 8 x at next l p), refl)

  timestamp_read : (z : ℤ) (at next : ℕ) → two's.Signed 8 z → Part s at (digits 8 (two's.unsigned 8 z)) next → Reads next (F.offset (Timestamp z)) (read_timestamp s at)
  unfolding read_timestamp
  timestamp_read z at next l p =
      (F.offset (Timestamp z), rw (number_read 8 (two's.unsigned 8 z) at next ((twos_complement 7).bits z l) p, (twos_complement 7).signed_unsigned z l), refl)

  pub specification_read : (admits_none : Bool) (o : OffsetSpecification) (at next : ℕ) → ValidOffset admits_none o → Part s at (encode_offset o) next → Reads next (F.offset o) (read_specification admits_none s at)
  unfolding read_specification read_typed
  specification_read admits_none None at next v p = (F.offset None, rw (number_read 2 0 at next (omega arith) p, v), refl)
  specification_read admits_none First at next v p = (F.offset First, rw (number_read 2 1 at next (omega arith) p), refl)
  specification_read admits_none Last at next v p = (F.offset Last, rw (number_read 2 2 at next (omega arith) p), refl)
  specification_read admits_none Next at next v p = (F.offset Next, rw (number_read 2 3 at next (omega arith) p), refl)
  specification_read admits_none (Offset x) at next v p =
      rw (number_read 2 4 at (at + 2) (omega arith) (number_first 2 4 at next (digits 8 x) p))
      (offset_read x (at + 2) next v (behind_number 2 4 at (at + 2) next (digits 8 x) refl p))
  specification_read admits_none (Timestamp z) at next v p =
      let x : ℕ = two's.unsigned 8 z in
      rw (number_read 2 5 at (at + 2) (omega arith) (number_first 2 5 at next (digits 8 x) p))
      (timestamp_read z (at + 2) next v (behind_number 2 5 at (at + 2) next (digits 8 x) refl p))

  -- Each piece with a property is read where it stands.
  abbrev pub PieceRead : {A : Type 0} → (List ℕ → Type 0) → (List ℕ → ℕ → Outcome A) → Type 0
  PieceRead {A} P element = (e : List ℕ) (at next : ℕ) → P e → Part s at e next → (a : A) × (element s at ≡ got a next)

  pub pieces_read : {A : Type 0} (P : List ℕ → Type 0) (element : List ℕ → ℕ → Outcome A) → PieceRead P element → (n : ℕ) (e : List ℕ) (at next : ℕ) → Pieces P n e → Part s at e next → repeated element n s at ≡ got tt next
  unfolding repeated
  pieces_read P element each zero e at next h p = let l : at ≡ next = omega (arith, ap length h, p.long) in ap (got tt) l
  pieces_read P element each (suc n) e at next (a, c, q, h, more) p =
      let r : Part s at (a ++ c) next = subst (λ t. Part s at t next) h p in
      rw (each a at (at + length a) q (first_part s at (at + length a) next a c refl r)).1
      (pieces_read P element each n c (at + length a) next more (second_part s at (at + length a) next a c refl r))

  pub list_read : (P : List ℕ → Type 0) (element : List ℕ → ℕ → Outcome (List (Field Place))) → PieceRead P element → (n : ℕ) (e : List ℕ) (at next : ℕ) → Length 4 n → Pieces P n e → Part s at (digits 4 n ++ e) next → Reads next (elements n e) (read_list element s at)
  unfolding read_list read_count
  list_read P element each n e at next l pieces p =
      let q : Part s (at + 4) e next = behind_number 4 n at (at + 4) next e refl p in
      let m : at + 4 + (next - (at + 4)) ≡ next = omega (arith, q.long) in (
        elements n (place (at + 4) (next - (at + 4))),
        rw (number_read 4 n at (at + 4) (in_half 4 n l) (number_first 4 n at next e p), below_half 4 n l, pieces_read P element each n e (at + 4) next pieces q),
        ap (elements n) (taken s (at + 4) next (next - (at + 4)) e q m),
      )
