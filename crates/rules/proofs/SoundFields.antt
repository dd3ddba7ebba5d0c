-- What is read of each kind of field but the chunk is well formed and is what the bytes encode: behind each check stands what the grammar asks for, the bytes
-- of a number are its digits, and what is read one behind another is encoded one behind another. Assumes nothing.
use mathlib.Core.Path.{◌≡◌, refl, sym, ap, subst}
use mathlib.Core.Bool.{Bool, true, false, not}
use mathlib.Core.List.{List, [], ◌++◌, map}
use Prim.Native.Nat.{ℕ, zero, suc, ◌+◌, ◌-◌, ◌/◌, ◌^◌, ◌≤◌, ◌<◌}
use native.Mathlib.Omega.{arith}
use lib.Dec.{eqb, ltb}
use lib.IntN.{ℤ, pos, negsuc}
use lib.ListN.{length, take, drop}
use borrow.Author.Tests.{ltb-false, eqb-true, not-false}
use Rattle.wire.specs.Integers.{Bytes, digits, big_endian}
use Rattle.wire.specs.Signed as two's
use Rattle.wire.proofs.Widths.{integers}
use Rattle.wire.proofs.TwosComplement.{twos_complement}
use Rattle.protocol.specs.Fields.{Field, elements, value_in}
use Rattle.protocol.specs.Kinds.{length_width, Kind, unsigned, signed, string, specification, list, Row}
use Rattle.protocol.specs.declared.kind.Form.{Form}
use Rattle.protocol.specs.declared.kind.Form.TheVariants.{Text, Reference, Bytes as Raw}
use Rattle.protocol.specs.declared.kind.ListRule.{ListRule}
use Rattle.protocol.specs.declared.place.Place.{Place}
use Rattle.rules.specs.Outcome.{Outcome, repeated}
use Rattle.rules.specs.Grammar.{Value, encode, encode_row, Pieces, Length, ValidBytes, Valid, ValidRow}
use Rattle.rules.specs.Reading.{read_unsigned, read_signed, read_body, read_string, read_offset, read_timestamp, read_typed, read_specification, count_of, read_count, read_list, too_long, is_text, read_row}
use Rattle.rules.proofs.Gives.{Gives, check, choice, after, after_number, weaker}
use Rattle.rules.proofs.Parts.{Part, nothing, joined, there, taken, number_part, length_part}

pub valid_bytes : (form : Form) (b : List ℕ) → too_long form (length b) ≡ false → not (is_text form b) ≡ false → ValidBytes form b
valid_bytes Text b t u = not-false _ u
valid_bytes Reference b t u = (ltb-false _ _ t, not-false _ u)
valid_bytes Raw b t u = tt

-- The bytes of an element of a list.
abbrev pub Element : Row → List ℕ → Type 0
Element row a = (vs : List Value) × ValidRow row vs × (a ≡ encode_row row vs)

module _ (s : List ℕ) (b : Bytes s) where
  -- A field that was read from a place on.
  abbrev pub Sound : Kind → ℕ → Field Place → ℕ → Type 0
  Sound k at f next = Valid k (value_in s f) × Part s at (encode k (value_in s f)) next

  -- A signed number that is there.
  abbrev pub SignedThere : ℕ → ℕ → Type 0
  SignedThere n at =
      two's.Signed n (two's.signed n (big_endian n s at))
      × Part s at (digits n (two's.unsigned n (two's.signed n (big_endian n s at)))) (at + n)

  pub signed_there : (n at : ℕ) → at + suc n ≤ length s → SignedThere (suc n) at
  signed_there n at h =
      let r : big_endian (suc n) s at < 256 ^ suc n = (integers (suc n)).range s at b in (
        (twos_complement n).fits (big_endian (suc n) s at) r,
        rw ((twos_complement n).unsigned_signed (big_endian (suc n) s at) r) (number_part s (suc n) at b h),
      )

  length_there : (form : Form) (at : ℕ) → at + length_width form ≤ length s → SignedThere (length_width form) at
  length_there Text at h = signed_there 1 at h
  length_there Reference at h = signed_there 1 at h
  length_there Raw at h = signed_there 3 at h

  pub sound_unsigned : (n most at : ℕ) → Gives (Sound (unsigned n most) at) (read_unsigned n most s at)
  unfolding read_unsigned Valid
  sound_unsigned n most at =
      after_number (Sound (unsigned n most) at) n s at _ (λ h.
      check (Sound (unsigned n most) at) (ltb most (big_endian n s at)) 10 at _ (λ e.
      ((refl, ltb-false most (big_endian n s at) e, (integers n).range s at b), number_part s n at b h)))

  pub sound_signed : (n at : ℕ) → Gives (Sound (signed (suc n)) at) (read_signed (suc n) s at)
  unfolding read_signed Valid
  sound_signed n at =
      after_number (Sound (signed (suc n)) at) (suc n) s at _ (λ h.
      let t = signed_there n at h in ((refl, t.0), t.1))

  sound_body : (form : Form) (nullable : Bool) (at : ℕ) (z : ℤ) (next : ℕ) → two's.Signed (length_width form) z → Part s at (digits (length_width form) (two's.unsigned (length_width form) z)) next → Gives (Sound (string form nullable) at) (read_body form nullable s at z next)
  unfolding read_body Valid two's.unsigned
  sound_body form nullable at (pos n) next h p =
      check (Sound (string form nullable) at) (too_long form n) 9 at _ (λ t.
      check (Sound (string form nullable) at) (ltb (length s) (next + n)) 6 at _ (λ e.
      check (Sound (string form nullable) at) (not (is_text form (take n (drop next s)))) 8 at _ (λ u.
      let l : next + n ≤ length s = ltb-false _ _ e in
      let g : length (take n (drop next s)) ≡ n = length_part n next s l in
      let t' : too_long form (length (take n (drop next s))) ≡ false = rw g t in
      let p' : Part s at (digits (length_width form) (length (take n (drop next s)))) next = rw g p in
      let h' : length (take n (drop next s)) < 256 ^ length_width form / 2 = rw g h in
      ((refl, (h', valid_bytes form (take n (drop next s)) t' u)), joined s at next (next + n) _ _ p' (there s n next l)))))
  sound_body form nullable at (negsuc zero) next h p =
      let g : 256 ^ length_width form - 1 - 0 ≡ 256 ^ length_width form - 1 = omega arith in
      let q : Part s at (digits (length_width form) (256 ^ length_width form - 1)) next = subst (λ (x : ℕ). Part s at (digits (length_width form) x) next) g p in
      check (Sound (string form nullable) at) (not nullable) 7 at _ (λ e. ((refl, not-false _ e), q))
  sound_body form nullable at (negsuc (suc k)) next h p = tt

  pub sound_string : (form : Form) (nullable : Bool) (at : ℕ) → Gives (Sound (string form nullable) at) (read_string form nullable s at)
  unfolding read_string
  sound_string form nullable at =
      after_number (Sound (string form nullable) at) (length_width form) s at _ (λ h.
      let t = length_there form at h in
      sound_body form nullable at (two's.signed (length_width form) (big_endian (length_width form) s at)) (at + length_width form) t.0 t.1)

  sound_typed : (admits_none : Bool) (at type next : ℕ) → Part s at (digits 2 type) next → Gives (Sound (specification admits_none) at) (read_typed admits_none s at type next)
  unfolding read_typed read_offset read_timestamp Valid
  sound_typed admits_none at type next p =
      choice (Gives S) (eqb type 0) _ _ (λ e. check S (not admits_none) 10 at _ (λ u. ((refl, not-false _ u), type_is 0 e))) (λ _.
      choice (Gives S) (eqb type 1) _ _ (λ e. ((refl, tt), type_is 1 e)) (λ _.
      choice (Gives S) (eqb type 2) _ _ (λ e. ((refl, tt), type_is 2 e)) (λ _.
      choice (Gives S) (eqb type 3) _ _ (λ e. ((refl, tt), type_is 3 e)) (λ _.
      choice (Gives S) (eqb type 4) _ _ (λ e. after_number S 8 s next _ (λ h. ((refl, (integers 8).range s next b), joined s at next (next + 8) _ _ (type_is 4 e) (number_part s 8 next b h)))) (λ _.
      choice (Gives S) (eqb type 5) _ _ (λ e. after_number S 8 s next _ (λ h. let t = signed_there 7 next h in ((refl, t.0), joined s at next (next + 8) _ _ (type_is 5 e) t.1))) (λ _. tt))))))
    where
      S : Field Place → ℕ → Type 0
      S = Sound (specification admits_none) at

      type_is : (t : ℕ) → eqb type t ≡ true → Part s at (digits 2 t) next
      type_is t e = subst (λ (x : ℕ). Part s at (digits 2 x) next) (eqb-true type t e) p

  pub sound_specification : (admits_none : Bool) (at : ℕ) → Gives (Sound (specification admits_none) at) (read_specification admits_none s at)
  unfolding read_specification
  sound_specification admits_none at =
      after_number (Sound (specification admits_none) at) 2 s at _ (λ h.
      sound_typed admits_none at (big_endian 2 s at) (at + 2) (number_part s 2 at b h))

  -- Pieces of a kind, one behind another, from a place on.
  abbrev pub Pieced : {A : Type 0} → (List ℕ → Type 0) → ℕ → ℕ → A → ℕ → Type 0
  Pieced P n at _ next = (e : List ℕ) × Pieces P n e × Part s at e next

  abbrev pub Piece : {A : Type 0} → (List ℕ → Type 0) → ℕ → A → ℕ → Type 0
  Piece P at _ next = (e : List ℕ) × P e × Part s at e next

  pub sound_repeated : {A : Type 0} (P : List ℕ → Type 0) (element : List ℕ → ℕ → Outcome A) → ((at : ℕ) → at ≤ length s → Gives (Piece P at) (element s at)) → (n at : ℕ) → at ≤ length s → Gives (Pieced P n at) (repeated element n s at)
  unfolding repeated
  sound_repeated P element g zero at h = ([], refl, nothing s at h)
  sound_repeated P element g (suc n) at h =
      after (Pieced P (suc n) at) (Piece P at) (element s at) _ (g at h) (λ a next p.
      weaker (Pieced P n next) (Pieced P (suc n) at) (repeated element n s next)
      (λ _ last q. (p.0 ++ q.0, (p.0, q.0, p.1, refl, q.1), joined s at next last p.0 q.0 p.2 q.2))
      (sound_repeated P element g n next p.2.within))

  sign : (at : ℕ) (z : ℤ) (next : ℕ) → two's.Signed 4 z → Part s at (digits 4 (two's.unsigned 4 z)) next → Gives (λ n last. Length 4 n × Part s at (digits 4 n) last) (count_of at z next)
  unfolding two's.unsigned
  sign at (pos n) next h p = (h, p)
  sign at (negsuc k) next h p = tt

  sound_count : (at : ℕ) → Gives (λ n next. Length 4 n × Part s at (digits 4 n) next) (read_count s at)
  unfolding read_count
  sound_count at =
      after_number (λ n next. Length 4 n × Part s at (digits 4 n) next) 4 s at _ (λ h.
      let t = signed_there 3 at h in sign at (two's.signed 4 (big_endian 4 s at)) (at + 4) t.0 t.1)

  abbrev pub RowSound : Row → ℕ → List (Field Place) → ℕ → Type 0
  RowSound row at fs next = ValidRow row (map (value_in s) fs) × Part s at (encode_row row (map (value_in s) fs)) next

  pub sound_element : (row : Row) → ((at : ℕ) → at ≤ length s → Gives (RowSound row at) (read_row row s at)) → (at : ℕ) → at ≤ length s → Gives (Piece (Element row) at) (read_row row s at)
  sound_element row g at h =
      weaker (RowSound row at) (Piece (Element row) at) (read_row row s at)
      (λ fs next r. (encode_row row (map (value_in s) fs), (map (value_in s) fs, r.0, refl), r.1))
      (g at h)

  pub sound_list : (rule : ListRule) (row : Row) → ((at : ℕ) → at ≤ length s → Gives (RowSound row at) (read_row row s at)) → (at : ℕ) → Gives (Sound (list rule row) at) (read_list (λ t from. read_row row t from) s at)
  unfolding read_list Valid
  sound_list rule row g at =
      after (Sound (list rule row) at) (λ n next. Length 4 n × Part s at (digits 4 n) next) (read_count s at) _ (sound_count at) (λ n next c.
      after (Sound (list rule row) at) (Pieced (Element row) n next) (repeated (λ t from. read_row row t from) n s next) _
      (sound_repeated (Element row) (λ t from. read_row row t from) (sound_element row g) n next c.1.within)
      (λ _ last p.
      let t : take (last - next) (drop next s) ≡ p.0 = taken s next last (last - next) p.0 p.2 (ends next p.0 last p.2) in
      ((p.0, ap (elements n) t, c.0, p.1), subst (λ (r : List ℕ). Part s at (digits 4 n ++ r) last) (sym t) (joined s at next last (digits 4 n) p.0 c.1 p.2))))
    where
      ends : (next : ℕ) (e : List ℕ) (last : ℕ) → Part s next e last → next + (last - next) ≡ last
      ends next e last p = omega (arith, p.long)
