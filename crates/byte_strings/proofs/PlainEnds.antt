-- Where a byte string ends that may not be null, with no reason where it is refused. Assumes nothing.
use mathlib.Core.Path.{◌≡◌, refl, ◌∙◌, sym, ap}
use mathlib.Core.Bool.{Bool, true, false}
use mathlib.Core.List.{List}
use mathlib.Core.Option.{some}
use Rattle.std.specs.Prelude.{Some, None}
use Prim.Native.Nat.{ℕ, ◌+◌, ◌-◌, ◌/◌, ◌^◌, ◌<◌, ◌≤◌, min}
use native.Mathlib.Omega.{arith}
use lib.Dec.{eqb, ltb}
use lib.IntN.{negsuc}
use lib.ListN.{length}
use borrow.Author.Tests.{ltb-true, ltb-false, eqb-true, eqb-false}
use Rattle.wire.specs.Integers.{big_endian, number_or_zero}
use Rattle.wire.specs.Signed.{signed}
use Rattle.wire.proofs.TwosComplement.{below_half, above_half}
use Rattle.wire.proofs.Widths.{or_zero_lem}
use Rattle.protocol.specs.Kinds.{length_width, string}
use Rattle.protocol.specs.Fields.{place}
use Rattle.protocol.specs.Fields as F
use Rattle.protocol.specs.declared.kind.Form.{Form}
use Rattle.protocol.specs.declared.kind.Form.TheVariants.{Bytes as Raw}
use Rattle.rules.specs.Outcome.{got, then}
use Rattle.rules.specs.Reading.{read_string, read_body, read_field}
use Rattle.rules.specs.Writing.{write_string}
use Rattle.rules.proofs.Numbers.{number_there, number_cases}
use Rattle.byte_strings.specs.Stops.{end_of, refusal_of}
use Rattle.byte_strings.proofs.StringFields.{admitted, body_cut, body_read, body_refused, body_found, negative_refused, length_cut}

pub string_no_length : (form : Form) (s : List ℕ) (at : ℕ) → length s < at + length_width form → None ≡ end_of (read_string form false s at)
string_no_length form s at h = ap end_of (sym (length_cut form false s at h))

pub negative_end : (form : Form) (s : List ℕ) (at k next : ℕ) → end_of (read_body form false s at (negsuc k) next) ≡ None
negative_end form s at k next = rw (negative_refused form s at k next)

module _ (form : Form) (s : List ℕ) (at : ℕ) (there : at + length_width form ≤ length s) (v : ℕ) (e : v ≡ number_or_zero (length_width form) s at) where
  behind : read_string form false s at ≡ read_body form false s at (signed (length_width form) v) (at + length_width form)
  unfolding read_string
  behind = rw (number_there (length_width form) s at there, e, or_zero_lem (length_width form) s at there)

  module _ (r : Bool) (f : r ≡ eqb (refusal_of (write_string form false s (some (place (at + length_width form) v)))) 0) where
    pub string_none : r ≡ false → None ≡ end_of (read_string form false s at)
    string_none h = rw (behind, body_refused form s (at + length_width form) v _ refl at (eqb-false _ _ (sym f ∙ h)))

    pub string_end : r ≡ true → Some (at + length_width form + v) ≡ end_of (read_string form false s at)
    string_end h = rw (behind, body_found form s (at + length_width form) v _ refl false at (eqb-true _ _ (sym f ∙ h)))

-- What an end tells.
pub record StringAt (form : Form) (s : List ℕ) (at last : ℕ) : Type 0 where
  pub len : ℕ
  pub short : len < 256 ^ length_width form / 2
  pub behind : last ≡ at + length_width form + len
  pub within : at + length_width form + len ≤ length s
  pub read : (nullable : Bool) → read_field (string form nullable) s at ≡ got (F.string (some (place (at + length_width form) (last - (at + length_width form))))) last

pub string_at : (form : Form) (s : List ℕ) (at last : ℕ) → Some last ≡ end_of (read_string form false s at) → StringAt form s at last
unfolding read_string read_field
string_at form s at last h =
    number_cases w s at (λ o. Some last ≡ end_of (then o (λ x next. read_body form false s at (signed w x) next)) → StringAt form s at last)
    (λ l e. by (eqb r 0) refl l e)
    (λ l e. cc)
    h
  where
    w : ℕ
    w = length_width form

    n : ℕ
    n = big_endian w s at

    r : ℕ
    r = refusal_of (write_string form false s (some (place (at + w) n)))

    by : (t : Bool) → eqb r 0 ≡ t → at + w ≤ length s → Some last ≡ end_of (read_body form false s at (signed w n) (at + w)) → StringAt form s at last
    by true i l e =
        let told : Some last ≡ Some (at + w + n) = e ∙ ap end_of (body_found form s (at + w) n r refl false at (eqb-true _ _ i)) in
        let behind : last ≡ at + w + n = cc in
        let len : last - (at + w) ≡ n = omega arith in
        let a = admitted form s (at + w) n (eqb-true _ _ i) in
        record { len = n; short = a.short; behind = behind; within = a.inside; read = λ nullable. rw (number_there w s at l, len, behind) (body_found form s (at + w) n r refl nullable at (eqb-true _ _ i)) }
    by false i l e =
        let told : Some last ≡ None = e ∙ ap end_of (body_refused form s (at + w) n r refl at (eqb-false _ _ i)) in
        cc

-- Bytes: the code compares the length with the room behind it and with the largest length at once, by the least of the two.
module _ (s : List ℕ) (at : ℕ) (there : at + 4 ≤ length s) (v : ℕ) (e : v ≡ number_or_zero 4 s at) (r : ℕ) (f : r ≡ min (length s - (at + 4)) 0x7fff_ffff) where
  pub bytes_over : r < v → None ≡ end_of (read_string Raw false s at)
  bytes_over l = rw (behind Raw s at there v e) (by (ltb 0x7fff_ffff v) refl)
    where
      by : (t : Bool) → ltb 0x7fff_ffff v ≡ t → None ≡ end_of (read_body Raw false s at (signed 4 v) (at + 4))
      by true i = let k : 0x7fff_ffff < v = ltb-true _ _ i in rw (above_half 4 v (omega arith)) (sym (negative_end Raw s at (256 ^ 4 - 1 - v) (at + 4)))
      by false i = let k : v ≤ 0x7fff_ffff = ltb-false _ _ i in rw (below_half 4 v (omega arith), body_cut Raw false s at (at + 4) v refl (omega arith))

  pub bytes_fit : v ≤ r → (v ≤ 0x7fff_ffff) × (at + 4 + v ≤ length s)
  bytes_fit l = (omega arith, omega arith)

  pub bytes_end : v ≤ r → Some (at + 4 + v) ≡ end_of (read_string Raw false s at)
  bytes_end l =
      let h = bytes_fit l in
      let k : v < 0x8000_0000 = omega (arith, h.0) in
      rw (behind Raw s at there v e, below_half 4 v k, body_read Raw false s at (at + 4) v refl h.1 refl)
