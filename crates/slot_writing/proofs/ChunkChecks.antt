-- The checks of a chunk that is written from its slots; and that a chunk which none of them refuses is written. Assumes nothing.
use mathlib.Core.Path.{◌≡◌, refl, ◌∙◌, sym, ap}
use mathlib.Core.Bool.{Bool, true, false, cond, not, ◌&&◌}
use mathlib.Core.List.{List, [], ◌++◌}
use Prim.Native.Nat.{ℕ, ◌+◌, ◌-◌, ◌<◌, ◌≤◌}
use native.Mathlib.Omega.{arith}
use lib.Dec.{eqb, ltb}
use lib.ListN.{length, get_or, take, drop, length-append}
use borrow.Author.Tests.{lt-ltb, le-ltb, ltb-false}
use Rattle.wire.specs.Integers.{digits}
use Rattle.wire.specs.Signed.{signed}
use Rattle.wire.proofs.Splice.{part_length}
use Rattle.wire.proofs.Widths.{integers}
use Rattle.protocol.specs.Fields.{place, bytes_at, outside}
use Rattle.protocol.specs.Kinds as K
use Rattle.protocol.specs.Refusals.{field_cut, value_not_admitted, bytes_left}
use Rattle.protocol.specs.declared.chunk.ChunkHeader.{ChunkHeader}
use Rattle.protocol.specs.declared.place.Place.{Place}
use Rattle.rules.specs.Grammar.{encode_header}
use Rattle.rules.specs.Outcome.{Outcome, got, refused, then, refuse_if, repeated}
use Rattle.rules.specs.Reading.{is_chunk_type, has_entries, read_entry}
use Rattle.rules.specs.Writing.{wrote, checked, fits_header, used_up, write_chunk, write_field}
use Rattle.rules.proofs.Bounds.{numbered_entry, numbered_repeated}
use Rattle.byte_strings.specs.Stops.{Stop, stop, told, refusal_of}
use Rattle.byte_strings.specs.declared.fault.Fault.{Fault}
use Rattle.std.specs.Prelude.{Result, Ok, Err}
use Rattle.byte_strings.proofs.Checked.{Only, only_checked, only_used, only_these, check_passed}
use Rattle.byte_strings.proofs.Parts.{lent}
use Rattle.chunks.specs.Entries.{entries_from}
use Rattle.slots.specs.Unflat.{unflat_field, unflat_header}

-- ---- The checks in their order

and_false : (a b : Bool) → b ≡ false → (a && b) ≡ false
and_false true b e = e
and_false false b e = refl

-- What the entries are refused with when they are read, they are refused with when they are written.
module _ (entries records : ℕ) (part bytes : List ℕ) (e : Stop) (i : e ≡ stop (entries_from entries records 0 part 0)) where
  pub entries_checked : e.refused ≡ refusal_of (checked (not (eqb records entries)) value_not_admitted (used_up (repeated read_entry entries part 0) part (wrote bytes)))
  unfolding entries_from
  entries_checked = by (not (eqb records entries)) (repeated read_entry entries part 0) i
    where
      left : (last : ℕ) (t : Bool) → e ≡ stop (refuse_if t bytes_left last (got (tt {0}) last)) → e.refused ≡ refusal_of (checked t bytes_left (wrote bytes))
      left last true j = ap (λ (x : Stop). x.refused) j
      left last false j = ap (λ (x : Stop). x.refused) j

      by : (t : Bool) (o : Outcome Unit) → e ≡ stop (refuse_if t value_not_admitted 0 (then o (λ _ last. refuse_if (ltb last (length part)) bytes_left last (got (tt {0}) last)))) → e.refused ≡ refusal_of (checked t value_not_admitted (used_up o part (wrote bytes)))
      by true o j = ap (λ (x : Stop). x.refused) j
      by false (got _ last) j = left last (ltb last (length part)) j
      by false (refused n p) j = ap (λ (x : Stop). x.refused) j

module _ (src t : List ℕ) (kind len from size : ℕ) (k : kind ≡ get_or t 1 0) (l : len ≡ get_or t 8 0) (f : from ≡ get_or t 12 0) (z : size ≡ get_or t 13 0) where
  abbrev Refusal : ℕ → Type 0
  Refusal n = n ≡ refusal_of (write_field K.chunk src (unflat_field K.chunk t))

  pub type_refused : is_chunk_type (signed 8 kind) ≡ false → Refusal value_not_admitted
  unfolding write_chunk
  type_refused a = rw (rw k at a)

  pub header_refused : fits_header (unflat_header t) ≡ false → Refusal value_not_admitted
  unfolding write_chunk
  header_refused b = rw (and_false (is_chunk_type (signed 8 (get_or t 1 0))) (fits_header (unflat_header t)) b)

  module _ (a : is_chunk_type (signed 8 kind) ≡ true) (b : fits_header (unflat_header t) ≡ true) where
    admitted : (is_chunk_type (signed 8 (get_or t 1 0)) && fits_header (unflat_header t)) ≡ true
    admitted = rw (rw k at a) b

    pub data_outside : outside (place from size) src ≡ true → Refusal field_cut
    unfolding write_chunk
    data_outside o = rw (admitted, rw (f, z) at o)

    module _ (o : outside (place from size) src ≡ false) where
      there : outside (place (get_or t 12 0) (get_or t 13 0)) src ≡ false
      there = rw (f, z) at o

      pub data_short : size < len → Refusal field_cut
      unfolding write_chunk
      data_short m = rw (admitted, there, lt-ltb (get_or t 13 0) (get_or t 8 0) (omega arith))

      pub data_long : len < size → Refusal bytes_left
      unfolding write_chunk
      data_long m = rw (admitted, there, le-ltb (get_or t 13 0) (get_or t 8 0) (omega arith), lt-ltb (get_or t 8 0) (get_or t 13 0) (omega arith))

      module _ (m : len ≤ size) (n : size ≤ len) where
        pub data_closed : has_entries (signed 8 kind) ≡ false → Refusal 0
        unfolding write_chunk
        data_closed u = rw (admitted, there, le-ltb (get_or t 13 0) (get_or t 8 0) (omega arith), le-ltb (get_or t 8 0) (get_or t 13 0) (omega arith), rw k at u)

        pub data_entries : (entries records : ℕ) (e : Stop) → has_entries (signed 8 kind) ≡ true → entries ≡ get_or t 2 0 → records ≡ get_or t 3 0 → e ≡ stop (entries_from entries records 0 (take (from + size - from) (drop from src)) 0) → Refusal e.refused
        unfolding write_chunk
        data_entries entries records e u i j g =
            rw (admitted, there, le-ltb (get_or t 13 0) (get_or t 8 0) (omega arith), le-ltb (get_or t 8 0) (get_or t 13 0) (omega arith), rw k at u)
            (entries_checked (get_or t 2 0) (get_or t 3 0) (take (get_or t 13 0) (drop (get_or t 12 0) src)) _ e (rw (lent src from size, i, j, f, z) at g))

-- ---- What is not refused

pub record ChunkWritten (src : List ℕ) (h : ChunkHeader) (p : Place) : Type 0 where
  pub inside : p.at + p.len ≤ length src
  pub is : write_chunk src h p ≡ wrote (encode_header h ++ bytes_at src p)

module _ (src : List ℕ) (h : ChunkHeader) (p : Place) where
  only_chunk : Only (encode_header h ++ bytes_at src p) (write_chunk src h p)
  unfolding write_chunk
  only_chunk =
      let b = encode_header h ++ bytes_at src p in
      only_checked b (not (is_chunk_type h.chunk_type && fits_header h)) value_not_admitted _ (λ e. omega (arith, e))
      (only_checked b (outside p src) field_cut _ (λ e. omega (arith, e))
      (only_checked b (ltb p.len h.data_length) field_cut _ (λ e. omega (arith, e))
      (only_checked b (ltb h.data_length p.len) bytes_left _ (λ e. omega (arith, e))
      (choice (has_entries h.chunk_type)))))
    where
      choice : (t : Bool) → Only (encode_header h ++ bytes_at src p) (cond t (checked (not (eqb h.records h.entries)) value_not_admitted (used_up (repeated read_entry h.entries (bytes_at src p) 0) (bytes_at src p) (wrote (encode_header h ++ bytes_at src p)))) (wrote (encode_header h ++ bytes_at src p)))
      choice true =
          only_checked (encode_header h ++ bytes_at src p) (not (eqb h.records h.entries)) value_not_admitted _ (λ e. omega (arith, e))
          (only_used (encode_header h ++ bytes_at src p) (repeated read_entry h.entries (bytes_at src p) 0) (bytes_at src p) _ (numbered_repeated read_entry numbered_entry h.entries (bytes_at src p) 0) refl)
      choice false = refl

  pub written : (n : ℕ) → n ≡ refusal_of (write_chunk src h p) → n ≡ 0 → ChunkWritten src h p
  unfolding write_chunk
  written n e z =
      let r : refusal_of (write_chunk src h p) ≡ 0 = sym e ∙ z in
      let o = (check_passed (outside p src) field_cut _ (λ k. omega (arith, k)) (check_passed (not (is_chunk_type h.chunk_type && fits_header h)) value_not_admitted _ (λ k. omega (arith, k)) r).1).0 in
      record { inside = ltb-false _ _ o; is = only_these (encode_header h ++ bytes_at src p) (write_chunk src h p) only_chunk r }

-- ---- Its length

front : (n x : ℕ) (b : List ℕ) → length (digits n x ++ b) ≡ n + length b
front n x b = rw (length-append (digits n x) b, (integers n).size x)

header_length : (h : ChunkHeader) → length (encode_header h) ≡ 48
header_length h = simp (front, (integers 3).size h.reserved)

pub chunk_length : (src : List ℕ) (h : ChunkHeader) (p : Place) → p.at + p.len ≤ length src → length (encode_header h ++ bytes_at src p) ≡ 48 + p.len
chunk_length src h p i =
    length-append (encode_header h) (bytes_at src p)
    ∙ ap (λ (n : ℕ). n + length (bytes_at src p)) (header_length h)
    ∙ ap (λ (n : ℕ). 48 + n) (part_length [] 0 src p.at p.len i)

-- A reader that does not answer `Err` tells no refusal.
pub none_told : (r : Result ℕ Fault) → ((f : Fault) → r ≡ Err f → ⊥) → (told r).refused ≡ 0
none_told (Ok n) h = refl
none_told (Err f) h = absurd (h f refl)
