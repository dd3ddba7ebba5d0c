-- A chunk's reader goes through the definition's checks one by one. Assumes nothing.
use mathlib.Core.Path.{◌≡◌, refl, ◌∙◌, sym, ap}
use mathlib.Core.Bool.{Bool, true, false, cond, not}
use mathlib.Core.List.{List}
use Prim.Native.Nat.{ℕ, ◌+◌, ◌<◌, ◌≤◌}
use native.Mathlib.Nat.{le_of_lt, le_of_eq}
use native.Mathlib.Omega.{arith}
use lib.Dec.{eqb, ltb}
use lib.IntN.{ℤ}
use lib.ListN.{length}
use borrow.Author.Tests.{lt-ltb, le-ltb, ltb-true, ltb-false}
use Rattle.wire.specs.Integers.{big_endian, number_or_zero}
use Rattle.wire.specs.Signed.{signed}
use Rattle.wire.proofs.Widths.{or_zero_lem}
use Rattle.protocol.specs.Fields.{place}
use Rattle.protocol.specs.Fields as F
use Rattle.protocol.specs.Refusals.{field_cut, value_not_admitted, bytes_left}
use Rattle.rules.specs.Outcome.{Outcome, got, refused, then, refuse_if, repeated}
use Rattle.rules.specs.Reading.{header_at, is_chunk_type, has_entries, read_entry, read_entries, read_data, read_headed, read_chunk}
use Rattle.rules.proofs.Bounds.{Numbered, numbered, Bounded, bounded_data}
use Rattle.byte_strings.specs.Stops.{Stop, stop, stop_at}
use Rattle.chunks.specs.Entries.{entries_from}

-- After the header.
module _ (s : List ℕ) (at : ℕ) (long : at + 48 ≤ length s) (kind len : ℕ) (k : kind ≡ number_or_zero 1 s (at + 1)) (l : len ≡ number_or_zero 4 s (at + 36)) where
  -- A number that ends by the header's end is there.
  there : (n from v : ℕ) → from + n ≤ at + 48 → v ≡ number_or_zero n s from → v ≡ big_endian n s from
  there n from v h e = e ∙ or_zero_lem n s from (omega (arith, long, h))

  abbrev pub Headed : Stop → Type 0
  Headed d = d ≡ stop (read_headed (header_at s at) s at)

  -- The header in front changes nothing of where reading stops.
  headed : (d : Stop) → d ≡ stop (read_data (signed 1 kind) (big_endian 2 s (at + 2)) (big_endian 4 s (at + 4)) len s at) → Headed d
  headed d f = by (read_data (signed 1 (big_endian 1 s (at + 1))) (big_endian 2 s (at + 2)) (big_endian 4 s (at + 4)) (big_endian 4 s (at + 36)) s at) (rw (there 1 (at + 1) kind (omega arith) k, there 4 (at + 36) len (omega arith) l) at f)
    where
      by : (o : Outcome Unit) → d ≡ stop o → d ≡ stop (then o (λ _ behind. got (F.chunk (header_at s at) (place (at + 48) (header_at s at).data_length)) behind))
      by (got _ last) e = e
      by (refused n p) e = e

  pub type_refused : is_chunk_type (signed 1 kind) ≡ false → Headed (stop_at (at + 1) value_not_admitted)
  unfolding read_data
  type_refused t = headed _ (rw t)

  module _ (t : is_chunk_type (signed 1 kind) ≡ true) where
    pub data_cut : length s < at + 48 + len → Headed (stop_at (at + 48) field_cut)
    unfolding read_data
    data_cut h = headed _ (rw (t, lt-ltb (length s) (at + 48 + len) h))

    pub data_longer : at + 48 + len < length s → Headed (stop_at (at + 48 + len) bytes_left)
    unfolding read_data
    data_longer h = headed _ (rw (t, le-ltb (length s) (at + 48 + len) (le_of_lt h), lt-ltb (at + 48 + len) (length s) h))

    module _ (h : at + 48 + len ≡ length s) where
      pub data_entries : (d : Stop) (n m : ℕ) → has_entries (signed 1 kind) ≡ true → n ≡ number_or_zero 2 s (at + 2) → m ≡ number_or_zero 4 s (at + 4) → d ≡ stop (entries_from n m (at + 4) s (at + 48)) → Headed d
      unfolding read_data read_entries entries_from
      data_entries d n m u i j f = headed d (rw (t, le-ltb (length s) (at + 48 + len) (le_of_eq h), le-ltb (at + 48 + len) (length s) (le_of_eq (sym h)), u) (rw (there 2 (at + 2) n (omega arith) i, there 4 (at + 4) m (omega arith) j) at f))

      pub data_closed : has_entries (signed 1 kind) ≡ false → Headed (stop_at (length s) 0)
      unfolding read_data
      data_closed u = headed _ (rw (t, le-ltb (length s) (at + 48 + len) (le_of_eq h), le-ltb (at + 48 + len) (length s) (le_of_eq (sym h)), u))

-- A chunk that is read ends where s does.
abbrev Used : List ℕ → Outcome Unit → Type 0
Used s (got _ last) = length s ≤ last
Used s (refused n p) = Unit

used_if : (s : List ℕ) (t : Bool) (n p : ℕ) (o : Outcome Unit) → (t ≡ false → Used s o) → Used s (refuse_if t n p o)
used_if s true n p o h = tt
used_if s false n p o h = h refl

used_data : (type : ℤ) (entries records len : ℕ) (s : List ℕ) (at : ℕ) → Used s (read_data type entries records len s at)
unfolding read_data read_entries
used_data type entries records len s at =
    used_if s (not (is_chunk_type type)) value_not_admitted (at + 1) _ (λ _.
    used_if s (ltb (length s) (at + 48 + len)) field_cut (at + 48) _ (λ _.
    used_if s (ltb (at + 48 + len) (length s)) bytes_left (at + 48 + len) _ (λ _.
    choice (has_entries type))))
  where
    behind : (o : Outcome Unit) → Used s (then o (λ _ last. refuse_if (ltb last (length s)) bytes_left last (got tt last)))
    behind (got _ last) = used_if s (ltb last (length s)) bytes_left last (got tt last) (λ e. ltb-false _ _ e)
    behind (refused n p) = tt

    choice : (t : Bool) → Used s (cond t (refuse_if (not (eqb records entries)) value_not_admitted (at + 4) (then (repeated read_entry entries s (at + 48)) (λ _ last. refuse_if (ltb last (length s)) bytes_left last (got tt last)))) (got tt (length s)))
    choice true = used_if s (not (eqb records entries)) value_not_admitted (at + 4) _ (λ _. behind (repeated read_entry entries s (at + 48)))
    choice false = omega arith

pub record Whole (s : List ℕ) (at : ℕ) (t : Stop) : Type 0 where
  pub long : at + 48 ≤ length s
  pub ends : t.at ≡ length s
  pub read : read_chunk s at ≡ got (F.chunk (header_at s at) (place (at + 48) (header_at s at).data_length)) (length s)

module _ (s : List ℕ) (at : ℕ) where
  pub header_cut : length s < at + 48 → stop_at at field_cut ≡ stop (read_chunk s at)
  unfolding read_chunk
  header_cut l = rw (lt-ltb (length s) (at + 48) l)

  pub header_stops : (d : Stop) → at + 48 ≤ length s → d ≡ stop (read_headed (header_at s at) s at) → d ≡ stop (read_chunk s at)
  unfolding read_chunk
  header_stops d l e = e ∙ rw (le-ltb (length s) (at + 48) l)

  pub header_there : at + 48 ≤ length s → read_chunk s at ≡ read_headed (header_at s at) s at
  unfolding read_chunk
  header_there l = rw (le-ltb (length s) (at + 48) l)

  module _ (t : Stop) (e : t ≡ stop (read_chunk s at)) (z : t.refused ≡ 0) where
    not_cut : (b : Bool) → ltb (length s) (at + 48) ≡ b → at + 48 ≤ length s
    not_cut true i = absurd (cut≢0 (sym (ap (λ (x : Stop). x.refused) (e ∙ sym (header_cut (ltb-true _ _ i)))) ∙ z))
      where
        cut≢0 : field_cut ≡ 0 → ⊥
        cut≢0 k = omega (arith, k)
    not_cut false i = ltb-false _ _ i

    pub whole : Whole s at t
    whole =
        let l = not_cut (ltb (length s) (at + 48)) refl in
        let o = read_data (header_at s at).chunk_type (header_at s at).entries (header_at s at).records (header_at s at).data_length s at in
        let b = bounded_data s (header_at s at).chunk_type (header_at s at).entries (header_at s at).records (header_at s at).data_length at l in
        by o l (header_there l) b (numbered s at o b) (used_data (header_at s at).chunk_type (header_at s at).entries (header_at s at).records (header_at s at).data_length s at)
      where
        by : (o : Outcome Unit) → at + 48 ≤ length s → read_chunk s at ≡ then o (λ _ behind. got (F.chunk (header_at s at) (place (at + 48) (header_at s at).data_length)) behind) → Bounded s at o → Numbered o → Used s o → Whole s at t
        by (got _ last) l i b n u =
            let k : last ≡ length s = omega (arith, b.1 (omega (arith, l)), u) in
            let j : t ≡ stop_at last 0 = e ∙ ap stop i in
            record { long = l; ends = ap (λ (x : Stop). x.at) j ∙ k; read = i ∙ ap (got (F.chunk (header_at s at) (place (at + 48) (header_at s at).data_length))) k }
        by (refused m p) l i b n u = absurd (n (sym (ap (λ (x : Stop). x.refused) (e ∙ ap stop i)) ∙ z))
