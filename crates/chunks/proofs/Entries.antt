-- An entry's reader goes through the definition's checks one by one; and so does the walk over entries. Assumes nothing.
use mathlib.Core.Path.{◌≡◌, refl, ◌∙◌, sym, ap, subst}
use mathlib.Core.Bool.{Bool, true, false}
use mathlib.Core.List.{List}
use Rattle.std.specs.Prelude.{Option}
use Prim.Native.Nat.{ℕ, ◌+◌, ◌-◌, ◌<◌, ◌≤◌}
use native.Mathlib.Omega.{arith}
use lib.Dec.{leb, ltb}
use lib.ListN.{length}
use borrow.Author.Tests.{eq-eqb, ne_eqb, le-leb, lt-leb, lt-ltb, le-ltb, leb-true, leb-false, ltb-true, ltb-false}
use Rattle.wire.specs.Integers.{big_endian, number_or_zero}
use Rattle.wire.specs.Signed.{signed}
use Rattle.wire.proofs.TwosComplement.{below_half, above_half}
use Rattle.wire.proofs.Widths.{or_zero_lem}
use Rattle.protocol.specs.Fields.{place}
use Rattle.protocol.specs.Refusals.{field_cut, value_not_admitted, bytes_left}
use Rattle.protocol.specs.declared.kind.Form.TheVariants.{Bytes as Raw}
use Rattle.protocol.specs.declared.place.Place.{Place}
use Rattle.rules.specs.Outcome.{Outcome, got, refused, then, refuse_if, repeated}
use Rattle.rules.proofs.Bounds.{numbered_entry, numbered_repeated}
use Rattle.rules.specs.Reading.{read_number, read_string, read_body, read_entry, has_entries}
use Rattle.rules.proofs.Gives.{Gives, after_number, check}
use Rattle.rules.proofs.Numbers.{number_there, number_cut}
use Rattle.byte_strings.specs.Stops.{Stop, end_of, only_end, stop, stop_at}
use Rattle.byte_strings.proofs.PlainEnds.{negative_end}
use Rattle.byte_strings.proofs.StringFields.{body_cut, body_read}
use Rattle.byte_strings.proofs.Stops.{only_end_of, passed, stopped}
use Rattle.chunks.specs.Entries.{entries_from, entry_count}

-- Behind the four bytes.
sized : List ℕ → ℕ → ℕ → ℕ → Outcome Place
sized s at x next = refuse_if (leb 0x8000_0000 x) value_not_admitted at (refuse_if (ltb (length s) (next + x)) field_cut at (got (place next x) (next + x)))

module _ (s : List ℕ) (at : ℕ) where
  pub entry_cut : length s < at + 4 → stop_at at field_cut ≡ stop (read_entry s at)
  unfolding read_entry
  entry_cut h = rw (number_cut 4 s at h)

  module _ (there : at + 4 ≤ length s) (v : ℕ) (e : v ≡ number_or_zero 4 s at) where
    entry_sized : read_entry s at ≡ sized s at v (at + 4)
    unfolding read_entry sized
    entry_sized = rw (number_there 4 s at there, e ∙ or_zero_lem 4 s at there)

    pub top_bit : 0x7fff_ffff < v → stop_at at value_not_admitted ≡ stop (read_entry s at)
    unfolding sized
    top_bit h = rw (entry_sized, le-leb 0x8000_0000 v h)

    module _ (h : v ≤ 0x7fff_ffff) where
      pub message_cut : length s < at + 4 + v → stop_at at field_cut ≡ stop (read_entry s at)
      unfolding sized
      message_cut l = rw (entry_sized, lt-leb 0x8000_0000 v (omega (arith, h)), lt-ltb _ _ l)

      pub message_there : at + 4 + v ≤ length s → stop_at (at + 4 + v) 0 ≡ stop (read_entry s at)
      unfolding sized
      message_there l = rw (entry_sized, lt-leb 0x8000_0000 v (omega (arith, h)), le-ltb _ _ l)

-- An entry ends where bytes B at its place would. The length is below 0 there just if the top bit is 1 here: then both are
-- refused, with different numbers.
module _ (s : List ℕ) (at next : ℕ) where
  same_end : (x : ℕ) → end_of (read_body Raw false s at (signed 4 x) next) ≡ end_of (sized s at x next)
  unfolding sized
  same_end x = by (leb 0x8000_0000 x) refl (ltb (length s) (next + x)) refl
    where
      by : (t : Bool) → leb 0x8000_0000 x ≡ t → (u : Bool) → ltb (length s) (next + x) ≡ u → end_of (read_body Raw false s at (signed 4 x) next) ≡ end_of (refuse_if t value_not_admitted at (refuse_if u field_cut at (got (place next x) (next + x))))
      by true i u j = rw (above_half 4 x (leb-true _ _ i)) (negative_end Raw s at _ next)
      by false i true j = rw (below_half 4 x (leb-false _ _ i), body_cut Raw false s at next x refl (ltb-true _ _ j))
      by false i false j = rw (below_half 4 x (leb-false _ _ i), body_read Raw false s at next x refl (ltb-false _ _ j) refl)

entry_end : (s : List ℕ) (at : ℕ) (r : Option ℕ) → r ≡ end_of (read_string Raw false s at) → r ≡ end_of (read_entry s at)
unfolding read_string read_entry sized
entry_end s at r e = e ∙ by (read_number 4 s at)
  where
    by : (o : Outcome ℕ) → end_of (then o (λ x next. read_body Raw false s at (signed 4 x) next)) ≡ end_of (then o (λ x next. sized s at x next))
    by (got x next) = same_end s at next x
    by (refused n p) = refl

pub entry_after : (s : List ℕ) (at : ℕ) (r : Option ℕ) → r ≡ end_of (read_string Raw false s at) → r ≡ end_of (only_end (read_entry s at))
entry_after s at r e = entry_end s at r e ∙ sym (only_end_of (read_entry s at))

-- An entry that is not refused is read, and its message fills what is after its four bytes.
pub record EntryRead (s : List ℕ) (at e : ℕ) : Type 0 where
  pub after : at + 4 ≤ e
  pub within : e ≤ length s
  pub read : read_entry s at ≡ got (place (at + 4) (e - (at + 4))) e

pub entry_read : (s : List ℕ) (at : ℕ) (e : Stop) → e ≡ stop (read_entry s at) → e.refused ≡ 0 → EntryRead s at e.at
unfolding read_entry
entry_read s at e i z =
    let r = passed (read_entry s at) e (numbered_entry s at) i z in
    let t : Told r.0 e.at = subst (Gives Told) r.1 gives in
    record { after = t.0; within = t.1; read = r.1 ∙ ap (λ (p : Place). got p e.at) t.2 }
  where
    Told : Place → ℕ → Type 0
    Told p next = (at + 4 ≤ next) × (next ≤ length s) × (p ≡ place (at + 4) (next - (at + 4)))

    x : ℕ
    x = big_endian 4 s at

    gives : Gives Told (read_entry s at)
    gives =
        after_number Told 4 s at _ (λ h.
        check Told (leb 0x8000_0000 x) value_not_admitted at _ (λ _.
        check Told (ltb (length s) (at + 4 + x)) field_cut at _ (λ l.
        let n : at + 4 + x - (at + 4) ≡ x = omega arith in
        (omega arith, ltb-false _ _ l, ap (place (at + 4)) (sym n)))))

-- Records equals entries, and after the entries there is nothing.
module _ (entries records records_at : ℕ) (s : List ℕ) (start : ℕ) where
  abbrev Ends : Stop → Type 0
  Ends e = e ≡ stop (entries_from entries records records_at s start)

  pub records_differ : (records ≡ entries → ⊥) → Ends (stop_at records_at value_not_admitted)
  unfolding entries_from
  records_differ r = rw (ne_eqb _ _ r)

  module _ (r : records ≡ entries) (e : Stop) (i : e ≡ stop (repeated read_entry entries s start)) where
    pub entries_refused : (e.refused ≡ 0 → ⊥) → Ends e
    unfolding entries_from
    entries_refused z = rw (eq-eqb _ _ r, stopped (repeated read_entry entries s start) e i z)

    module _ (z : e.refused ≡ 0) where
      read : (u : Unit) × (repeated read_entry entries s start ≡ got u e.at)
      read = passed (repeated read_entry entries s start) e (numbered_repeated read_entry numbered_entry entries s start) i z

      pub entries_left : e.at < length s → Ends (stop_at e.at bytes_left)
      unfolding entries_from
      entries_left l = rw (eq-eqb _ _ r, read.1, lt-ltb _ _ l)

      pub entries_used : length s ≤ e.at → Ends e
      unfolding entries_from
      entries_used l = i ∙ rw (eq-eqb _ _ r, read.1, le-ltb _ _ l)

-- How many a chunk has.
module _ (s : List ℕ) (kind : ℕ) (r : Bool) (i : kind ≡ number_or_zero 1 s 1) (j : r ≡ has_entries (signed 1 kind)) where
  pub closed : r ≡ false → 0 ≡ entry_count s
  unfolding entry_count
  closed h = rw (← i, ← j, h)

  pub opened : r ≡ true → number_or_zero 2 s 2 ≡ entry_count s
  unfolding entry_count
  opened h = rw (← i, ← j, h)
