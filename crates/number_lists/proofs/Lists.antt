-- A list is its count and then its elements: the count's refusal is the list's, and without one the list stops where its elements
-- do. A list that is written is checked in the same way, between its count and place and the bytes that are left. Assumes nothing.
use mathlib.Core.Path.{◌≡◌, refl, ◌∙◌, sym, ap, subst}
use mathlib.Core.Bool.{Bool, true, false, cond}
use mathlib.Core.List.{List, ◌++◌}
use Prim.Native.Nat.{ℕ, ◌+◌, ◌-◌, ◌<◌, ◌≤◌}
use native.Mathlib.Omega.{arith}
use lib.Dec.{ltb, leb}
use lib.IntN.{ℤ}
use lib.ListN.{length}
use borrow.Author.Tests.{ltb-true, ltb-false}
use Rattle.wire.specs.Integers.{digits, number_or_zero}
use Rattle.wire.specs.Signed.{signed}
use Rattle.wire.proofs.TwosComplement.{below_half, above_half}
use Rattle.wire.proofs.Widths.{or_zero_lem}
use Rattle.protocol.specs.Fields.{Field, bytes_at, elements, outside, place}
use Rattle.protocol.specs.Kinds.{Row, list}
use Rattle.protocol.specs.Refusals.{field_cut, bad_length, bytes_left}
use Rattle.protocol.specs.declared.kind.ListRule.{ListRule}
use Rattle.protocol.specs.declared.place.Place.{Place}
use Rattle.rules.specs.Outcome.{Outcome, got, refused, then, repeated}
use Rattle.rules.specs.Reading.{count_of, read_count, read_list, read_field, read_row}
use Rattle.rules.specs.Writing.{Encoding, wrote, checked, used_up, write_field, write_list}
use Rattle.rules.proofs.Bounds.{Bounded, Numbered, bounded_repeated, bounded_row, numbered_field, numbered_row, numbered_repeated}
use Rattle.rules.proofs.Gives.{Gives}
use Rattle.rules.proofs.Numbers.{number_there, number_cut}
use Rattle.rules.proofs.Parts.{length_part}
use Rattle.byte_strings.specs.Stops.{Stop, stop, refusal_of}
use Rattle.byte_strings.proofs.Checked.{only_checked, only_used, only_these, check_passed}
use Rattle.byte_strings.proofs.Stops.{passed, pieces_refused, pieces_left, pieces_used}
use Rattle.number_lists.specs.Checks.{before_elements}

-- ---- The count

module _ (s : List ℕ) (at : ℕ) where
  pub count_cut : length s < at + 4 → read_count s at ≡ refused field_cut at
  unfolding read_count
  count_cut h = rw (number_cut 4 s at h)

  module _ (there : at + 4 ≤ length s) (v : ℕ) (e : v ≡ number_or_zero 4 s at) where
    counted : read_count s at ≡ count_of at (signed 4 v) (at + 4)
    unfolding read_count
    counted = rw (number_there 4 s at there, e ∙ or_zero_lem 4 s at there)

    pub count_negative : 0x8000_0000 ≤ v → read_count s at ≡ refused bad_length at
    count_negative h = counted ∙ ap (λ (z : ℤ). count_of at z (at + 4)) (above_half 4 v h)

    pub count_read : v < 0x8000_0000 → read_count s at ≡ got v (at + 4)
    count_read h = counted ∙ ap (λ (z : ℤ). count_of at z (at + 4)) (below_half 4 v h)

  by_count : (P : Type 0) → ((m : ℕ) → read_count s at ≡ refused m at → P) → (at + 4 ≤ length s → read_count s at ≡ got (number_or_zero 4 s at) (at + 4) → P) → P
  by_count P f g = by (ltb (length s) (at + 4)) refl
    where
      sign : at + 4 ≤ length s → (t : Bool) → ltb (number_or_zero 4 s at) 0x8000_0000 ≡ t → P
      sign h true i = g h (count_read h (number_or_zero 4 s at) refl (ltb-true _ _ i))
      sign h false i = f bad_length (count_negative h (number_or_zero 4 s at) refl (ltb-false _ _ i))

      by : (t : Bool) → ltb (length s) (at + 4) ≡ t → P
      by true i = f field_cut (count_cut (ltb-true _ _ i))
      by false i = sign (ltb-false _ _ i) (ltb (number_or_zero 4 s at) 0x8000_0000) refl

  -- A count that is read is there.
  pub count_there : (n next : ℕ) → got n next ≡ read_count s at → at + 4 ≤ length s
  count_there n next e = by_count (at + 4 ≤ length s) (λ m i. let no : ◌≡◌ {A = Outcome ℕ} (got n next) (refused m at) = e ∙ i in cc) (λ h _. h)

-- ---- Reading

-- A list by its elements, once its count is read.
abbrev counted_list : ℕ → ℕ → Outcome Unit → Outcome (Field Place)
counted_list at n o = then o (λ _ last. got (elements n (place (at + 4) (last - (at + 4)))) last)

module _ (rule : ListRule) (row : Row) (s : List ℕ) (at : ℕ) where
  pub list_refused : (n p : ℕ) → refused n p ≡ read_count s at → read_field (list rule row) s at ≡ refused n p
  unfolding read_field read_list
  list_refused n p i = rw (sym i)

  pub list_stops : (n : ℕ) (e : Stop) → got n (at + 4) ≡ read_count s at → e ≡ stop (repeated (read_row row) n s (at + 4)) → e ≡ stop (read_field (list rule row) s at)
  unfolding read_field read_list
  list_stops n e i f = rw (sym i) (f ∙ by (repeated (read_row row) n s (at + 4)))
    where
      by : (o : Outcome Unit) → stop o ≡ stop (counted_list at n o)
      by (got _ last) = refl
      by (refused m p) = refl

  -- What a list that is read tells: its count is there, and its elements fill what is after it.
  pub record Listed (f : Field Place) (next : ℕ) : Type 0 where
    pub after : at + 4 ≤ next
    pub within : next ≤ length s
    pub field : f ≡ elements (number_or_zero 4 s at) (place (at + 4) (next - (at + 4)))

  pub listed : Gives Listed (read_field (list rule row) s at)
  unfolding read_field read_list
  listed =
      by_count s at (Gives Listed (read_field (list rule row) s at))
      (λ m i. rw i tt)
      (λ h i. rw i (by h (repeated (read_row row) (number_or_zero 4 s at) s (at + 4)) (bounded_repeated s (read_row row) (λ from. bounded_row row s from) (number_or_zero 4 s at) (at + 4))))
    where
      by : at + 4 ≤ length s → (o : Outcome Unit) → Bounded s (at + 4) o → Gives Listed (counted_list at (number_or_zero 4 s at) o)
      by h (got _ last) b = record { after = b.0; within = b.1 h; field = refl }
      by h (refused n p) b = tt

  pub list_whole : (e : Stop) → e ≡ stop (read_field (list rule row) s at) → e.refused ≡ 0 → (at + 4 ≤ length s) × (read_field (list rule row) s at ≡ got (elements (number_or_zero 4 s at) (place (at + 4) (e.at - (at + 4)))) e.at)
  list_whole e i z =
      let r = passed (read_field (list rule row) s at) e (numbered_field (list rule row) s at) i z in
      let t : Listed r.0 e.at = subst (Gives Listed) r.1 listed in
      (omega (arith, t.after, t.within), r.1 ∙ ap (λ (f : Field Place). got f e.at) t.field)

-- ---- Writing

module _ (rule : ListRule) (row : Row) (src : List ℕ) (n : ℕ) (p : Place) where
  abbrev written : Encoding
  written = write_field (list rule row) src (elements n p)

  abbrev part : List ℕ
  part = bytes_at src p

  -- The elements, as when they are read from the start of their bytes.
  abbrev pieces : Outcome Unit
  pieces = repeated (read_row row) n part 0

  pieces_numbered : Numbered pieces
  pieces_numbered = numbered_repeated (read_row row) (numbered_row row) n part 0

  abbrev encoded : Encoding
  encoded = wrote (digits 4 n ++ part)

  module _ (r : ℕ) (e : r ≡ before_elements src n p) where
    pub before_refused : (r ≡ 0 → ⊥) → r ≡ refusal_of written
    unfolding write_list before_elements
    before_refused z = by (leb 0x8000_0000 n) (outside p src) e
      where
        by : (t u : Bool) → r ≡ cond t bad_length (cond u field_cut 0) → r ≡ refusal_of (checked t bad_length (checked u field_cut (used_up pieces part encoded)))
        by true u i = i
        by false true i = i
        by false false i = absurd (z i)

    module _ (z : r ≡ 0) where
      pub before_passed : (p.at + p.len ≤ length src) × (written ≡ used_up pieces part encoded)
      unfolding write_list before_elements
      before_passed = by (leb 0x8000_0000 n) refl (outside p src) refl (sym z ∙ e)
        where
          by : (t : Bool) → leb 0x8000_0000 n ≡ t → (u : Bool) → outside p src ≡ u → 0 ≡ cond t bad_length (cond u field_cut 0) → (p.at + p.len ≤ length src) × (written ≡ used_up pieces part encoded)
          by true i u j k = absurd (let y : ◌≡◌ {A = ℕ} 0 7 = k in omega arith)
          by false i true j k = absurd (let y : ◌≡◌ {A = ℕ} 0 6 = k in omega arith)
          by false i false j k = (ltb-false _ _ j, rw (i, j))

      -- After the count and the place come the elements; and then bytes that are left, or none.
      module _ (last : Stop) (f : last ≡ stop pieces) where
        pub elements_refused : (last.refused ≡ 0 → ⊥) → last.refused ≡ refusal_of written
        elements_refused k = pieces_refused pieces part encoded last f k ∙ ap refusal_of (sym before_passed.1)

        pub elements_used : (q : ℕ) → last.refused ≡ 0 → q ≡ cond (ltb last.at p.len) bytes_left 0 → q ≡ refusal_of written
        elements_used q k j = by (ltb last.at p.len) refl j ∙ ap refusal_of (sym before_passed.1)
          where
            long : length part ≡ p.len
            long = length_part p.len p.at src before_passed.0

            by : (t : Bool) → ltb last.at p.len ≡ t → q ≡ cond t bytes_left 0 → q ≡ refusal_of (used_up pieces part encoded)
            by true h g = g ∙ pieces_left pieces part encoded last f pieces_numbered k (omega (arith, long, ltb-true last.at p.len h))
            by false h g = g ∙ ap refusal_of (sym (pieces_used pieces part encoded last f pieces_numbered k (omega (arith, long, ltb-false last.at p.len h))))

  -- A list that is not refused is written.
  pub not_refused : refusal_of written ≡ 0 → (outside p src ≡ false) × (written ≡ encoded)
  unfolding write_list
  not_refused z =
      let b = digits 4 n ++ part in
      let used = used_up pieces part encoded in
      let inside = (check_passed (outside p src) field_cut used (λ e. omega (arith, e)) (check_passed (leb 0x8000_0000 n) bad_length (checked (outside p src) field_cut used) (λ e. omega (arith, e)) z).1).0 in
      let only = only_checked b (leb 0x8000_0000 n) bad_length (checked (outside p src) field_cut used) (λ e. omega (arith, e)) (only_checked b (outside p src) field_cut used (λ e. omega (arith, e)) (only_used b pieces part encoded pieces_numbered refl)) in
      (inside, only_these b written only z)
