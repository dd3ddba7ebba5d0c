-- The place that an element's slots show for a field is the place that was read. What may be null shows, as a null, a place that is
-- outside every source, and so its part is empty too. Assumes nothing.
use mathlib.Core.Path.{◌≡◌, refl, ◌∙◌, sym, ap, subst}
use mathlib.Core.Bool.{Bool, true, false, cond}
use mathlib.Core.List.{List, [], ◌∷◌, ◌++◌, map, append_assoc}
use mathlib.Core.Option
use mathlib.Core.Option.{Option, none, some}
use Prim.Native.Nat.{ℕ, zero, suc, ◌+◌, ◌-◌, ◌<◌, ◌≤◌}
use native.Mathlib.Omega.{arith}
use lib.Dec.{eqb, leb, ltb}
use lib.ListN.{length, drop, get_or, replicate, take}
use borrow.Author.Tests.{lt-ltb, eqb-true}
use Rattle.wire.specs.Integers.{Bytes, big_endian}
use Rattle.protocol.specs.Fields as F
use Rattle.protocol.specs.Fields.{Field, bytes_at, further, outside, over_places, place}
use Rattle.protocol.specs.Layouts.{kind_of, own_kind, row_from}
use Rattle.protocol.proofs.LayoutRows.{row_ends}
use Rattle.protocol.specs.Kinds.{Kind, unsigned, signed, string, specification, list, chunk, Row, end, ◌·◌}
use Rattle.protocol.specs.Refusals.{field_cut, value_not_admitted}
use Rattle.protocol.specs.declared.chunk.ChunkHeader.{ChunkHeader}
use Rattle.protocol.specs.declared.kind.FieldKind.{FieldKind}
use Rattle.protocol.specs.declared.place.Place.{Place}
use Rattle.rules.specs.Outcome.{Outcome, got, mapped, refused, then}
use Rattle.rules.specs.Reading.{header_at, read_chunk, read_data, read_field, read_row, read_signed, read_string, read_unsigned}
use Rattle.rules.proofs.Gives.{Gives, after, after_number, check, choice, weaker}
use Rattle.rules.proofs.Parts.{bytes_part}
use Rattle.slot_reading.proofs.FieldSlots.{Typed, typed}
use Rattle.number_lists.proofs.Lists.{Listed, listed}
use Rattle.elements.proofs.Rows.{next_field}
use Rattle.slots.specs.Flat.{flat_element, flat_field, flat_octets, flat_row, not_null, null_length, padded}
use Rattle.slots.specs.Unflat.{slot, slots_of, unflat_field, unflat_octets, unflat_row}
use Rattle.slots.proofs.Inverse.{field_behind}
use Rattle.parts.specs.Parts.{part_at}
use Rattle.questions.specs.Answer.{asked_slots, flat_asked}
use Rattle.questions.specs.Questions.{Asked, asked, element_at, field_part, found, number_of, octets_in, place_in, read_nth, refusal}
use Rattle.questions.proofs.Questions.{element_number, nth_gives}
use Rattle.element_parts.specs.Slots.{octets_of_slots}

-- ---- What a field that was read has for a place

-- Numbers and offset specifications have none, lists and chunks have one.
abbrev HasPlace : Kind → Option Place → Type 0
HasPlace (unsigned n most) o = o ≡ none
HasPlace (signed n) o = o ≡ none
HasPlace (string form nullable) o = Unit
HasPlace (specification admits_none) o = o ≡ none
HasPlace (list rule row) o = (p : Place) × (o ≡ some p)
HasPlace chunk o = (p : Place) × (o ≡ some p)

abbrev pub HavePlaces : Row → List (Field Place) → Type 0
HavePlaces end [] = Unit
HavePlaces end (f ∷ fs) = ⊥
HavePlaces (kind · row) [] = ⊥
HavePlaces (kind · row) (f ∷ fs) = HasPlace kind f.octets × HavePlaces row fs

moved_place : (n : ℕ) (kind : Kind) (o : Option Place) → HasPlace kind o → HasPlace kind (Option.map (further n) o)
moved_place n (unsigned w most) o h = ap (Option.map (further n)) h
moved_place n (signed w) o h = ap (Option.map (further n)) h
moved_place n (string form nullable) o h = tt
moved_place n (specification admits_none) o h = ap (Option.map (further n)) h
moved_place n (list rule row) o (p, e) = (further n p, ap (Option.map (further n)) e)
moved_place n chunk o (p, e) = (further n p, ap (Option.map (further n)) e)

pub moved_places : (n : ℕ) (row : Row) (fs : List (Field Place)) → HavePlaces row fs → HavePlaces row (map (over_places (further n)) fs)
moved_places n end [] h = tt
moved_places n end (f ∷ fs) h = h
moved_places n (kind · row) [] h = h
moved_places n (kind · row) (f ∷ fs) (h, hs) = (moved_place n kind f.octets h, moved_places n row fs hs)

module _ (s : List ℕ) (b : Bytes s) where
  field_place : (kind : Kind) (at : ℕ) → Gives (λ f _. HasPlace kind f.octets) (read_field kind s at)
  unfolding read_field read_unsigned read_signed read_chunk
  field_place (unsigned n most) at = after_number (λ f _. f.octets ≡ none) n s at _ (λ _. check (λ f _. f.octets ≡ none) (ltb most (big_endian n s at)) value_not_admitted at _ (λ _. refl))
  field_place (signed n) at = after_number (λ f _. f.octets ≡ none) n s at _ (λ _. refl)
  field_place (string form nullable) at = by (read_string form nullable s at)
    where
      by : (o : Outcome (Field Place)) → Gives (λ f _. Unit) o
      by (got f next) = tt
      by (refused n p) = tt
  field_place (specification admits_none) at = weaker (Typed s at 0) (λ f _. f.octets ≡ none) (read_field (specification admits_none) s at) (λ f _ t. t.no_place) (typed s at 0 admits_none b)
  field_place (list rule row) at = weaker (Listed rule row s at) (λ f _. HasPlace (list rule row) f.octets) (read_field (list rule row) s at) (λ f _ t. (_, ap (λ (g : Field Place). g.octets) t.field)) (listed rule row s at)
  field_place chunk at = check (λ f _. HasPlace chunk f.octets) (ltb (length s) (at + 48)) field_cut at _ (λ _. by (read_data h.chunk_type h.entries h.records h.data_length s at))
    where
      h : ChunkHeader
      h = header_at s at

      by : (o : Outcome Unit) → Gives (λ f _. HasPlace chunk f.octets) (then o (λ _ last. got (F.chunk h (place (at + 48) h.data_length)) last))
      by (got _ last) = (place (at + 48) h.data_length, refl)
      by (refused n p) = tt

  pub row_places : (row : Row) (at : ℕ) → Gives (λ fs _. HavePlaces row fs) (read_row row s at)
  unfolding read_row
  row_places end at = tt
  row_places (kind · row) at =
      after (λ fs _. HavePlaces (kind · row) fs) (λ f _. HasPlace kind f.octets) (read_field kind s at) _ (field_place kind at) (λ f next h.
      after (λ fs _. HavePlaces (kind · row) fs) (λ fs _. HavePlaces row fs) (read_row row s next) _ (row_places row next) (λ fs _ hs. (h, hs)))

-- ---- What the slots show

module _ (s : List ℕ) (small : length s < 0x8000_0000_0000_0000) where
  -- A length beyond every source.
  beyond : (p : Place) → 0x8000_0000_0000_0000 ≤ p.len → part_at s p ≡ []
  beyond p l = rw (lt-ltb (length s) (p.at + p.len) (omega (arith, l, small)))

  octets_shown : (nullable : Bool) (o : Option Place) (rest : List ℕ) → octets_in s (unflat_octets nullable (slot (flat_octets nullable o ++ rest) 0) (slot (flat_octets nullable o ++ rest) 1)) ≡ octets_in s o
  octets_shown false none rest = beyond (place 0 null_length) (omega arith)
  octets_shown false (some p) rest = refl
  octets_shown true none rest = refl
  octets_shown true (some p) rest = by (eqb p.len null_length) refl
    where
      by : (t : Bool) → eqb p.len null_length ≡ t → octets_in s (unflat_octets true p.at (not_null p.len)) ≡ part_at s p
      by true e = let l = eqb-true p.len null_length e in rw e (beyond (place p.at 18446744073709551614) (omega arith) ∙ sym (beyond p (omega (arith, l))))
      by false e = rw (e, e)

  field_shown : (kind : Kind) (f : Field Place) (rest : List ℕ) → HasPlace kind f.octets → octets_in s (unflat_field kind (flat_field kind f ++ rest)).octets ≡ octets_in s f.octets
  field_shown (unsigned n most) f rest h = rw h
  field_shown (signed n) f rest h = rw h
  field_shown (string form nullable) f rest h = octets_shown nullable f.octets rest
  field_shown (specification admits_none) f rest h = rw h
  field_shown (list rule row) f rest (p, e) = rw e
  field_shown chunk f rest (p, e) = rw e

  pub row_shown : (n : ℕ) (row : Row) (fs : List (Field Place)) (rest : List ℕ) → HavePlaces row fs → octets_in s (place_in n (unflat_row row (flat_row row fs ++ rest))) ≡ octets_in s (place_in n fs)
  row_shown n end [] rest h = refl
  row_shown n end (f ∷ fs) rest h = absurd h
  row_shown n (kind · row) [] rest h = absurd h
  row_shown zero (kind · row) (f ∷ fs) rest (h, hs) = rw (append_assoc (flat_field kind f) (flat_row row fs) rest) (field_shown kind f (flat_row row fs ++ rest) h)
  row_shown (suc n) (kind · row) (f ∷ fs) rest (h, hs) = rw (append_assoc (flat_field kind f) (flat_row row fs) rest, field_behind kind f (flat_row row fs ++ rest)) (row_shown n row fs rest hs)

  pub empty : part_at s (place 0 0) ≡ []
  empty = by (outside (place 0 0) s)
    where
      by : (t : Bool) → cond t [] (take 0 (drop 0 s)) ≡ []
      by true = refl
      by false = refl

-- ---- The fields in turn

-- The place at an index of a row, by the slots that are left.
abbrev pub Left : List FieldKind → List ℕ → ℕ → Option Place
Left fields slots n = place_in n (unflat_row (row_from fields) slots)

module _ (fields : List FieldKind) (slots : List ℕ) (i n : ℕ) (d : FieldKind) (l : i < length fields) where
  abbrev kind : Kind
  kind = kind_of (get_or fields i d)

  pub field_passed : (n ≡ 0 → ⊥) → Left (drop (i + 1) fields) (drop (slots_of (kind_of (get_or fields i d))) slots) (n - 1) ≡ Left (drop i fields) slots n
  field_passed y = rw (next_field fields slots d i 0 l) (next n (unflat_field kind slots) (unflat_row (row_from (drop (i + 1) fields)) (drop (slots_of kind) slots)) y)
    where
      next : (n : ℕ) (f : Field Place) (fs : List (Field Place)) → (n ≡ 0 → ⊥) → place_in (n - 1) fs ≡ place_in n (f ∷ fs)
      next zero f fs y = absurd (y refl)
      next (suc n) f fs y = let k : suc n - 1 ≡ n = omega arith in rw k

  pub field_reached : n ≡ 0 → octets_of_slots (kind_of (get_or fields i d)) slots ≡ Left (drop i fields) slots n
  field_reached y = rw (next_field fields slots d i 0 l, y)

pub none_left : (fields : List FieldKind) (slots : List ℕ) (i n : ℕ) → i ≡ length fields → none ≡ Left (drop i fields) slots n
none_left fields slots i n l = rw (row_ends own_kind fields i l)

-- ---- An element that was asked for

module _ (row : Row) (s : List ℕ) (count : ℕ) (p : Place) (index field : ℕ) where
  abbrev asked_for : Asked (List (Field Place))
  asked_for = element_at row s count p index

  -- Its fields have the places of their kinds.
  abbrev Placed : Asked (List (Field Place)) → Type 0
  Placed (found fs) = HavePlaces row fs
  Placed (refusal n) = Unit

  element_places : Bytes s → Placed asked_for
  unfolding element_at
  element_places b =
      choice Placed (outside p s) _ _ (λ _. tt) (λ _.
      choice Placed (leb count index) _ _ (λ _. tt) (λ _.
      by (read_nth (read_row row) index (bytes_at s p)) (nth_gives (read_row row) (bytes_at s p) index (λ fs _. HavePlaces row fs) (λ at. row_places (bytes_at s p) (bytes_part p.len p.at s b) row at))))
    where
      by : (o : Outcome (List (Field Place))) → Gives (λ fs _. HavePlaces row fs) o → Placed (asked (mapped (map (over_places (further p.at))) o))
      by (got fs next) h = moved_places p.at row fs h
      by (refused n q) h = tt

  module _ (r : ℕ) (e : r ≡ number_of asked_for) where
    pub shown_part : Bytes s → length s < 0x8000_0000_0000_0000 → r ≡ 0 → (old slots b : List ℕ) → slots ≡ asked_slots old (flat_asked row asked_for) → b ≡ octets_in s (place_in field (unflat_row row slots)) → b ≡ field_part field s asked_for
    unfolding flat_element padded
    shown_part bytes small z old slots b i j = by asked_for refl e i
      where
        by : (a : Asked (List (Field Place))) → asked_for ≡ a → r ≡ number_of a → slots ≡ asked_slots old (flat_asked row a) → b ≡ field_part field s a
        by (found fs) k _ l = j ∙ rw l (row_shown s small field row fs (replicate (8 - length (flat_row row fs)) 0) (subst Placed k (element_places bytes)))
        by (refusal n) k m l = absurd (let f = element_number s p index row count n k in omega (arith, f.0, m, z))
