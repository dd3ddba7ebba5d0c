-- The code's answers, check by check: the one asked for is read where those before it end. Assumes nothing.
use mathlib.Core.Path.{◌≡◌, refl, ap}
use mathlib.Core.Bool.{true, false}
use mathlib.Core.List.{List, map}
use Prim.Native.Nat.{ℕ, ◌+◌, ◌-◌, ◌≤◌, ◌<◌}
use lib.IntN.{ℤ}
use borrow.Author.Tests.{lt-leb, le-leb}
use Rattle.protocol.specs.Fields.{Field, bytes_at, further, outside, over_places, place}
use Rattle.protocol.specs.Kinds.{Row}
use Rattle.protocol.specs.Refusals.{field_cut, value_not_admitted}
use Rattle.protocol.specs.declared.place.Place.{Place}
use Rattle.rules.specs.Outcome.{Outcome, got, refused, mapped, repeated}
use Rattle.rules.specs.Reading.{has_entries, read_entry, read_row}
use Rattle.rules.proofs.Bounds.{numbered_entry, numbered_repeated, numbered_row}
use Rattle.byte_strings.specs.Stops.{Stop, stop}
use Rattle.byte_strings.proofs.Stops.{passed, stopped}
use Rattle.chunks.proofs.Entries.{EntryRead, entry_read}
use Rattle.slot_reading.specs.Reading.{element_in, element_slots}
use Rattle.questions.specs.Answer.{asked_slots, flat_asked}
use Rattle.questions.specs.Questions.{Asked, asked, element_at, found, message_of, number_of, read_nth, refusal}

-- ---- Elements

module _ (row : Row) (s : List ℕ) (count : ℕ) (p : Place) (index : ℕ) where
  abbrev pub Answered : ℕ → List ℕ → List ℕ → Type 0
  Answered r old new = (r ≡ number_of (element_at row s count p index)) × (new ≡ asked_slots old (flat_asked row (element_at row s count p index)))

  pub element_outside : (old : List ℕ) → outside p s ≡ true → Answered field_cut old old
  unfolding element_at
  element_outside old o = rw o (refl, refl)

  module _ (o : outside p s ≡ false) where
    pub element_beyond : (old : List ℕ) → count ≤ index → Answered value_not_admitted old old
    unfolding element_at
    element_beyond old l = rw (o, le-leb count index l) (refl, refl)

    module _ (l : index < count) (e : Stop) (i : e ≡ stop (repeated (read_row row) index (bytes_at s p) 0)) where
      pub element_before : (old : List ℕ) → (e.refused ≡ 0 → ⊥) → Answered e.refused old old
      unfolding element_at read_nth
      element_before old z = rw (o, lt-leb count index l, stopped (repeated (read_row row) index (bytes_at s p) 0) e i z) (refl, refl)

      pub element_found : (old new : List ℕ) (f : Stop) → e.refused ≡ 0 → f ≡ stop (element_in row s p e.at) → new ≡ element_slots row (element_in row s p e.at) old → Answered f.refused old new
      unfolding element_at read_nth element_in
      element_found old new f z j k =
          let before = passed (repeated (read_row row) index (bytes_at s p) 0) e (numbered_repeated (read_row row) (numbered_row row) index (bytes_at s p) 0) i z in
          rw (o, lt-leb count index l, before.1) (by (mapped (map (over_places (further p.at))) (read_row row (bytes_at s p) e.at)) (rw o at j) (rw o at k))
        where
          by : (t : Outcome (List (Field Place))) → f ≡ stop t → new ≡ element_slots row t old → (f.refused ≡ number_of (asked t)) × (new ≡ asked_slots old (flat_asked row (asked t)))
          by (got fs next) a b = (ap (λ (x : Stop). x.refused) a, b)
          by (refused n q) a b = (ap (λ (x : Stop). x.refused) a, b)

-- ---- Messages

module _ (s : List ℕ) (type : ℤ) (entries : ℕ) (p : Place) (index : ℕ) where
  abbrev answer : Asked Place
  answer = message_of s type entries p index

  pub message_outside : outside p s ≡ true → refusal field_cut ≡ answer
  unfolding message_of
  message_outside o = rw o

  module _ (o : outside p s ≡ false) where
    pub message_closed : has_entries type ≡ false → refusal value_not_admitted ≡ answer
    unfolding message_of
    message_closed t = rw (o, t)

    module _ (t : has_entries type ≡ true) where
      pub message_beyond : entries ≤ index → refusal value_not_admitted ≡ answer
      unfolding message_of
      message_beyond l = rw (o, t, le-leb entries index l)

      pub message_there : (a : Asked Place) → index < entries → a ≡ asked (mapped (further p.at) (read_nth read_entry index (bytes_at s p))) → a ≡ answer
      unfolding message_of
      message_there a l e = rw (o, t, lt-leb entries index l) e

-- The message at an index of the data.
module _ (part : List ℕ) (base index : ℕ) (e : Stop) (i : e ≡ stop (repeated read_entry index part 0)) where
  abbrev nth : Asked Place
  nth = asked (mapped (further base) (read_nth read_entry index part))

  pub entries_refused : (e.refused ≡ 0 → ⊥) → refusal e.refused ≡ nth
  unfolding read_nth
  entries_refused z = rw (stopped (repeated read_entry index part 0) e i z)

  module _ (z : e.refused ≡ 0) (f : Stop) (j : f ≡ stop (read_entry part e.at)) where
    reached : read_nth read_entry index part ≡ read_entry part e.at
    unfolding read_nth
    reached = rw (passed (repeated read_entry index part 0) e (numbered_repeated read_entry numbered_entry index part 0) i z).1

    pub entry_refused : (f.refused ≡ 0 → ⊥) → refusal f.refused ≡ nth
    entry_refused y = rw (reached, stopped (read_entry part e.at) f j y)

    pub entry_found : f.refused ≡ 0 → EntryRead part e.at f.at × (found (place (base + (e.at + 4)) (f.at - (e.at + 4))) ≡ nth)
    entry_found y = let r = entry_read part e.at f j y in (r, rw (reached, r.read))
