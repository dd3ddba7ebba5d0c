-- What the two calls on slots leave, from what the reader's place is then. Assumes nothing.
use mathlib.Core.Path.{◌≡◌, refl, sym, ◌∙◌, ap, subst}
use mathlib.Core.List.{List, [], ◌∷◌}
use Prim.Native.Nat.{ℕ}
use native.Mathlib.Omega.{arith}
use lib.ListN.{get_or}
use types.Run.{OneOf, miss}
use denote.Enum.Declared.{tag_of}
use Rattle.protocol.specs.Fields.{Field}
use Rattle.protocol.specs.declared.place.Place.{Place}
use Rattle.questions.specs.Questions.{asked, number_of}
use Rattle.rules.specs.Outcome.{Outcome, got, refused}
use Rattle.rules.specs.Reading.{read_chunk}
use Rattle.slots.specs.Flat.{flat_place, padded}
use Rattle.chunk_reader.specs.Reader.{spot, started_from, started, advanced}
use Rattle.chunk_reader.specs.declared.spot.Found.{Found}
use Rattle.chunk_reader.specs.declared.spot.Found.TheVariants.{Ready, Message, Done, Refused}
use Rattle.chunk_reader.specs.declared.spot.Spot.{Spot}
use Rattle.chunk_reader.specs.contracts.spot.Found.{the_type}
use Rattle.slot_chunk_reader.specs.Slots.{open_number, opened_from, reader_opened, next_spot, filled_if, moved_to, reader_moved, entry_filled}

-- A chunk is opened.
module _ (s old : List ℕ) (p : Spot) (e : p ≡ started s) where
  pub open_refused : (n : ℕ) → p.found ≡ Refused n → (n ≡ open_number s) × (old ≡ reader_opened s old)
  unfolding started open_number reader_opened
  open_refused n f = by (read_chunk s 0) e
    where
      by : (o : Outcome (Field Place)) → p ≡ started_from s o → (n ≡ number_of (asked o)) × (old ≡ opened_from s old o)
      by (got g next) d =
          let z : Ready ≡ Refused n = sym (ap (λ (q : Spot). q.found) d) ∙ f in
          let y : ◌≡◌ {A = ℕ} 0 1 = cc in absurd (omega arith)
      by (refused m at) d =
          let z : Refused m ≡ Refused n = sym (ap (λ (q : Spot). q.found) d) ∙ f in (cc, refl)

  pub open_ready : OneOf (0 ∷ 1 ∷ 2 ∷ []) (tag_of the_type p.found) → (0 ≡ open_number s) × (48 ∷ p.left ∷ 0 ∷ 0 ∷ [] ≡ reader_opened s old)
  unfolding started open_number reader_opened
  open_ready k = by (read_chunk s 0) e
    where
      by : (o : Outcome (Field Place)) → p ≡ started_from s o → (0 ≡ number_of (asked o)) × (48 ∷ p.left ∷ 0 ∷ 0 ∷ [] ≡ opened_from s old o)
      by (got g next) d = (refl, ap (λ (q : Spot). 48 ∷ q.left ∷ 0 ∷ 0 ∷ []) d)
      by (refused m at) d = absurd (miss (0 ∷ 1 ∷ 2 ∷ []) 3 tt (subst (λ (q : Spot). OneOf (0 ∷ 1 ∷ 2 ∷ []) (tag_of the_type q.found)) d k))

-- The next entry is asked for.
module _ (s r entry : List ℕ) (p : Spot) (e : p ≡ advanced s (spot (get_or r 0 0) (get_or r 1 0) Ready)) where
  abbrev Answers : Found → List ℕ → List ℕ → Spot → Type 0
  Answers f reader new q = (f ≡ q.found) × ((reader ≡ reader_moved r q) × (new ≡ entry_filled entry q.found))

  as_told : (f : Found) (reader new : List ℕ) → Answers f reader new p → Answers f reader new (next_spot s r)
  unfolding next_spot
  as_told f reader new a = subst (Answers f reader new) e a

  pub next_message : (m : Place) (new : List ℕ) → p.found ≡ Message m → new ≡ padded 8 (flat_place m) → Answers (Message m) (moved_to p r) new (next_spot s r)
  next_message m new f g =
      as_told (Message m) (moved_to p r) new
      (sym f, (ap (λ (x : Found). filled_if x r (λ _. moved_to p r)) (sym f), g ∙ ap (entry_filled entry) (sym f)))

  pub next_none : OneOf (0 ∷ 2 ∷ 3 ∷ []) (tag_of the_type p.found) → Answers p.found r entry (next_spot s r)
  next_none k = as_told p.found r entry (refl, by p.found k)
    where
      by : (f : Found) → OneOf (0 ∷ 2 ∷ 3 ∷ []) (tag_of the_type f) → (r ≡ filled_if f r (λ _. moved_to p r)) × (entry ≡ entry_filled entry f)
      by Ready h = (refl, refl)
      by (Message m) h = absurd (miss (0 ∷ 2 ∷ 3 ∷ []) 1 tt h)
      by Done h = (refl, refl)
      by (Refused n) h = (refl, refl)
