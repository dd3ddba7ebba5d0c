-- What a reader says over its whole life: the promises of specs/Run.antt. In a well-formed chunk every entry can be
-- read, so each question gives the message at the head of the list that is left, and the rest of the list is left.
-- Assumes nothing.
use mathlib.Core.Path.{◌≡◌, refl, sym, ◌∙◌, ap, subst}
use mathlib.Core.Bool.{Bool, true, false, not, cond}
use mathlib.Core.List.{List, [], ◌∷◌, ◌++◌, map, append-nil}
use Prim.Native.Nat.{ℕ, zero, suc, ◌+◌, ◌-◌, ◌≤◌, ◌<◌, min}
use native.Mathlib.Nat.{not-suc-le-zero, le_of_suc-le-suc}
use native.Mathlib.Omega.{arith}
use lib.Dec.{ltb, leb, eqb}
use lib.IntN.{ℤ}
use lib.ListN.{length, get_or, take, drop, drop_of_length-le}
use borrow.Author.Tests.{ne_eqb, ltb-true, ltb-false}
use denote.Ref.{Bor}
use Rattle.wire.specs.Integers.{Bytes, digits, big_endian}
use Rattle.protocol.specs.Fields.{Field, place, bytes_at, outside}
use Rattle.protocol.specs.declared.place.Place.{Place}
use Rattle.rules.specs.Outcome.{Outcome, got, refused, then, repeated}
use Rattle.rules.specs.Reading.{header_at, has_entries, is_chunk_type, read_entry, read_entries, read_data, read_chunk}
use Rattle.rules.proofs.Gives.{Gives, check, choice, after, after_number, weaker}
use Rattle.rules.proofs.Parts.{Part, nothing, joined, there, number_part, length_part}
use Rattle.questions.specs.Found.{message_count, encode_entries}
use Rattle.chunk_reader.specs.Messages.{with_next, messages_at, messages_of, messages, message_or_done, answer_in, answer, is_refused, message_in}
use Rattle.chunk_reader.specs.Reader.{spot, started_from, started, behind_entry, advanced}
use Rattle.chunk_reader.specs.Run.{asked, says, Good, WellFormed, EachAnswer, EachMessage, EachPart, DoneForEver, AsManyAsTheHeaderSays, NothingElse, RefusedForEver}
use Rattle.chunk_reader.specs.declared.reader.ChunkReader.{ChunkReader}
use Rattle.chunk_reader.specs.declared.spot.Found.{Found}
use Rattle.chunk_reader.specs.declared.spot.Found.TheVariants.{Ready, Message, Done, Refused}
use Rattle.chunk_reader.specs.declared.spot.Spot.{Spot}

-- What holds of everything that reading gives holds where something was read.
given : {A X : Type 0} (o : Outcome A) → Gives (λ _ _. X) o → Good o → X
given (got a next) h g = h
given (refused n p) h g = absurd g

was_read : {A : Type 0} (o : Outcome A) → Gives (λ _ _. Good o) o
was_read (got a next) = tt
was_read (refused n p) = tt

-- What a well-formed chunk is known to have: by its type, and for type 0 from its entries.
module _ (s : List ℕ) (X : Type 0) where
  abbrev Known : Unit {0} → ℕ → Type 0
  Known _ _ = X

  abbrev KnownOf : Field Place → ℕ → Type 0
  KnownOf _ _ = X

  from_data : (type : ℤ) (entries records len : ℕ) → (has_entries type ≡ true → Gives Known (read_entries entries records s 0)) → (has_entries type ≡ false → X) → Gives Known (read_data type entries records len s 0)
  unfolding read_data
  from_data type entries records len f g =
      check Known (not (is_chunk_type type)) 10 1 _ (λ _.
      check Known (ltb (length s) (48 + len)) 6 48 _ (λ _.
      check Known (ltb (48 + len) (length s)) 11 (48 + len) _ (λ _.
      choice (Gives Known) (has_entries type) _ _ f g)))

  from_chunk : (48 ≤ length s → has_entries (header_at s 0).chunk_type ≡ true → Gives Known (read_entries (header_at s 0).entries (header_at s 0).records s 0)) → (has_entries (header_at s 0).chunk_type ≡ false → X) → WellFormed s → X
  unfolding read_chunk
  from_chunk f g w =
      let h = header_at s 0 in
      given (read_chunk s 0)
      (check KnownOf (ltb (length s) 48) 6 0 _ (λ l.
      after KnownOf Known (read_data h.chunk_type h.entries h.records h.data_length s 0) _
      (from_data h.chunk_type h.entries h.records h.data_length (f (ltb-false _ _ l)) g)
      (λ _ _ x. x))) w

-- The entries of a well-formed chunk can all be read.
entries_good : (entries records : ℕ) (s : List ℕ) → Gives (λ _ _. Good (repeated read_entry entries s 48)) (read_entries entries records s 0)
unfolding read_entries
entries_good entries records s =
    check P (not (eqb records entries)) 10 4 _ (λ _.
    after P P (repeated read_entry entries s 48) _ (was_read (repeated read_entry entries s 48)) (λ _ last x.
    check P (ltb last (length s)) 11 last _ (λ _. x)))
  where
    P : Unit {0} → ℕ → Type 0
    P _ _ = Good (repeated read_entry entries s 48)

pub chunk_good : (s : List ℕ) → WellFormed s → Good (repeated read_entry (message_count (header_at s 0)) s 48)
unfolding repeated
chunk_good s w =
    let h = header_at s 0 in
    from_chunk s (Good (repeated read_entry (cond (has_entries h.chunk_type) h.entries 0) s 48))
    (λ _ e. rw e (entries_good h.entries h.records s)) (λ e. rw e tt) w

pub not_zero : (n : ℕ) → suc n ≡ 0 → ⊥
not_zero n e = omega arith

module _ (c : Bor (List ℕ)) where
  abbrev s : List ℕ
  s = c.now

  abbrev reader : Spot → ChunkReader
  reader p = record { chunk = c; spot = p }

  -- Done and refused, for ever.
  stays_done : (k at : ℕ) → (asked k (reader (spot at 0 Done))).spot.found ≡ Done
  unfolding asked advanced
  stays_done zero at = refl
  stays_done (suc k) at = stays_done k at

  stays_refused : (k at left n : ℕ) → (asked k (reader (spot at left (Refused n)))).spot.found ≡ Refused n
  unfolding asked advanced
  stays_refused zero at left n = refl
  stays_refused (suc k) at left n = stays_refused k at left n

  -- From a place with n entries left that can be read.
  gives : (n at : ℕ) (f : Found) → is_refused f ≡ false → Good (repeated read_entry n s at) → (k : ℕ) → (asked (suc k) (reader (spot at n f))).spot.found ≡ message_or_done (messages_at n s at) k
  unfolding asked advanced messages_at repeated
  gives zero at f h g k = rw (asked, h) (stays_done k at)
  gives (suc n) at f h g k = rw (asked, h, ne_eqb (suc n) 0 (not_zero n)) (by (read_entry s at) (λ next p w j. gives n next (Message p) refl w j) g k)
    where
      by : (o : Outcome Place) → ((next : ℕ) (p : Place) → Good (repeated read_entry n s next) → (j : ℕ) → (asked (suc j) (reader (spot next n (Message p)))).spot.found ≡ message_or_done (messages_at n s next) j) → Good (then o (λ a next. repeated read_entry n s next)) → (k : ℕ) → (asked k (reader (behind_entry (spot at (suc n) f) o))).spot.found ≡ message_or_done (with_next o (λ next. messages_at n s next)) k
      by (got p next) more w zero = refl
      by (got p next) more w (suc j) =
          let e : suc n - 1 ≡ n = omega arith in rw e (more next p w j)
      by (refused m p) more w j = absurd w

  each : (n : ℕ) → says c (suc n) ≡ answer s n
  unfolding started answer
  each n = by (read_chunk s 0) (chunk_good s)
    where
      by : (o : Outcome (Field Place)) → (Good o → Good (repeated read_entry (message_count (header_at s 0)) s 48)) → (asked (suc n) (reader (started_from s o))).spot.found ≡ answer_in o (messages_of s) n
      by (got f behind) g = gives (message_count (header_at s 0)) 48 Ready refl (g tt) n
      by (refused m p) g = stays_refused (suc n) 0 0 m

pub each_answer : EachAnswer
each_answer c n = each c n

-- What the answers are in a well-formed chunk.
well_formed : (s : List ℕ) → WellFormed s → (n : ℕ) → answer s n ≡ message_or_done (messages_of s) n
unfolding answer
well_formed s g n = by (read_chunk s 0) g
  where
    by : (o : Outcome (Field Place)) → Good o → answer_in o (messages_of s) n ≡ message_or_done (messages_of s) n
    by (got f behind) h = refl
    by (refused m p) h = absurd h

pub each_message : EachMessage
each_message c g n l = each c n ∙ well_formed c.now g n ∙ there (messages_of c.now) n l
  where
    there : (ps : List Place) (k : ℕ) → k < length ps → message_or_done ps k ≡ Message (get_or ps k (place 0 0))
    there [] k h = absurd (not-suc-le-zero h)
    there (p ∷ ps) zero h = refl
    there (p ∷ ps) (suc k) h = there ps k (le_of_suc-le-suc h)

-- The messages lie in the bytes: an entry is read only if its end is there.
abbrev AllInside : List ℕ → List Place → Type 0
AllInside s [] = Unit
AllInside s (p ∷ ps) = (outside p s ≡ false) × AllInside s ps

pub entry_inside : (s : List ℕ) (at : ℕ) → Gives (λ m _. outside m s ≡ false) (read_entry s at)
unfolding read_entry
entry_inside s at =
    after_number In 4 s at _ (λ _.
    check In (leb 0x8000_0000 (big_endian 4 s at)) 10 at _ (λ _.
    check In (ltb (length s) (at + 4 + big_endian 4 s at)) 6 at _ (λ e. e)))
  where
    In : Place → ℕ → Type 0
    In m _ = outside m s ≡ false

messages_inside : (n : ℕ) (s : List ℕ) (at : ℕ) → AllInside s (messages_at n s at)
unfolding messages_at
messages_inside zero s at = tt
messages_inside (suc n) s at = by (read_entry s at) (entry_inside s at) (λ next. messages_inside n s next)
  where
    by : (o : Outcome Place) → Gives (λ m _. outside m s ≡ false) o → ((next : ℕ) → AllInside s (messages_at n s next)) → AllInside s (with_next o (λ next. messages_at n s next))
    by (got m next) i more = (i, more next)
    by (refused k p) i more = tt

part_of : (s : List ℕ) (ps : List Place) → AllInside s ps → (k : ℕ) → message_in s (message_or_done ps k) ≡ get_or (map (bytes_at s) ps) k []
part_of s [] i k = refl
part_of s (p ∷ ps) i zero = rw i.0
part_of s (p ∷ ps) i (suc k) = part_of s ps i.1 k

pub each_part : EachPart
each_part c g n =
    ap (message_in c.now) (each c n ∙ well_formed c.now g n)
    ∙ part_of c.now (messages_of c.now) (messages_inside (message_count (header_at c.now 0)) c.now 48) n

behind_last : (ps : List Place) (n : ℕ) → length ps ≤ n → message_or_done ps n ≡ Done
behind_last [] n l = refl
behind_last (p ∷ ps) zero l = absurd (not-suc-le-zero l)
behind_last (p ∷ ps) (suc n) l = behind_last ps n (le_of_suc-le-suc l)

pub done_for_ever : DoneForEver
done_for_ever c g n l = each c n ∙ well_formed c.now g n ∙ behind_last (messages_of c.now) n l

counted : (n : ℕ) (s : List ℕ) (at : ℕ) → Good (repeated read_entry n s at) → length (messages_at n s at) ≡ n
unfolding messages_at repeated
counted zero s at g = refl
counted (suc n) s at g = by (read_entry s at) (λ next. counted n s next) g
  where
    by : (o : Outcome Place) → ((next : ℕ) → Good (repeated read_entry n s next) → length (messages_at n s next) ≡ n) → Good (then o (λ a next. repeated read_entry n s next)) → length (with_next o (λ next. messages_at n s next)) ≡ suc n
    by (got p next) h w = ap suc (h next w)
    by (refused m p) h w = absurd w

pub as_many : AsManyAsTheHeaderSays
as_many s g = counted (message_count (header_at s 0)) s 48 (chunk_good s g)

pub refused_for_ever : RefusedForEver
unfolding started
refused_for_ever c number at e n =
    ap (λ (o : Outcome (Field Place)). (asked n (record { chunk = c; spot = started_from c.now o })).spot.found) e
    ∙ stays_refused c n 0 0 number

-- To ask on behind the last message changes nothing.
messages_few : (n : ℕ) (s : List ℕ) (at : ℕ) → length (messages_at n s at) ≤ n
unfolding messages_at
messages_few zero s at = omega arith
messages_few (suc n) s at = by (read_entry s at) (λ next. messages_few n s next)
  where
    by : (o : Outcome Place) → ((next : ℕ) → length (messages_at n s next) ≤ n) → length (with_next o (λ next. messages_at n s next)) ≤ suc n
    by (got p next) h = let l : length (messages_at n s next) ≤ n = h next in omega (arith, l)
    by (refused m p) h = omega arith

lesser : (a b : ℕ) → min a b ≡ cond (ltb a b) a b
lesser a b = by (ltb a b) refl
  where
    by : (t : Bool) → ltb a b ≡ t → min a b ≡ cond t a b
    by true e = let l = ltb-true a b e in omega arith
    by false e = let l = ltb-false a b e in omega arith

pub enough : (c : Bor (List ℕ)) (k : ℕ) → says c (suc (min (started c.now).left k)) ≡ answer c.now k
unfolding started answer
enough c k = rw (lesser (started c.now).left k) (each c _ ∙ by_outcome (read_chunk c.now 0))
  where
    by_test : (n : ℕ) (t : Bool) → ltb n k ≡ t → length (messages_of c.now) ≤ n → message_or_done (messages_of c.now) (cond t n k) ≡ message_or_done (messages_of c.now) k
    by_test n true e l =
        let h = ltb-true n k e in
        behind_last (messages_of c.now) n l ∙ sym (behind_last (messages_of c.now) k (omega (arith, l, h)))
    by_test n false e l = refl

    by_outcome : (o : Outcome (Field Place)) → answer_in o (messages_of c.now) (cond (ltb (started_from c.now o).left k) (started_from c.now o).left k) ≡ answer_in o (messages_of c.now) k
    by_outcome (got f behind) =
        let n = message_count (header_at c.now 0) in by_test n (ltb n k) refl (messages_few n c.now 48)
    by_outcome (refused m p) = refl

-- The messages are all of the data: what an entry's reading passes over is the entry's encoding.
module _ (s : List ℕ) (b : Bytes s) where
  abbrev EntryPart : ℕ → Place → ℕ → Type 0
  EntryPart at m next = Part s at (digits 4 (length (bytes_at s m)) ++ bytes_at s m) next

  entry_part : (at : ℕ) → Gives (EntryPart at) (read_entry s at)
  unfolding read_entry
  entry_part at =
      after_number (EntryPart at) 4 s at _ (λ h.
      check (EntryPart at) (leb 0x8000_0000 (big_endian 4 s at)) 10 at _ (λ _.
      check (EntryPart at) (ltb (length s) (at + 4 + big_endian 4 s at)) 6 at _ (λ e.
      whole (big_endian 4 s at) (ltb-false _ _ e) (number_part s 4 at b h))))
    where
      whole : (n : ℕ) → at + 4 + n ≤ length s → Part s at (digits 4 n) (at + 4) → EntryPart at (place (at + 4) n) (at + 4 + n)
      whole n h p =
          let g : length (take n (drop (at + 4) s)) ≡ n = length_part n (at + 4) s h in
          rw g (joined s at (at + 4) (at + 4 + n) (digits 4 n) (take n (drop (at + 4) s)) p (there s n (at + 4) h))

  abbrev EntriesPart : ℕ → ℕ → Unit {0} → ℕ → Type 0
  EntriesPart n at _ last = Part s at (encode_entries (map (bytes_at s) (messages_at n s at))) last

  entries_part : (n at : ℕ) → at ≤ length s → Gives (EntriesPart n at) (repeated read_entry n s at)
  unfolding repeated messages_at
  entries_part zero at h = nothing s at h
  entries_part (suc n) at h = by (read_entry s at) (entry_part at) (λ next l. entries_part n next l)
    where
      by : (o : Outcome Place) → Gives (EntryPart at) o → ((next : ℕ) → next ≤ length s → Gives (EntriesPart n next) (repeated read_entry n s next)) → Gives (λ _ last. Part s at (encode_entries (map (bytes_at s) (with_next o (λ next. messages_at n s next)))) last) (then o (λ a next. repeated read_entry n s next))
      by (got m next) p more =
          weaker (EntriesPart n next) _ (repeated read_entry n s next)
          (λ _ last q. joined s at next last (digits 4 (length (bytes_at s m)) ++ bytes_at s m) _ p q) (more next p.within)
      by (refused k p) q more = tt

pub nothing_else : NothingElse
unfolding read_entries
nothing_else s b w t =
    let n = (header_at s 0).entries in
    let e : has_entries (header_at s 0).chunk_type ≡ true = ap has_entries t in
    let k : message_count (header_at s 0) ≡ n = rw e in
    from_chunk s (drop 48 s ≡ encode_entries (messages s))
    (λ l _. rw k
    (check (λ _ _. Whole n) (not (eqb (header_at s 0).records n)) 10 4 _ (λ _.
    after (λ _ _. Whole n) (EntriesPart s b n 48) (repeated read_entry n s 48) _ (entries_part s b n 48 l) (λ _ last p.
    check (λ _ _. Whole n) (ltb last (length s)) 11 last _ (λ f.
    p.bytes ∙ ap (λ (r : List ℕ). encode_entries (map (bytes_at s) (messages_at n s 48)) ++ r) (drop_of_length-le s {i = last} (ltb-false _ _ f)) ∙ append-nil (encode_entries (map (bytes_at s) (messages_at n s 48))))))))
    (λ f. absurd (subst (λ (z : Bool). cond z Unit ⊥) (sym e ∙ f) tt)) w
  where
    Whole : ℕ → Type 0
    Whole n = drop 48 s ≡ encode_entries (map (bytes_at s) (messages_at n s 48))
