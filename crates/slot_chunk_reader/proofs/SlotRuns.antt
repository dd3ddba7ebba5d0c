-- What the reader in slots does over a whole run: the promise of specs/SlotRun.antt. A question moves the slots as the entry
-- at the reader's place says, and in a well-formed chunk every entry can be read, so each question gives the message at the
-- head of the list that is left, and leaves the rest of the list. Assumes nothing.
use mathlib.Core.Path.{◌≡◌, refl, sym, ◌∙◌, ap, subst}
use mathlib.Core.Bool.{false}
use mathlib.Core.List.{List, [], ◌∷◌}
use Prim.Native.Nat.{ℕ, zero, suc, ◌+◌, ◌-◌, ◌≤◌, ◌<◌}
use native.Mathlib.Nat.{not-suc-le-zero, le_of_suc-le-suc}
use native.Mathlib.Omega.{arith}
use lib.Dec.{ltb, leb}
use lib.ListN.{length, get_or}
use borrow.Author.Tests.{ne_eqb}
use Rattle.wire.specs.Integers.{big_endian}
use Rattle.protocol.specs.Fields.{Field, place, outside}
use Rattle.protocol.specs.Kinds as K
use Rattle.protocol.specs.declared.place.Place.{Place}
use Rattle.questions.specs.Questions.{asked, number_of}
use Rattle.rules.specs.Outcome.{Outcome, got, refused, then, repeated}
use Rattle.rules.specs.Reading.{header_at, read_entry, read_chunk, read_field}
use Rattle.rules.proofs.Bounds.{Numbered, numbered_entry, numbered_field}
use Rattle.rules.proofs.Gives.{Gives, check, after_number}
use Rattle.slots.specs.Flat.{padded}
use Rattle.questions.specs.Found.{message_count}
use Rattle.chunk_reader.specs.Messages.{with_next, messages_at}
use Rattle.chunk_reader.specs.Reader.{spot, behind_entry, advanced}
use Rattle.chunk_reader.specs.Run.{Good, WellFormed}
use Rattle.chunk_reader.specs.declared.spot.Found.TheVariants.{Ready, Message, Done, Refused}
use Rattle.chunk_reader.specs.declared.spot.Spot.{Spot}
use Rattle.chunk_reader.proofs.Runs.{chunk_good, as_many, entry_inside, not_zero}
use Rattle.slot_chunk_reader.specs.SlotRun.{Lent, lent, asked_once, asked_times, Answers, at_first, entry_slots, SlotRun}
use Rattle.slot_chunk_reader.specs.Slots.{open_number, opened_from, reader_opened, next_spot, reader_moved, entry_filled}

-- An entry ends where its message does.
entry_ends : (s : List ℕ) (at : ℕ) → Gives (λ m next. next ≡ m.at + m.len) (read_entry s at)
unfolding read_entry
entry_ends s at =
    after_number Ends 4 s at _ (λ _.
    check Ends (leb 0x8000_0000 (big_endian 4 s at)) 10 at _ (λ _.
    check Ends (ltb (length s) (at + 4 + big_endian 4 s at)) 6 at _ (λ _. refl)))
  where
    Ends : Place → ℕ → Type 0
    Ends m next = next ≡ m.at + m.len

module _ (s : List ℕ) where
  -- ---- One question, of any reader

  -- By the place that it leads to.
  by_spot : (l : Lent) (p : Spot) → next_spot s l.reader ≡ p → Answers s l p.found (lent (reader_moved l.reader p) (entry_filled l.entry p.found))
  by_spot l p e =
      (ap (λ (q : Spot). q.found) e, ap (λ (q : Spot). lent (reader_moved l.reader q) (entry_filled l.entry q.found)) e)

  nothing_left_lem : (at x y : ℕ) (e : List ℕ) → Answers s (lent (at ∷ 0 ∷ x ∷ y ∷ []) e) Done (lent (at ∷ 0 ∷ x ∷ y ∷ []) e)
  unfolding next_spot advanced
  nothing_left_lem at x y e = (refl, refl)

  module _ (at left x y : ℕ) (e : List ℕ) where
    abbrev before : Lent
    before = lent (at ∷ suc left ∷ x ∷ y ∷ []) e

    to_entry : (o : Outcome Place) → read_entry s at ≡ o → next_spot s before.reader ≡ behind_entry (spot at (suc left) Ready) o
    unfolding next_spot advanced
    to_entry o h = rw (ne_eqb (suc left) 0 (not_zero left), h)

    entry_there : (m : Place) (next : ℕ) → read_entry s at ≡ got m next → Answers s before (Message m) (lent (next ∷ left ∷ x ∷ y ∷ []) (entry_slots m))
    unfolding padded
    entry_there m next h =
        let f : suc left - 1 ≡ left = omega arith in
        by_spot before (spot next left (Message m)) (to_entry (got m next) h ∙ ap (λ (n : ℕ). spot next n (Message m)) f)

    entry_refused : (number p : ℕ) → read_entry s at ≡ refused number p → Answers s before (Refused number) before
    entry_refused number p h = by_spot before (spot at (suc left) (Refused number)) (to_entry (refused number p) h)

  -- ---- Question after question

  -- What the questions after the first one find is what that one left.
  after_first : (n : ℕ) (l m : Lent) → asked_once s l ≡ m → asked_times (suc n) s l ≡ asked_times n s m
  unfolding asked_times
  after_first zero l m e = e
  after_first (suc n) l m e = ap (asked_once s) (after_first n l m e)

  module _ (x y : ℕ) where
    -- A reader at a place with n entries left.
    abbrev from : ℕ → ℕ → List ℕ → Lent
    from n at e = lent (at ∷ n ∷ x ∷ y ∷ []) e

    abbrev GivesMessage : Lent → ℕ → ℕ → Place → Type 0
    GivesMessage l n k m = Answers s (asked_times k s l) (Message m) (lent ((m.at + m.len) ∷ (n - suc k) ∷ x ∷ y ∷ []) (entry_slots m))

    abbrev IsDone : Lent → Type 0
    IsDone l = Answers s l Done l

    -- If its entries can be read, question k + 1 gives message k,
    given : (n at : ℕ) (e : List ℕ) → Good (repeated read_entry n s at) → (k : ℕ) → k < n → GivesMessage (from n at e) n k (get_or (messages_at n s at) k (place 0 0))
    unfolding asked_times messages_at repeated
    given zero at e g k l = absurd (not-suc-le-zero l)
    given (suc n) at e g k l = by (read_entry s at) refl (entry_ends s at) (λ next f w j h. given n next f w j h) g k l
      where
        by : (o : Outcome Place) → read_entry s at ≡ o → Gives (λ m next. next ≡ m.at + m.len) o → ((next : ℕ) (f : List ℕ) → Good (repeated read_entry n s next) → (j : ℕ) → j < n → GivesMessage (from n next f) n j (get_or (messages_at n s next) j (place 0 0))) → Good (then o (λ a next. repeated read_entry n s next)) → (k : ℕ) → k < suc n → GivesMessage (from (suc n) at e) (suc n) k (get_or (with_next o (λ next. messages_at n s next)) k (place 0 0))
        by (refused i p) h ends more w k l = absurd w
        by (got m next) h ends more w zero l =
            let f : suc n - 1 ≡ n = omega arith in
            rw (f, sym ends) (entry_there at n x y e m next h)
        by (got m next) h ends more w (suc k) l =
            let f : suc n - suc (suc k) ≡ n - suc k = omega arith in
            let p = get_or (messages_at n s next) k (place 0 0) in
            rw f
            (subst (λ (z : Lent). Answers s z (Message p) (lent ((p.at + p.len) ∷ (n - suc k) ∷ x ∷ y ∷ []) (entry_slots p)))
            (sym (after_first k (from (suc n) at e) (from n next (entry_slots m)) (entry_there at n x y e m next h).1))
            (more next (entry_slots m) w k (le_of_suc-le-suc l)))

    -- and after the last one it is done.
    stays : (k at : ℕ) (e : List ℕ) → asked_times k s (from 0 at e) ≡ from 0 at e
    unfolding asked_times
    stays zero at e = refl
    stays (suc k) at e = ap (asked_once s) (stays k at e) ∙ (nothing_left_lem at x y e).1

    done_after : (n at : ℕ) (e : List ℕ) → Good (repeated read_entry n s at) → (k : ℕ) → n ≤ k → IsDone (asked_times k s (from n at e))
    unfolding asked_times repeated
    done_after zero at e g k l = subst IsDone (sym (stays k at e)) (nothing_left_lem at x y e)
    done_after (suc n) at e g zero l = absurd (not-suc-le-zero l)
    done_after (suc n) at e g (suc k) l = by (read_entry s at) refl (λ next f w. done_after n next f w k (le_of_suc-le-suc l)) g
      where
        by : (o : Outcome Place) → read_entry s at ≡ o → ((next : ℕ) (f : List ℕ) → Good (repeated read_entry n s next) → IsDone (asked_times k s (from n next f))) → Good (then o (λ a next. repeated read_entry n s next)) → IsDone (asked_times (suc k) s (from (suc n) at e))
        by (refused i p) h more w = absurd w
        by (got m next) h more w =
            subst IsDone (sym (after_first k (from (suc n) at e) (from n next (entry_slots m)) (entry_there at n x y e m next h).1)) (more next (entry_slots m) w)

-- ---- The whole run

module _ (s : List ℕ) where
  open_refused : (number at : ℕ) (old : List ℕ) → read_chunk s 0 ≡ refused number at → (open_number s ≡ number) × ((number ≡ 0 → ⊥) × (reader_opened s old ≡ old))
  unfolding open_number reader_opened read_field
  open_refused number at old e = rw e (refl, (subst Numbered e (numbered_field K.chunk s 0), refl))

  opened : WellFormed s → (old : List ℕ) → (open_number s ≡ 0) × (reader_opened s old ≡ at_first s 0 0)
  unfolding open_number reader_opened
  opened w old = rw (as_many s w) (by (read_chunk s 0) w)
    where
      by : (o : Outcome (Field Place)) → Good o → (number_of (asked o) ≡ 0) × (opened_from s old o ≡ 48 ∷ message_count (header_at s 0) ∷ 0 ∷ 0 ∷ [])
      by (got f next) g = (refl, refl)
      by (refused n p) g = absurd g

pub slot_run : (s : List ℕ) → SlotRun s
slot_run s =
    record {
      refuses = open_refused s;
      opens = opened s;
      gives = λ w x y e n l. rw (as_many s w) (given s x y (message_count (header_at s 0)) 48 e (chunk_good s w) n (rw (as_many s w) at l));
      done = λ w x y e n l. rw (as_many s w) (done_after s x y (message_count (header_at s 0)) 48 e (chunk_good s w) n (rw (as_many s w) at l));
      nothing_left = nothing_left_lem s;
      entry_there = λ at left x y e m next h. (entry_there s at left x y e m next h, subst (Gives (λ m _. outside m s ≡ false)) h (entry_inside s at));
      entry_refused = λ at left x y e number p h. (entry_refused s at left x y e number p h, subst Numbered h (numbered_entry s at));
    }
