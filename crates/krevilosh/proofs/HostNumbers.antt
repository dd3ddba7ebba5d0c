-- Every number that a call is refused with is above 0 and below 256, so it is the answer's remainder by 256. Assumes nothing.
use mathlib.Core.Path.{◌≡◌, refl}
use mathlib.Core.List.{List}
use mathlib.Core.Logic.{◌⊎◌, inl, inr}
use mathlib.Core.Option.{Option, none, some}
use Prim.Native.Nat.{ℕ, ◌≤◌}
use native.Mathlib.Omega.{arith}
use lib.Dec.{eqb}
use lib.ListN.{get_or}
use Rattle.protocol.specs.Fields.{Field}
use Rattle.protocol.specs.Kinds as K
use Rattle.protocol.specs.declared.place.Place.{Place}
use Rattle.rules.specs.Answers.{Refusal, reading_refusal, writing_refusal, IfRefused, ReadingNumber, WritingNumber}
use Rattle.rules.specs.Outcome.{Outcome, got, refused}
use Rattle.rules.specs.Reading.{read_entry, read_field, read_chunk, read_frame}
use Rattle.rules.specs.Writing.{Written, length}
use Rattle.rules.specs.Writing as writing
use Rattle.rules.proofs.Bounds.{FieldNumber, Bounded, bounded_entry, bounded_field}
use Rattle.rules.proofs.Gives.{choice}
use Rattle.rules.proofs.RefusalNumbers.{numbers}
use Rattle.questions.specs.Questions.{Asked, found, refusal, asked, number_of}
use Rattle.slots.specs.Unflat.{unflat_frame, write_flat}
use Rattle.chunk_reader.specs.Reader.{spot, behind_entry, advanced}
use Rattle.chunk_reader.specs.declared.spot.Found.{Found}
use Rattle.chunk_reader.specs.declared.spot.Found.TheVariants.{Ready}
use Rattle.chunk_reader.specs.declared.spot.Spot.{Spot}
use Rattle.slot_chunk_reader.specs.Slots.{open_number, next_spot}
use Rattle.slot_questions.specs.Asked.{ask_element, ask_message}
use Rattle.slot_questions.specs.Numbers.{NumberFrom}
use Rattle.slot_questions.proofs.Numbers.{question_numbers}
use Rattle.ledger.specs.Numbers.{LedgerNumber, IfNumbered}
use Rattle.credit_ledger.specs.Calls.{opening, grant, closing, received}
use Rattle.credit_ledger.specs.Numbers.{credit_refusal}
use Rattle.credit_ledger.specs.Step as credit
use Rattle.credit_ledger.proofs.Numbers.{credit_numbers}
use Rattle.publisher_ledger.specs.Numbers.{refusal_number}
use Rattle.publisher_ledger.specs.Step as publisher
use Rattle.publisher_ledger.proofs.Numbers.{publisher_numbers}
use Rattle.krevilosh.specs.Answer.{or_zero, refusal_answer, written_answer, next_answer}
use Rattle.krevilosh.specs.Numbers.{Tells, asked_refusal, found_refusal, number_refusal, length_of, entries_in, HostNumbers}

-- ---- One number

-- A number that fits the low 8 bits, and is not 0.
abbrev Number : ℕ → Type 0
Number n = (1 ≤ n) × (n ≤ 255)

plain : (n : ℕ) → Number n → Tells (some (record { number = n; needed = none })) 0 n
plain n h = (omega (arith, h.1), ((λ e. omega (arith, h.0, e)), omega (arith, h.1)))

by_refusal : (P : Refusal → Type 0) → ((r : Refusal) → P r → Number r.number) → (o : Option Refusal) → IfRefused P o → Tells o 0 (refusal_answer o)
by_refusal P f none h = (refl, refl)
by_refusal P f (some r) h = by r.needed (f r h)
  where
    by : (m : Option ℕ) → Number r.number → Tells (some (record { number = r.number; needed = m })) 0 (refusal_answer (some (record { number = r.number; needed = m })))
    by none k = plain r.number k
    by (some m) k = (omega (arith, k.1), ((λ e. omega (arith, k.0, e)), omega (arith, k.1)))

of_field : (n : ℕ) → FieldNumber n → Number n
of_field n h = (omega (arith, h.0), omega (arith, h.1))

of_ledger : (n : ℕ) → LedgerNumber n → Number n
of_ledger n h = (omega (arith, h.0), omega (arith, h.1))

of_reading : (r : Refusal) → ReadingNumber r → Number r.number
of_reading r h = (h.least, omega (arith, h.most))

abbrev Ledger : Refusal → Type 0
Ledger r = LedgerNumber r.number

abbrev Either : Refusal → Type 0
Either r = ReadingNumber r ⊎ LedgerNumber r.number

of_either : (r : Refusal) → Either r → Number r.number
of_either r (inl h) = of_reading r h
of_either r (inr h) = of_ledger r.number h

-- ---- Writing

written : (w : Written) → IfRefused WritingNumber (writing_refusal w) → Tells (writing_refusal w) (length_of w) (written_answer w)
written (length n) h = (omega arith, omega arith)
written (writing.refusal n) h = plain n (by h.number)
  where
    by : (n ≡ 2) ⊎ ((4 ≤ n) × (n ≤ 12)) → Number n
    by (inl e) = (omega (arith, e), omega (arith, e))
    by (inr l) = (omega (arith, l.0), omega (arith, l.1))

-- ---- Questions

abbrev Told : {A : Type 0} → Asked A → Type 0
Told a = Tells (asked_refusal a) 0 (number_of a)

asked_told : (least : ℕ) (a : Asked (List ℕ)) → 1 ≤ least → NumberFrom least a → Told a
asked_told least (found slots) l h = (refl, refl)
asked_told least (refusal n) l h = plain n (omega (arith, l, h.0), omega (arith, h.1))

-- ---- The chunk reader

open_told : (s : List ℕ) → Tells (asked_refusal (asked (read_chunk s 0))) 0 (open_number s)
unfolding open_number read_field
open_told s = by (read_chunk s 0) (bounded_field K.chunk s 0)
  where
    by : (o : Outcome (Field Place)) → Bounded s 0 o → Told (asked o)
    by (got f next) b = (refl, refl)
    by (refused n at) b = plain n (of_field n b.0)

abbrev FoundTold : Found → Type 0
FoundTold f = Tells (found_refusal f) (entries_in f) (next_answer f)

next_told : (s reader : List ℕ) → FoundTold (next_spot s reader).found
unfolding next_spot advanced
next_told s reader =
    choice (λ (p : Spot). FoundTold p.found) (eqb (get_or reader 1 0) 0) _ _ (λ _. (refl, refl)) (λ _. by (read_entry s (get_or reader 0 0)) (bounded_entry s (get_or reader 0 0)))
  where
    by : (o : Outcome Place) → Bounded s (get_or reader 0 0) o → FoundTold (behind_entry (spot (get_or reader 0 0) (get_or reader 1 0) Ready) o).found
    by (got m next) b = (omega arith, omega arith)
    by (refused n at) b = plain n (of_field n b.0)

-- ---- The publisher ledger

numbered_told : (o : Option ℕ) → IfNumbered LedgerNumber o → Tells (number_refusal o) 0 (or_zero o)
numbered_told none h = (refl, refl)
numbered_told (some n) h = plain n (of_ledger n h)

pub host_numbers : HostNumbers
unfolding write_flat
host_numbers =
    record {
      read = λ s limit b. by_refusal ReadingNumber of_reading (reading_refusal (read_frame s limit)) (numbers.reading s limit b);
      write = λ x src limit out. written (write_flat x src limit out).answer (numbers.writing (unflat_frame x) src limit out);
      element = λ o s count p i. asked_told 6 (ask_element o s count p i) (omega arith) (question_numbers.element o s count p i);
      message = λ slots s i. asked_told 4 (ask_message slots s i) (omega arith) (question_numbers.message slots s i);
      chunk_open = open_told;
      chunk_next = next_told;
      credit_open = λ l i c. by_refusal Ledger (λ r h. of_ledger r.number h) (credit_refusal (credit.answer l (opening i c))) (credit_numbers.openings l i c);
      credit_grant = λ l i n. by_refusal Ledger (λ r h. of_ledger r.number h) (credit_refusal (credit.answer l (grant i n))) (credit_numbers.grants l i n);
      credit_close = λ l i. by_refusal Ledger (λ r h. of_ledger r.number h) (credit_refusal (credit.answer l (closing i))) (credit_numbers.closings l i);
      credit_receive = λ l s limit b. by_refusal Either of_either (credit_refusal (credit.answer l (received s limit))) (credit_numbers.received_frames l s limit b);
      publishers = λ l c. numbered_told (refusal_number (publisher.answer l c)) (publisher_numbers l c);
    }
