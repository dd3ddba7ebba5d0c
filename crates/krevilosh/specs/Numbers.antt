-- What a host takes from an answer: its remainder by 256 (KREVILOSH_REFUSAL) and its quotient (KREVILOSH_NUMBER). The remainder is 0
-- exactly if the call is accepted.
use Rattle.std.specs.Prelude.{◌≡◌, List, ℕ, ◌/◌, ◌%◌}
use Rattle.std.proofs.Math.Option.{Option, none, some}
use Rattle.wire.specs.Integers.{Bytes}
use Rattle.protocol.specs.declared.kind.Element.{Element}
use Rattle.protocol.specs.declared.place.Place.{Place}
use Rattle.rules.specs.Answers.{Refusal, numbered, reading_refusal, writing_refusal}
use Rattle.rules.specs.Reading.{read_frame, read_chunk}
use Rattle.rules.specs.Writing.{Written, length}
use Rattle.rules.specs.Writing as writing
use Rattle.questions.specs.Questions.{Asked, found, refusal, asked, number_of}
use Rattle.slots.specs.Unflat.{write_flat}
use Rattle.slot_chunk_reader.specs.Slots.{open_number, next_found}
use Rattle.slot_questions.specs.Asked.{ask_element, ask_message}
use Rattle.chunk_reader.specs.declared.spot.Found.{Found}
use Rattle.chunk_reader.specs.declared.spot.Found.TheVariants.{Ready, Message, Done, Refused}
use Rattle.credit_ledger.specs.Calls.{opening, grant, closing, received}
use Rattle.credit_ledger.specs.Numbers.{credit_refusal}
use Rattle.credit_ledger.specs.Step as credit
use Rattle.publisher_ledger.specs.Calls.{Call}
use Rattle.publisher_ledger.specs.Numbers.{refusal_number}
use Rattle.publisher_ledger.specs.Step as publisher
use Rattle.krevilosh.specs.Answer.{or_zero, refusal_answer, written_answer, next_answer}

-- An answer tells that nothing is refused, with a value above; or a refusal's number, which is not 0, with the bytes needed above.
abbrev pub Tells : Option Refusal → ℕ → ℕ → Type 0
Tells none value a = (a % 256 ≡ 0) × (a / 256 ≡ value)
Tells (some r) value a = (a % 256 ≡ r.number) × ((r.number ≡ 0 → ⊥) × (a / 256 ≡ or_zero r.needed))

-- The refusal that the answer to a question is.
abbrev pub asked_refusal : {A : Type 0} → Asked A → Option Refusal
asked_refusal (found a) = none
asked_refusal (refusal n) = some (numbered n)

abbrev pub found_refusal : Found → Option Refusal
found_refusal Ready = none
found_refusal (Message m) = none
found_refusal Done = none
found_refusal (Refused n) = some (numbered n)

abbrev pub number_refusal : Option ℕ → Option Refusal
number_refusal none = none
number_refusal (some n) = some (numbered n)

-- What stands above an accepted answer: a frame's length; 1 for an entry, 0 at the end.
abbrev pub length_of : Written → ℕ
length_of (length n) = n
length_of (writing.refusal n) = 0

abbrev pub entries_in : Found → ℕ
entries_in Ready = 0
entries_in (Message m) = 1
entries_in Done = 0
entries_in (Refused n) = 0

-- Each function that answers, for any arguments.
pub record HostNumbers : Type 0 where
  pub read : (s : List ℕ) (limit : ℕ) → Bytes s
      → Tells (reading_refusal (read_frame s limit)) 0 (refusal_answer (reading_refusal (read_frame s limit)))
  pub write : (x src : List ℕ) (limit : ℕ) (out : List ℕ)
      → Tells (writing_refusal (write_flat x src limit out).answer) (length_of (write_flat x src limit out).answer) (written_answer (write_flat x src limit out).answer)
  pub element : (shape : Option Element) (s : List ℕ) (count : ℕ) (p : Place) (i : ℕ)
      → Tells (asked_refusal (ask_element shape s count p i)) 0 (number_of (ask_element shape s count p i))
  pub message : (slots s : List ℕ) (i : ℕ) → Tells (asked_refusal (ask_message slots s i)) 0 (number_of (ask_message slots s i))
  pub chunk_open : (s : List ℕ) → Tells (asked_refusal (asked (read_chunk s 0))) 0 (open_number s)
  pub chunk_next : (s reader : List ℕ) → Tells (found_refusal (next_found s reader)) (entries_in (next_found s reader)) (next_answer (next_found s reader))
  pub credit_open : (l : List ℕ) (i c : ℕ) → Tells (credit_refusal (credit.answer l (opening i c))) 0 (refusal_answer (credit_refusal (credit.answer l (opening i c))))
  pub credit_grant : (l : List ℕ) (i n : ℕ) → Tells (credit_refusal (credit.answer l (grant i n))) 0 (refusal_answer (credit_refusal (credit.answer l (grant i n))))
  pub credit_close : (l : List ℕ) (i : ℕ) → Tells (credit_refusal (credit.answer l (closing i))) 0 (refusal_answer (credit_refusal (credit.answer l (closing i))))
  pub credit_receive : (l s : List ℕ) (limit : ℕ) → Bytes s
      → Tells (credit_refusal (credit.answer l (received s limit))) 0 (refusal_answer (credit_refusal (credit.answer l (received s limit))))
  pub publishers : (l : List ℕ) (c : Call) → Tells (number_refusal (refusal_number (publisher.answer l c))) 0 (or_zero (refusal_number (publisher.answer l c)))
