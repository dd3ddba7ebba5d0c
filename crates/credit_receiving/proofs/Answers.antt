-- What a received frame is answered, by what reading answers and what the ledger says. Assumes nothing.
use Prim.Native.Nat.{ℕ}
use mathlib.Core.Path.{◌≡◌, refl, sym, ap, ◌∙◌}
use mathlib.Core.Bool.{true, false}
use mathlib.Core.List.{List}
use mathlib.Core.Option.{Option, none, some}
use Rattle.protocol.specs.Fields.{Fields}
use Rattle.protocol.specs.Refusals.{number_of}
use Rattle.protocol.specs.declared.place.Place.{Place}
use Rattle.protocol.specs.declared.refusal.Refusal as protocol
use Rattle.rules.specs.Answers.{numbered, needing}
use Rattle.rules.specs.Answers as rules_answers
use Rattle.rules.specs.Reading.{read_frame}
use Rattle.rules.specs.Reading as rules
use Rattle.slots.specs.Flat.{flat_frame}
use Rattle.slots.specs.Flat as flat
use Rattle.std.specs.Prelude.{Result, Ok, Err}
use Rattle.frame_reading.specs.Answer.{Frame, told}
use Rattle.frame_reading.specs.declared.reading.ReadError.TheVariants.{Short, Refused}
use Rattle.frame_reading.proofs.Told.{frame_told, slots_told}
use Rattle.ledger.specs.Calls.{take, answer_by}
use Rattle.ledger.specs.Calls as calls
use Rattle.ledger.specs.Rules.{answer_to, ledger_after}
use Rattle.credit_ledger.specs.Calls.{received, frame, number, short, unread, Reply}
use Rattle.credit_ledger.specs.Calls as credit
use Rattle.credit_ledger.specs.Numbers.{credit_refusal}
use Rattle.credit_ledger.specs.Step.{answer, after, act_on_frame}
use Rattle.credit_receiving.specs.Answer.{said, answer_of, received_refusal, slots_after}
use Rattle.credit_receiving.specs.Subscription.{addressed, refusal_for, admitted, affords, spent}
use Rattle.credit_receiving.specs.declared.receiving.ReceiveError.{ReceiveError}
use Rattle.credit_receiving.specs.declared.receiving.ReceiveError.TheVariants.{Read, Ledger}
use Rattle.rules.proofs.Listed.{differ}
use Rattle.credit_receiving.proofs.Addressed.{addressed_id}

-- The refusal that an answer is.
abbrev refusal_said : calls.Answer Unit credit.Refusal → Option rules_answers.Refusal
refusal_said (calls.accepted y) = none
refusal_said (calls.refused (number n)) = some (numbered n)
refusal_said (calls.refused (short n)) = some (needing n)
refusal_said (calls.refused (unread n place)) = some (numbered n)

-- An answer is the refusal that the reply is.
refused_as : (y : Reply) (r : Result Unit ReceiveError) → said r ≡ answer_of y → received_refusal r ≡ credit_refusal y
refused_as y r e = of_answer r ∙ ap refusal_said e ∙ of_reply y
  where
    of_answer : (r : Result Unit ReceiveError) → received_refusal r ≡ refusal_said (said r)
    of_answer (Ok _) = refl
    of_answer (Err (Read (Short n))) = refl
    of_answer (Err (Read (Refused fault))) = refl
    of_answer (Err (Ledger r)) = refl

    of_reply : (y : Reply) → refusal_said (answer_of y) ≡ credit_refusal y
    of_reply (calls.accepted z) = refl
    of_reply (calls.refused (number n)) = refl
    of_reply (calls.refused (short n)) = refl
    of_reply (calls.refused (unread n place)) = refl

-- The frame that was read, and the slots that it was read into.
module _ (s : List ℕ) (limit : ℕ) (t : Frame ≡ told (read_frame s limit)) where
  abbrev pub read_frame_lem : Fields Place
  read_frame_lem = (frame_told (read_frame s limit) t).0

  is_read : read_frame s limit ≡ rules.frame read_frame_lem
  is_read = sym (frame_told (read_frame s limit) t).1

  pub its_slots : (z new : List ℕ) → new ≡ flat.slots_after z (read_frame s limit) → new ≡ flat_frame read_frame_lem
  its_slots z new h = slots_told read_frame_lem (read_frame s limit) z new (sym is_read) h

module _ (l s : List ℕ) (limit : ℕ) (old : List ℕ) where
  abbrev reply : Reply
  reply = answer l (received s limit)

  -- The answer, the ledger, the slots and the refusal that the contract asks for.
  abbrev pub Answers : Result Unit ReceiveError → List ℕ → List ℕ → Type 0
  Answers r l' new = (said r ≡ answer_of reply) × ((l' ≡ after l (received s limit)) × ((new ≡ slots_after old reply) × (received_refusal r ≡ credit_refusal reply)))

  answers_all : (r : Result Unit ReceiveError) (l' new : List ℕ) → (said r ≡ answer_of reply) × ((l' ≡ after l (received s limit)) × (new ≡ slots_after old reply)) → Answers r l' new
  answers_all r l' new a = (a.0, (a.1.0, (a.1.1, refused_as reply r a.0)))

  -- A frame that was read.
  module _ (t : Frame ≡ told (read_frame s limit)) (o : Option ℕ) (l' : List ℕ) (a : o ≡ addressed s) (q : l' ≡ spent l o) where
    abbrev f : Fields Place
    f = read_frame_lem s limit t

    read : read_frame s limit ≡ rules.frame f
    read = is_read s limit t

    -- The ledger has a credit for it, or it needs none.
    pub handed : (new : List ℕ) → new ≡ slots_after old (calls.accepted (frame f)) → none ≡ refusal_for l o → Answers (Ok tt) l' new
    handed new w h = answers_all (Ok tt) l' new (rw (read, addressed_id s limit f read ∙ sym a) (by o h q))
      where
        by : (o : Option ℕ) → none ≡ refusal_for l o → l' ≡ spent l o → (said (Ok tt) ≡ answer_of (answer_to number l (act_on_frame o f))) × ((l' ≡ ledger_after l (act_on_frame o f)) × (new ≡ slots_after old (answer_to number l (act_on_frame o f))))
        by none h q = (refl, (q, w))
        by (some i) h q = (ap (λ (x : Option ℕ). answer_of (answer_by number x (frame f))) h, (q, w ∙ ap (λ (x : Option ℕ). slots_after old (answer_by number x (frame f))) h))

    -- The ledger refuses it.
    pub refused : (new : List ℕ) (k : protocol.Refusal) → new ≡ slots_after old (calls.refused (number (number_of k))) → some (number_of k) ≡ refusal_for l o → Answers (Err (Ledger k)) l' new
    refused new k w p = answers_all (Err (Ledger k)) l' new (rw (read, addressed_id s limit f read ∙ sym a) (by o p q))
      where
        by : (o : Option ℕ) → some (number_of k) ≡ refusal_for l o → l' ≡ spent l o → (said (Err (Ledger k)) ≡ answer_of (answer_to number l (act_on_frame o f))) × ((l' ≡ ledger_after l (act_on_frame o f)) × (new ≡ slots_after old (answer_to number l (act_on_frame o f))))
        by none p q = absurd (differ (ap admitted p))
        by (some i) p q = (ap (λ (x : Option ℕ). answer_of (answer_by number x (frame f))) p, (q, w ∙ ap (λ (x : Option ℕ). slots_after old (answer_by number x (frame f))) p))

-- What the ledger has a credit for, it does not refuse.
pub not_refused : (l : List ℕ) (o : Option ℕ) (n : ℕ) → affords l o ≡ true → some n ≡ refusal_for l o → ⊥
not_refused l o n h p = differ (ap admitted p ∙ h)

-- And what it has none for, it does.
pub not_spent : (l : List ℕ) (o : Option ℕ) → affords l o ≡ false → none ≡ refusal_for l o → ⊥
not_spent l o h p = differ (sym h ∙ sym (ap admitted p))
