-- A received frame is accepted only if it is read and the ledger does not refuse it, and then the frame is what is handed back. Assumes
-- nothing.
use mathlib.Core.Path.{◌≡◌, refl, ap, ◌∙◌}
use mathlib.Core.List.{List}
use mathlib.Core.Option.{Option, none, some}
use Prim.Native.Nat.{ℕ}
use Rattle.protocol.specs.Fields.{Fields}
use Rattle.protocol.specs.declared.place.Place.{Place}
use Rattle.rules.specs.Reading.{read_frame}
use Rattle.rules.specs.Reading as rules
use Rattle.ledger.specs.Calls.{refused, Accepted, answer_by}
use Rattle.ledger.specs.Rules.{refusal, entry_at, answer_to}
use Rattle.slots.specs.Flat as flat
use Rattle.credit_ledger.specs.Calls.{received, frame, Refusal, number, short, unread, Reply, deliver_id}
use Rattle.credit_ledger.specs.Step.{spend, answer, act_on_frame, act_on_reading}
use Rattle.credit_receiving.specs.Answer.{slots_after}
use Rattle.credit_receiving.specs.Slots.{ReceivedAsRead}

module _ (l : List ℕ) where
  -- The answer to what was received, by what reading gives.
  abbrev reply : rules.Reading → Reply
  reply x = answer_to number l (act_on_reading x)

  is_read : (x : rules.Reading) → Accepted (reply x) → (f : Fields Place) × (x ≡ rules.frame f)
  is_read (rules.frame f) a = (f, refl)
  is_read (rules.short needed) a = absurd a
  is_read (rules.refusal n place) a = absurd a

  handed_over : (old : List ℕ) (x : rules.Reading) → Accepted (reply x) → slots_after old (reply x) ≡ flat.slots_after old x
  handed_over old (rules.frame f) a = by (deliver_id f) a
    where
      with_credit : (o : Option ℕ) → Accepted {R = Refusal} (answer_by number o (frame f)) → slots_after old (answer_by number o (frame f)) ≡ flat.slots_after old (rules.frame f)
      with_credit none a = refl
      with_credit (some n) a = absurd a

      by : (o : Option ℕ) → Accepted (answer_to number l (act_on_frame o f)) → slots_after old (answer_to number l (act_on_frame o f)) ≡ flat.slots_after old (rules.frame f)
      by none a = refl
      by (some i) a = with_credit (refusal spend (entry_at l i)) a
  handed_over old (rules.short needed) a = absurd a
  handed_over old (rules.refusal n place) a = absurd a

kept : (old : List ℕ) (y : Reply) (r : Refusal) → y ≡ refused r → slots_after old y ≡ old
kept old y r e = ap (slots_after old) e ∙ by r
  where
    by : (r : Refusal) → slots_after old (refused r) ≡ old
    by (number n) = refl
    by (short needed) = refl
    by (unread n place) = refl

pub received_as_read : ReceivedAsRead
received_as_read l s limit old =
    record {
      is_read = is_read l (read_frame s limit);
      handed_over = handed_over l old (read_frame s limit);
      kept = kept old (answer l (received s limit));
    }
