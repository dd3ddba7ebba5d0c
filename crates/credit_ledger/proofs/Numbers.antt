-- A call asks one thing of an id, and is refused with the ledger's numbers; a received frame is refused by reading first. Assumes
-- nothing.
use mathlib.Core.List.{List}
use mathlib.Core.Logic.{◌⊎◌, inl, inr}
use mathlib.Core.Option.{Option, none, some}
use Prim.Native.Nat.{ℕ}
use native.Mathlib.Omega.{arith}
use Rattle.protocol.specs.Fields.{Fields}
use Rattle.protocol.specs.declared.place.Place.{Place}
use Rattle.rules.specs.Answers.{Refusal, reading_refusal, IfRefused, ReadingNumber}
use Rattle.rules.specs.Reading.{Reading, frame, short, refusal, read_frame}
use Rattle.rules.proofs.RefusalNumbers.{numbers}
use Rattle.ledger.specs.Calls.{Op, start, add, stop, answer_by}
use Rattle.ledger.specs.Numbers.{LedgerNumber, IfNumbered, Names}
use Rattle.ledger.specs.Rules.{entry_at, answer_to}
use Rattle.ledger.specs.Rules as ledger
use Rattle.ledger.proofs.Numbers.{ledger_numbers}
use Rattle.credit_ledger.specs.Calls.{Yield, nothing, number, deliver_id}
use Rattle.credit_ledger.specs.Calls as credit
use Rattle.credit_ledger.specs.Numbers.{credit_refusal, CreditNumbers}
use Rattle.credit_ledger.specs.Step.{spend, act_on_frame, act_on_reading}

module _ (P : Refusal → Type 0) (of_ledger : (r : Refusal) → LedgerNumber r.number → P r) where
  by_number : (o : Option ℕ) (y : Yield) → IfNumbered LedgerNumber o → IfRefused P (credit_refusal (answer_by number o y))
  by_number none y h = tt
  by_number (some n) y h = of_ledger _ h

  asked : (l : List ℕ) (i : ℕ) (op : Op) (y : Yield) → Names op → IfRefused P (credit_refusal (answer_by number (ledger.refusal op (entry_at l i)) y))
  asked l i op y h = by_number (ledger.refusal op (entry_at l i)) y (ledger_numbers op (entry_at l i) h)

abbrev Either : Refusal → Type 0
Either r = ReadingNumber r ⊎ LedgerNumber r.number

frame_read : (l : List ℕ) (f : Fields Place) (o : Option ℕ) → IfRefused Either (credit_refusal (answer_to number l (act_on_frame o f)))
frame_read l f none = tt
frame_read l f (some i) = asked Either (λ r h. inr h) l i spend (credit.frame f) (omega arith, omega arith)

received : (l : List ℕ) (x : Reading) → IfRefused ReadingNumber (reading_refusal x) → IfRefused Either (credit_refusal (answer_to number l (act_on_reading x)))
received l (frame f) h = frame_read l f (deliver_id f)
received l (short n) h = inl h
received l (refusal n place) h = inl h

pub credit_numbers : CreditNumbers
credit_numbers =
    record {
      openings = λ l i c. asked (λ r. LedgerNumber r.number) (λ r h. h) l i (start c) nothing tt;
      grants = λ l i n. asked (λ r. LedgerNumber r.number) (λ r h. h) l i (add n) nothing tt;
      closings = λ l i. asked (λ r. LedgerNumber r.number) (λ r h. h) l i stop nothing tt;
      received_frames = λ l s limit b. received l (read_frame s limit) (numbers.reading s limit b);
    }
