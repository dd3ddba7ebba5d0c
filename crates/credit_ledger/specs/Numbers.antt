-- The answers of the credit ledger in 01's terms, and the numbers that can occur: the ledger's own are 13 to 17; a received frame
-- that is not read has reading's.
use Rattle.std.specs.Prelude.{List, ◌⊎◌, ℕ}
use Rattle.std.proofs.Math.Option.{Option, none, some}
use Rattle.wire.specs.Integers.{Bytes}
use Rattle.rules.specs.Answers.{Refusal, numbered, needing, IfRefused, ReadingNumber}
use Rattle.ledger.specs.Calls.{accepted, refused}
use Rattle.ledger.specs.Numbers.{LedgerNumber}
use Rattle.credit_ledger.specs.Calls.{opening, grant, closing, received, number, short, unread, Reply}
use Rattle.credit_ledger.specs.Step.{answer}

-- The refusal that an answer is. An accepted one is none.
abbrev pub credit_refusal : Reply → Option Refusal
credit_refusal (accepted y) = none
credit_refusal (refused (number n)) = some (numbered n)
credit_refusal (refused (short n)) = some (needing n)
credit_refusal (refused (unread n place)) = some (numbered n)

-- For any contents of the ledger.
pub record CreditNumbers : Type 0 where
  pub openings : (l : List ℕ) (i c : ℕ) → IfRefused (λ r. LedgerNumber r.number) (credit_refusal (answer l (opening i c)))
  pub grants : (l : List ℕ) (i n : ℕ) → IfRefused (λ r. LedgerNumber r.number) (credit_refusal (answer l (grant i n)))
  pub closings : (l : List ℕ) (i : ℕ) → IfRefused (λ r. LedgerNumber r.number) (credit_refusal (answer l (closing i)))
  pub received_frames : (l s : List ℕ) (limit : ℕ) → Bytes s
      → IfRefused (λ r. ReadingNumber r ⊎ LedgerNumber r.number) (credit_refusal (answer l (received s limit)))
