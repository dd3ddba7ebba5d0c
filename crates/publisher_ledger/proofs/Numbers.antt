-- A call asks one thing of an id, and is refused with the ledger's numbers. Assumes nothing.
use mathlib.Core.List.{List}
use mathlib.Core.Option.{Option, none, some}
use Prim.Native.Nat.{ℕ}
use native.Mathlib.Omega.{arith}
use Rattle.ledger.specs.Calls.{answer_by}
use Rattle.ledger.specs.Numbers.{LedgerNumber, IfNumbered, Names}
use Rattle.ledger.specs.Rules.{Act, aside, at, refusal, entry_at, answer_to}
use Rattle.ledger.proofs.Numbers.{ledger_numbers}
use Rattle.publisher_ledger.specs.Calls.{Call, declaration, deletion, sending, confirming}
use Rattle.publisher_ledger.specs.Numbers.{refusal_number, PublisherNumbers}
use Rattle.publisher_ledger.specs.Step.{act}

by_number : (o : Option ℕ) → IfNumbered LedgerNumber o → IfNumbered LedgerNumber (refusal_number (answer_by (λ n. n) o tt))
by_number none h = tt
by_number (some n) h = h

-- What a call asks names a number of the ledger's, where it names one.
abbrev Asks : Act Unit ℕ → Type 0
Asks (aside a) = ⊥
Asks (at i op y) = Names op

asked : (l : List ℕ) (a : Act Unit ℕ) → Asks a → IfNumbered LedgerNumber (refusal_number (answer_to (λ n. n) l a))
asked l (aside a) h = absurd h
asked l (at i op tt) h = by_number (refusal op (entry_at l i)) (ledger_numbers op (entry_at l i) h)

asks : (c : Call) → Asks (act c)
asks (declaration i) = tt
asks (deletion i) = tt
asks (sending i n) = tt
asks (confirming i n) = (omega arith, omega arith)

pub publisher_numbers : PublisherNumbers
publisher_numbers l c = asked l (act c) (asks c)
