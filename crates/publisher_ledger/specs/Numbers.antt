-- The numbers that the publisher ledger refuses with: 13 to 17.
use Rattle.std.specs.Prelude.{List, ℕ}
use Rattle.std.proofs.Math.Option.{Option, none, some}
use Rattle.ledger.specs.Calls.{accepted, refused}
use Rattle.ledger.specs.Numbers.{LedgerNumber, IfNumbered}
use Rattle.publisher_ledger.specs.Calls.{Call, Reply}
use Rattle.publisher_ledger.specs.Step.{answer}

-- The number of a refusal. An accepted answer has none.
abbrev pub refusal_number : Reply → Option ℕ
refusal_number (accepted y) = none
refusal_number (refused n) = some n

-- Of any call, for any contents of the ledger.
abbrev pub PublisherNumbers : Type 0
PublisherNumbers = (l : List ℕ) (c : Call) → IfNumbered LedgerNumber (refusal_number (answer l c))
