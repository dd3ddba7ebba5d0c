-- The numbers that a ledger refuses with: 13 to 17 (01 "Refusal numbers").
use Rattle.std.proofs.Math.Option.{Option, none, some}
use Rattle.std.specs.Prelude.{ℕ, ◌≤◌}
use Rattle.ledger.specs.Calls.{Op, start, add, take, stop}
use Rattle.ledger.specs.Rules.{Entry, refusal}

abbrev pub LedgerNumber : ℕ → Type 0
LedgerNumber n = (13 ≤ n) × (n ≤ 17)

abbrev pub IfNumbered : (ℕ → Type 0) → Option ℕ → Type 0
IfNumbered P none = Unit
IfNumbered P (some n) = P n

-- What a call asks names such a number itself, where it names one.
abbrev pub Names : Op → Type 0
Names (start c) = Unit
Names (add n) = Unit
Names (take n k) = LedgerNumber k
Names stop = Unit

-- Whatever a call asks of an id, and whatever the ledger has of it.
abbrev pub LedgerNumbers : Type 0
LedgerNumbers = (op : Op) (e : Entry) → Names op → IfNumbered LedgerNumber (refusal op e)
