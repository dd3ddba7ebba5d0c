-- The calls of the publisher ledger with all their arguments (01 "Ledgers").
use Rattle.std.specs.Prelude.{ℕ}
use Rattle.ledger.specs.Calls.{Answer}

-- A declaration of an id, a deletion, n messages sent, and n messages confirmed or in error.
pub data Call : Type 0 where
  declaration : ℕ → Call
  deletion : ℕ → Call
  sending : ℕ → ℕ → Call
  confirming : ℕ → ℕ → Call

-- An accepted call hands back nothing, a refused one the number.
abbrev pub Reply : Type 0
Reply = Answer Unit ℕ
