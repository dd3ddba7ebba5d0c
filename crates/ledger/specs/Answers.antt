-- What the answers of the code say in the terms of the rules.
use Rattle.std.specs.Prelude.{ℕ, Bool, true, false, Result, Ok, Err, Some, None}
use Rattle.std.specs.Prelude as std
use Rattle.std.proofs.Math.Option.{Option, none, some}
use Rattle.protocol.specs.Refusals as refusals
use Rattle.protocol.specs.declared.refusal.Refusal.{Refusal}
use Rattle.ledger.specs.Rules.{Entry, closed, opened}

-- The refusal number, if it is one.
abbrev pub number_of : Result Unit Refusal → Option ℕ
number_of (Ok a) = none
number_of (Err r) = some (refusals.number_of r)

-- The same of a taking, where `short` is the number for a balance that does not cover it.
abbrev pub number_taken : ℕ → Result Bool Refusal → Option ℕ
number_taken short (Ok true) = none
number_taken short (Ok false) = some short
number_taken short (Err r) = some (refusals.number_of r)

-- What an id's balance says, or that it has none.
abbrev pub entry_of : std.Option ℕ → Entry
entry_of None = closed
entry_of (Some b) = opened b
