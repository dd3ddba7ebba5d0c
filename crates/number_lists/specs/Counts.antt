-- The count in front of a list that is read.
use Rattle.std.specs.Prelude.{ℕ, ◌+◌, Result, Ok, Err}
use Rattle.protocol.specs.Refusals.{number_of}
use Rattle.rules.specs.Outcome.{Outcome, got, refused}
use Rattle.byte_strings.specs.declared.fault.Fault.{Fault}

-- What is read at a place, where the code says that it is so many elements, or why it is none.
abbrev pub counted : ℕ → Result ℕ Fault → Outcome ℕ
counted at (Ok n) = got n (at + 4)
counted at (Err fault) = refused (number_of fault.refusal) fault.at
