-- Where reading stops, and why nothing is written.
use Rattle.std.specs.Prelude.{ℕ, Option, Some, None, Result, Ok, Err}
use Rattle.protocol.specs.Refusals.{number_of}
use Rattle.rules.specs.Outcome.{Outcome, got, refused}
use Rattle.rules.specs.Writing.{Encoding, wrote, refuse}
use Rattle.byte_strings.specs.declared.fault.Fault.{Fault}

-- After what was read, and then `refused` is 0; or at the place at fault, with the number of the refusal. For fields that are measured
-- the place is a length.
pub record Stop : Type 0 where
  pub at : ℕ
  pub refused : ℕ

abbrev pub stop_at : ℕ → ℕ → Stop
stop_at a n = record { at = a; refused = n }

-- After what was read, with 0; or at the place at fault, with the refusal's number.
abbrev pub stop : {A : Type 0} → Outcome A → Stop
stop (got a next) = stop_at next 0
stop (refused n at) = stop_at at n

-- Where a reader says that it stopped, or one that measures fields.
abbrev pub told : Result ℕ Fault → Stop
told (Ok next) = stop_at next 0
told (Err fault) = stop_at fault.at (number_of fault.refusal)

-- The place after what was read, where nothing is refused.
abbrev pub end_of : {A : Type 0} → Outcome A → Option ℕ
end_of (got a next) = Some next
end_of (refused n at) = None

-- What is read, of which only the end counts, or why it is refused.
abbrev pub only_end : {A : Type 0} → Outcome A → Outcome Unit
only_end (got a next) = got tt next
only_end (refused n at) = refused n at

-- The number with which an encoding is refused; 0 where it is not.
abbrev pub refusal_of : Encoding → ℕ
refusal_of (wrote b) = 0
refusal_of (refuse n) = n
