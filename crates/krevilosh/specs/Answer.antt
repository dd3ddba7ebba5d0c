-- What the functions that the host calls hand back: one number whose low 8 bits are the refusal's number, 0 where the call
-- is accepted, with what else there is to say above them.
use Rattle.std.proofs.Math.Option.{Option, none, some}
use Rattle.std.specs.Prelude.{ℕ, ◌+◌, ◌*◌, ◌≤◌}
use Rattle.rules.specs.Answers.{Refusal, numbered}
use Rattle.rules.specs.Writing.{Written, length}
use Rattle.rules.specs.Writing as writing
use Rattle.chunk_reader.specs.declared.spot.Found.{Found}
use Rattle.chunk_reader.specs.declared.spot.Found.TheVariants.{Ready, Message, Done, Refused}

abbrev pub answer : ℕ → ℕ → ℕ
answer number value = number + 256 * value

-- A number; 0 where there is none.
abbrev pub or_zero : Option ℕ → ℕ
or_zero none = 0
or_zero (some n) = n

-- The bytes needed stand above the number, where a refusal has them.
abbrev pub with_needed : ℕ → Option ℕ → ℕ
with_needed number none = number
with_needed number (some needed) = answer number needed

abbrev pub refusal_answer : Option Refusal → ℕ
refusal_answer none = 0
refusal_answer (some r) = with_needed r.number r.needed

-- What a frame of any length needs fits the bits above the number.
abbrev pub FitsAbove : Option ℕ → Type 0
FitsAbove none = Unit
FitsAbove (some needed) = needed ≤ 4294967299

abbrev pub NeededFits : Option Refusal → Type 0
NeededFits none = Unit
NeededFits (some r) = FitsAbove r.needed

-- An accepted write comes with the frame's length.
abbrev pub written_answer : Written → ℕ
written_answer (length n) = answer 0 n
written_answer (writing.refusal n) = refusal_answer (some (numbered n))

-- The length of any frame fits those bits too.
abbrev pub LengthFits : Written → Type 0
LengthFits (length n) = n ≤ 4294967299
LengthFits (writing.refusal n) = Unit

-- The next entry comes with a 1, which tells it from the end.
abbrev pub next_answer : Found → ℕ
next_answer Ready = 0
next_answer (Message m) = answer 0 1
next_answer Done = 0
next_answer (Refused n) = n
