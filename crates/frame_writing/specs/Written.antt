-- The answers of writing in the terms of the rules.
use Rattle.std.specs.Prelude.{List, ℕ, Result}
use Rattle.protocol.specs.declared.refusal.Refusal.{Refusal}
use Rattle.rules.specs.Writing.{Writing}
use Rattle.fields.specs.Passes.{length_told}

-- What an answer says, with what the output holds: the frame's length, or a refusal's number.
abbrev pub writing_of : Result ℕ Refusal → List ℕ → Writing
writing_of r out = record { answer = length_told r; out = out }
