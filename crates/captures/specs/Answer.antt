-- What the code tells of what comes next: of a frame its length. Its fields are in the slots.
use Rattle.std.specs.Prelude.{ℕ}
use Rattle.protocol.specs.Refusals.{number_of}
use Rattle.captures.specs.Following as following
use Rattle.captures.specs.declared.walker.Next.{Next}
use Rattle.captures.specs.declared.walker.Next.TheVariants as code

pub data Told : Type 0 where
  Frame : ℕ → Told
  Whole : Told
  Cut : ℕ → ℕ → Told
  Refused : ℕ → Told
  More : Told

abbrev pub told : following.Next → Told
told (following.framed f len) = Frame len
told following.whole = Whole
told (following.cut left needed) = Cut left needed
told (following.refused number) = Refused number
told following.more = More

-- What the code's answer says.
abbrev pub said : Next → Told
said (code.Frame len) = Frame len
said code.Whole = Whole
said (code.Cut left needed) = Cut left needed
said (code.Refused refusal) = Refused (number_of refusal)
said code.More = More
