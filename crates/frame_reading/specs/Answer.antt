-- What reading into slots answers: whether there is a frame, refusal 1 with the bytes needed, or another refusal's number and
-- place. What the slots then hold is `slots_after` (`slots`, specs/Flat.antt).
use Rattle.std.specs.Prelude.{ℕ, Result, Ok, Err}
use Rattle.std.proofs.Math.Option.{Option, none, some}
use Rattle.protocol.specs.Refusals.{number_of}
use Rattle.rules.specs.Answers.{Refusal, numbered, needing}
use Rattle.rules.specs.Reading.{Reading, frame, short, refusal}
use Rattle.frame_reading.specs.declared.reading.ReadError.{ReadError}
use Rattle.frame_reading.specs.declared.reading.ReadError.TheVariants as code

pub data FrameRead : Type 0 where
  Frame : FrameRead
  Short : ℕ → FrameRead
  Refused : ℕ → ℕ → FrameRead

abbrev pub told : Reading → FrameRead
told (frame f) = Frame
told (short needed) = Short needed
told (refusal n place) = Refused n place

-- What the code's answer says.
abbrev pub said : {A : Type 0} → Result A ReadError → FrameRead
said (Ok read) = Frame
said (Err (code.Short needed)) = Short needed
said (Err (code.Refused fault)) = Refused (number_of fault.refusal) fault.at

-- The refusal that each answer is, in 01's terms.
abbrev pub refusal_in : ReadError → Refusal
refusal_in (code.Short needed) = needing needed
refusal_in (code.Refused fault) = numbered (number_of fault.refusal)

abbrev pub refusal_of : {A : Type 0} → Result A ReadError → Option Refusal
refusal_of (Ok read) = none
refusal_of (Err error) = some (refusal_in error)
