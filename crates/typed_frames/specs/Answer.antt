-- The answers of typed reading in the terms of the rules.
use Rattle.std.specs.Prelude.{Result, Ok, Err}
use Rattle.protocol.specs.Frames.{fields_of}
use Rattle.protocol.specs.Refusals.{number_of}
use Rattle.protocol.specs.declared.frame.Frame.{Frame}
use Rattle.rules.specs.Reading.{Reading, frame, short, refusal}
use Rattle.frame_reading.specs.declared.reading.ReadError.{ReadError}
use Rattle.frame_reading.specs.declared.reading.ReadError.TheVariants.{Short, Refused}

-- What each answer says: the frame's fields; refusal 1 with the bytes needed; another refusal's number and place.
abbrev pub answer_of : Result Frame ReadError → Reading
answer_of (Ok f) = frame (fields_of f)
answer_of (Err (Short needed)) = short needed
answer_of (Err (Refused fault)) = refusal (number_of fault.refusal) fault.at
