-- Demand 2 in one place, clause by clause, in the order of its words.
use Rattle.rules.specs.Exactness.{Exact, NothingBeyond, CutIsRefused, AnswerStays}
use Rattle.rules.specs.RoundTrips.{ReadThenWrite, WriteThenRead, WellFormedIsWritten, RefusedWriteTouchesNothing}

pub record Demand2 : Type 0 where
  -- "A frame is read exactly if it is whole, within the frame limit, and well formed .., and what is read is what the
  -- reference says." What is read is well formed (sound), what is well formed is read as it was encoded (complete), and
  -- every place that is handed out lies within the frame (inside).
  pub exact : Exact
  -- "Under the same limit, writing a frame that was read, into enough room, gives the same bytes back ..
  pub read_then_write : ReadThenWrite
  -- .. and reading a frame that was written gives the same fields."
  pub write_then_read : WriteThenRead
  -- "Nothing beyond the declared size plays any part."
  pub nothing_beyond : NothingBeyond
  -- What follows, for a frame of which only a part is there: it is refused with 1, never read.
  pub cut_is_refused : CutIsRefused
  -- Any other answer is final: bytes that follow do not change it.
  pub answer_stays : AnswerStays
  -- Writing refuses no well-formed frame, and where it refuses, the output is as it was.
  pub well_formed_is_written : WellFormedIsWritten
  pub refused_write_touches_nothing : RefusedWriteTouchesNothing
