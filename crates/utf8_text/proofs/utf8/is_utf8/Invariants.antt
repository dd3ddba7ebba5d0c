-- What has to follow the whole text is what has to follow the rest of it after the state reached.
use Rattle.std.proofs.Common.{◌≡◌, [], drop, Some}
use Rattle.std.proofs.Math.Option.{some}
use Rattle.utf8_text.specs.Utf8.{following, expects}
use Rattle.utf8_text.proofs.utf8.is_utf8.Given as goal

abbrev pub invariant-loop-b : goal.invariant-loop-b
invariant-loop-b l = following (some []) l.s ≡ following (expects (Some l.p)) (drop l.b-index l.s)
