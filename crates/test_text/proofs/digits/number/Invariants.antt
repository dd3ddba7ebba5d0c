-- What is left from the place reached makes the value what the whole makes it, modulo 10^10.
use Rattle.std.specs.Prelude.{◌≡◌, ◌%◌, ◌<◌, drop}
use Rattle.test_text.specs.Digits.{number_from, number_in}
use Rattle.test_text.proofs.digits.number.Given as goal

abbrev pub invariant-loop-b : goal.invariant-loop-b
invariant-loop-b l = record {
  small : l.value < 10000000000;
  same : number_in l.text ≡ number_from l.value (drop l.b-index l.text) % 10000000000;
}
