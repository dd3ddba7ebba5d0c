-- One byte more, and how many there are.
use Rattle.std.proofs.Common.{ℕ, ◌<◌, length, ap₂, ◌∙◌, ◌*◌, ◌+◌, arith}
use Rattle.test_text.specs.Digits.{octets}
use Rattle.test_text.proofs.Octets.{length_octets, octet_at, put_more}
use Rattle.test_text.proofs.digits.unhex.Goals as goal

pub loop-i-preserved : goal.loop-i-preserved
loop-i-preserved c =
    let text = c.args.text.now in
    let i = c.loop-i.i in
    let there : i < length (octets text) = omega (arith, length_octets text) in
    let octet = ap₂ (λ (x y : ℕ). x * 16 + y) c.digit.ensures.value c.digit-in-loop-i.ensures.value ∙ octet_at text i (omega arith) in
    put_more c.args.out.now (octets text) _ i _ (omega arith) there c.loop-i.invariant octet

pub returns-clause-value : goal.returns-clause-value
returns-clause-value c = omega (arith, length_octets c.args.text.now)
