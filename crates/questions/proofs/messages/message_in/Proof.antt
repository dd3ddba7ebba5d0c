-- The type has one byte.
use mathlib.Core.Path.{◌∙◌, ap}
use lib.IntN.{ℤ, pos, negsuc}
use mir.Facts.{to_z-of_z}
use mir.Syntax.{w8}
use mir.Val.{SFits}
use borrow.Author.Rules.{sfits_of}
use Rattle.wire.specs.Signed.{Signed, signed, unsigned}
use Rattle.wire.proofs.TwosComplement.{twos_complement}
use Rattle.questions.specs.Questions.{message_of}
use borrow.Author.Rules.{rules}
use Rattle.questions.proofs.messages.message_in.Statement.{statement}
use Rattle.questions.proofs.messages.message_in.Tie as tie

one_byte : (z : ℤ) → SFits w8 z → Signed 1 z
one_byte (pos x) f = f.sfits
one_byte (negsuc k) f = f.sfits

pub message_in_spec : {M : Type 1} → statement M
message_in_spec =
    tie.close
    (tie.spec
    (λ c κs. search rules)
    (λ c. search rules)
    (λ c κs. search rules)
    (λ c.
    let a = c.before.before.before.before.before.before.args in
    let f = sfits_of c.before.before.struct_told-1.given.1.0.1 in
    let z = a.chunk.header.chunk_type in
    let bits = c.before.unsigned-kind.ensures ∙ ap (unsigned 1) (to_z-of_z {w = w8} f) in
    let type = ap (signed 1) bits ∙ (twos_complement 0).signed_unsigned z (one_byte z f) in
    c.message_place.ensures 0 ∙ ap (λ (t : ℤ). message_of a.s.now t a.chunk.header.entries a.chunk.«data» a.index) type))
