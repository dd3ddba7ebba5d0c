-- By what key and version pick.
use Rattle.std.proofs.Common.{◌≡◌, refl, ◌∙◌, ap, List, Some, Bor}
use Rattle.protocol.specs.Decision.{Decision, decide, layout, unlisted_key, unlisted_version}
use Rattle.protocol.specs.Refusals.{number_of}
use Rattle.protocol.specs.declared.kind.FieldKind.{FieldKind}
use Rattle.rules.specs.Reading.{read_decided, read_layout}
use Rattle.frame_reading.specs.Answer.{Refused}
use Rattle.frame_reading.proofs.Contents.{answered}
use Rattle.frame_reading.proofs.Sizes.{no_key, no_version}
use Rattle.frame_reading.proofs.reading.read_decided.Goals as goal

pub returns-in-Ok : goal.returns-in-Ok
unfolding read_decided
returns-in-Ok c =
    let a = c.args in
    let e : Some (layout a.key a.version) ≡ Some (decide a.key a.version) = c.in-Ok.ensures.decision in
    let d : layout a.key a.version ≡ decide a.key a.version = cc in
    let r = answered (read_layout a.key a.version a.s.now) (read_decided (decide a.key a.version) a.s.now) a.slots.now _ _ (ap (λ (x : Decision). read_decided x a.s.now) d) (c.read_content.ensures.value, c.read_content.ensures.slots_after) in
    record { value = r.0; slots_after = r.1 }

pub returns-in-UnknownKey : goal.returns-in-UnknownKey
unfolding read_decided
returns-in-UnknownKey c =
    let a = c.args in
    let d = no_key (Bor (List FieldKind)) a.key a.version c.in-Err.refusal (decide a.key a.version) c.in-UnknownKey.is c.in-Err.ensures.decision in
    let r = answered (read_decided unlisted_key a.s.now) (read_decided (decide a.key a.version) a.s.now) a.slots.now _ _ (ap (λ (x : Decision). read_decided x a.s.now) d) (c.refused.ensures ∙ ap (λ w. Refused (number_of w) 4) c.in-UnknownKey.is, refl) in
    record { value = r.0; slots_after = r.1 }

pub returns-in_default : goal.returns-in_default
unfolding read_decided
returns-in_default c =
    let a = c.args in
    let d = no_version (Bor (List FieldKind)) a.key a.version c.in-Err.refusal (decide a.key a.version) c.in_default.not-UnknownKey c.in-Err.ensures.decision in
    let r = answered (read_decided unlisted_version a.s.now) (read_decided (decide a.key a.version) a.s.now) a.slots.now _ _ (ap (λ (x : Decision). read_decided x a.s.now) d.0) (c.refused-in_default.ensures ∙ ap (λ n. Refused n 6) d.1, refl) in
    record { value = r.0; slots_after = r.1 }
