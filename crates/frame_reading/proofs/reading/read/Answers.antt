-- The checks in their order.
use Rattle.std.proofs.Common.{refl, ◌∙◌, sym, ◌+◌, Err}
use Rattle.rules.specs.Reading.{read_frame}
use Rattle.frame_reading.specs.declared.reading.ReadError.TheVariants.{Short}
use Rattle.frame_reading.proofs.Contents.{answered}
use Rattle.frame_reading.proofs.Sizes.{cut, size_cut, too_large, too_small, whole}
use Rattle.frame_reading.proofs.Told.{refused_as_read}
use Rattle.frame_reading.proofs.reading.read.Goals as goal

pub returns-then-bytes-lt4 : goal.returns-then-bytes-lt4
returns-then-bytes-lt4 c =
    let a = c.args in
    let r = answered _ (read_frame a.bytes.now a.limit) a.slots.now _ _ (size_cut a.bytes.now a.limit c.if-bytes-lt4.true) (refl, refl) in
    record { value = r.0; slots_after = r.1; refusal = refused_as_read {A = Unit} (Err (Short 4)) _ r.0 }

pub returns-then-over_limit : goal.returns-then-over_limit
returns-then-over_limit c =
    let a = c.args in
    let r = answered _ (read_frame a.bytes.now a.limit) a.slots.now _ _ (too_large a.bytes.now a.limit _ c.head_of-size.ensures c.if-bytes-lt4.false (sym c.over_limit.ensures ∙ c.if-over_limit.true)) (c.refused.ensures, refl) in
    record { value = r.0; slots_after = r.1; refusal = refused_as_read c.refused.result _ r.0 }

pub returns-then-size-lt4 : goal.returns-then-size-lt4
returns-then-size-lt4 c =
    let a = c.args in
    let r = answered _ (read_frame a.bytes.now a.limit) a.slots.now _ _ (too_small a.bytes.now a.limit _ c.head_of-size.ensures c.if-bytes-lt4.false (sym c.over_limit.ensures ∙ c.if-over_limit.false) c.if-size-lt4.true) (c.refused-then-size-lt4.ensures, refl) in
    record { value = r.0; slots_after = r.1; refusal = refused_as_read c.refused-then-size-lt4.result _ r.0 }

pub returns-then-bytes-end : goal.returns-then-bytes-end
returns-then-bytes-end c =
    let a = c.args in
    let r = answered _ (read_frame a.bytes.now a.limit) a.slots.now _ _ (cut a.bytes.now a.limit _ c.head_of-size.ensures c.if-bytes-lt4.false (sym c.over_limit.ensures ∙ c.if-over_limit.false) c.if-size-lt4.false c.if-bytes-end.true) (refl, refl) in
    record { value = r.0; slots_after = r.1; refusal = refused_as_read {A = Unit} (Err (Short (c.head_of-size.result.size + 4))) _ r.0 }

pub returns : goal.returns
returns c =
    let a = c.args in
    let r = answered _ (read_frame a.bytes.now a.limit) a.slots.now _ _ (whole a.bytes.now a.limit _ c.head_of-size.ensures c.if-bytes-lt4.false (sym c.over_limit.ensures ∙ c.if-over_limit.false) c.if-size-lt4.false _ _ refl c.if-bytes-end.false c.head_of-head.ensures) (c.read_whole.ensures.value, c.read_whole.ensures.slots_after) in
    record { value = r.0; slots_after = r.1; refusal = refused_as_read c.read_whole.result _ r.0 }
