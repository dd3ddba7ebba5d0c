-- The chunk's header is there, and so are the one or two numbers before it. So a chunk that is refused is the content's refusal,
-- and every number is that of its bytes.
use Rattle.std.proofs.Common.{◌≡◌, refl, ◌∙◌, sym, ap, ℕ, ◌+◌, Some, arith}
use Rattle.wire.specs.Integers.{Bytes}
use Rattle.wire.specs.Signed.{signed}
use Rattle.rules.specs.Reading.{read_chunk}
use Rattle.byte_strings.specs.Stops.{stop_at}
use Rattle.byte_strings.proofs.Stops.{refused_at}
use Rattle.chunks.proofs.Chunks.{whole}
use Rattle.slots.specs.Flat.{bits, padded}
use Rattle.fast_reading.specs.Chunk.{chunk_at}
use Rattle.fast_reading.proofs.Chunks.{header_slots}
use Rattle.fast_reading.proofs.Delivers.{first_row, refused_row, second, second_row}
use Rattle.fast_reading.proofs.Rows.{below}
use Rattle.fast_reading.proofs.consuming.deliver.Goals as goal

pub returns-in-Err : goal.returns-in-Err
unfolding Bytes
returns-in-Err c =
    let a = c.args in
    refused_row a.s.now a.slots.now (λ i. omega (arith, c.type_inv.s i)) a.version _ (sym c.in_ok-at.was ∙ c.chunk_place.ensures) (omega arith) c.in-Err.fault (refused_at (read_chunk a.s.now c.in_ok-at.at) c.in-Err.fault c.in-Err.ensures)

pub overflow_cast-number : goal.overflow_cast-number
unfolding Bytes
overflow_cast-number c = omega (arith, below 1 c.args.s.now c.in_ok-at.at _ (λ i. omega (arith, c.type_inv.s i)) c.number.ensures)

pub overflow_cast-number-2 : goal.overflow_cast-number-2
unfolding Bytes
overflow_cast-number-2 c = omega (arith, below 1 c.args.s.now (c.in_ok-at.at + 1) _ (λ i. omega (arith, c.type_inv.s i)) c.number-2.ensures)

pub overflow_cast-number-3 : goal.overflow_cast-number-3
unfolding Bytes
overflow_cast-number-3 c = omega (arith, below 4 c.args.s.now (c.in_ok-at.at + 32) _ (λ i. omega (arith, c.type_inv.s i)) c.number-3.ensures)

pub returns-then-version-eq1 : goal.returns-then-version-eq1
unfolding Bytes padded
returns-then-version-eq1 c =
    let a = c.args in
    let s = a.s.now in
    let at = c.in_ok-at.at in
    let b : Bytes s = λ i. omega (arith, c.type_inv.s i) in
    let h = header_slots s b at _ _ _ _ _ _ _ _ _ _ _ _
    (c.widened8-magic.ensures ∙ ap (λ (x : ℕ). bits (signed 1 x)) c.number.ensures)
    (c.widened8-kind.ensures ∙ ap (λ (x : ℕ). bits (signed 1 x)) c.number-2.ensures)
    c.number-entries.ensures
    c.number-records.ensures
    c.number-timestamp.ensures
    c.number-epoch.ensures
    c.number-first_offset.ensures
    (c.widened32-checksum.ensures ∙ ap (λ (x : ℕ). bits (signed 4 x)) c.number-3.ensures)
    c.number-data_length.ensures
    c.number-trailer_length.ensures
    c.number-bloom_size.ensures
    c.number-reserved.ensures in
    first_row s a.slots.now b a.version at (sym c.in_ok-at.was ∙ c.chunk_place.ensures) (omega arith) _ _ _ _ c.if-version-eq1.true (whole s at (stop_at c.in_default.field-0 0) c.in_default.ensures refl) c.number-subscription_id.ensures c.number-data_length.ensures h

pub returns : goal.returns
unfolding Bytes padded
returns c =
    let a = c.args in
    let s = a.s.now in
    let at = c.in_ok-at.at in
    let b : Bytes s = λ i. omega (arith, c.type_inv.s i) in
    let h = header_slots s b at _ _ _ _ _ _ _ _ _ _ _ _
    (c.widened8-magic.ensures ∙ ap (λ (x : ℕ). bits (signed 1 x)) c.number.ensures)
    (c.widened8-kind.ensures ∙ ap (λ (x : ℕ). bits (signed 1 x)) c.number-2.ensures)
    c.number-entries.ensures
    c.number-records.ensures
    c.number-timestamp.ensures
    c.number-epoch.ensures
    c.number-first_offset.ensures
    (c.widened32-checksum.ensures ∙ ap (λ (x : ℕ). bits (signed 4 x)) c.number-3.ensures)
    c.number-data_length.ensures
    c.number-trailer_length.ensures
    c.number-bloom_size.ensures
    c.number-reserved.ensures in
    let p : Some at ≡ chunk_at a.version = sym c.in_ok-at.was ∙ c.chunk_place.ensures in
    let v = second a.version at p c.if-version-eq1.false in
    second_row s a.slots.now b a.version at p (omega arith) _ _ _ _ _ v.0 v.1 (whole s at (stop_at c.in_default.field-0 0) c.in_default.ensures refl) c.number-subscription_id.ensures c.number-committed_chunk_id.ensures c.number-data_length.ensures h
