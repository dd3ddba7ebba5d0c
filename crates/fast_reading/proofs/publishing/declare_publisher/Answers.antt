-- Two numbers, then a reference, and a text that ends with the content.
use Rattle.std.proofs.Common.{◌≡◌, refl, true, false, [], ◌∷◌, List, ℕ, Some, Ok, ◌+◌, ◌-◌, ◌≤◌, eqb, length, arith}
use borrow.Author.Tests.{ne_eqb}
use Rattle.wire.specs.Integers.{Bytes, big_endian}
use Rattle.protocol.specs.Table.{table, row_in}
use Rattle.protocol.specs.declared.kind.Form.TheVariants.{Text, Reference}
use Rattle.rules.specs.Reading.{read_layout}
use Rattle.byte_strings.proofs.PlainEnds.{StringAt, string_at}
use Rattle.slots.specs.Flat.{null_length, padded}
use Rattle.fast_reading.specs.Answer.{Answers}
use Rattle.fast_reading.proofs.Rows.{reads, done, link, unsigned_read}
use Rattle.fast_reading.proofs.publishing.declare_publisher.Goals as goal

row : (s old : List ℕ) (a p r e : ℕ) → Bytes s → 5 ≤ length s → a ≡ big_endian 4 s 0 → p ≡ big_endian 1 s 4 → StringAt Reference s 5 r → StringAt Text s r e → e ≡ length s → Answers (read_layout 0x0001 1 s) old (Some (Ok tt)) (padded 24 (0x0001 ∷ 1 ∷ a ∷ p ∷ 15 ∷ (r - 7) ∷ (r + 10) ∷ (e - r - 2) ∷ []))
unfolding table row_in
row s old a p r e b l i j t u k =
    let f : r + 10 ≡ 8 + (r + 2) = omega arith in
    let g : e - r - 2 ≡ e - (r + 2) = omega arith in
    let n : eqb (r - 7) null_length ≡ false = ne_eqb (r - 7) null_length (λ z. omega (arith, z, t.short, t.behind)) in
    reads 0x0001 1 old _ refl
    (link (unsigned_read s b 4 0xffff_ffff 0 4 refl refl (omega arith))
    (link (unsigned_read s b 1 0xff 4 5 refl refl l)
    (link (t.read true)
    (link (u.read false) done))))
    k
    (rw (i, j, f, g, n))

pub overflow_sub-reference_len : goal.overflow_sub-reference_len
overflow_sub-reference_len c = omega (arith, (string_at Reference c.args.s.now 5 _ c.in_ok-stream.ensures).behind)

pub overflow_sub-stream_len : goal.overflow_sub-stream_len
overflow_sub-stream_len c = omega (arith, (string_at Text c.args.s.now _ _ c.in_ok-end.ensures).behind)

pub overflow_sub-stream_len-2 : goal.overflow_sub-stream_len-2
overflow_sub-stream_len-2 c = omega (arith, (string_at Text c.args.s.now _ _ c.in_ok-end.ensures).behind)

pub overflow_add-stream : goal.overflow_add-stream
overflow_add-stream c =
    let t = string_at Reference c.args.s.now 5 _ c.in_ok-stream.ensures in
    omega (arith, t.behind, t.short)

pub returns : goal.returns
unfolding Bytes
returns c =
    let a = c.args in
    let t = string_at Reference a.s.now 5 _ c.in_ok-stream.ensures in
    let u = string_at Text a.s.now _ _ c.in_ok-end.ensures in
    rw c.filled.ensures (row a.s.now a.slots.now _ _ _ _ (λ i. omega (arith, c.type_inv.s i)) c.if-s-lt5.false c.number-correlation_id.ensures c.number-publisher_id.ensures t u c.if-end-s.false)
