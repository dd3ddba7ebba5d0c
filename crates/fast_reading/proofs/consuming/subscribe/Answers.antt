-- Numbers, a text and an offset, each where the one in front of it ends, then properties that end with the content.
use Rattle.std.proofs.Common.{◌≡◌, refl, ◌∙◌, sym, false, [], ◌∷◌, List, ℕ, Some, Ok, ◌+◌, ◌-◌, ◌≤◌, length, arith}
use Rattle.wire.specs.Integers.{Bytes, big_endian}
use Rattle.protocol.specs.Kinds.{element_row, list, plain}
use Rattle.protocol.specs.Table.{table, row_in}
use Rattle.protocol.specs.declared.kind.Element.TheVariants.{Property}
use Rattle.protocol.specs.declared.kind.Form.TheVariants.{Text}
use Rattle.rules.specs.Reading.{read_field, read_layout}
use Rattle.byte_strings.specs.Stops.{stop, stop_at}
use Rattle.byte_strings.proofs.PlainEnds.{StringAt, string_at}
use Rattle.slots.specs.Flat.{padded}
use Rattle.fast_reading.specs.Answer.{Answers}
use Rattle.fast_reading.proofs.Rows.{reads, done, link, unsigned_read, ended_at, list_read, offset_read}
use Rattle.fast_reading.proofs.consuming.subscribe.Goals as goal

row : (s old : List ℕ) (a p r k v n m e : ℕ) → Bytes s → 5 ≤ length s → a ≡ big_endian 4 s 0 → p ≡ big_endian 1 s 4 → StringAt Text s 5 r → 16 ≤ length s - r → k ≡ big_endian 2 s r → k ≡ 4 → v ≡ big_endian 8 s (r + 2) → n ≡ big_endian 2 s (r + 10) → m ≡ big_endian 4 s (r + 12) → stop_at e 0 ≡ stop (read_field (list plain (element_row Property)) s (r + 12)) → e ≡ length s → Answers (read_layout 0x0007 1 s) old (Some (Ok tt)) (padded 24 (0x0007 ∷ 1 ∷ a ∷ p ∷ 15 ∷ (r - 7) ∷ 4 ∷ v ∷ n ∷ m ∷ (r + 16 + 8) ∷ (length s - (r + 16)) ∷ []))
unfolding table row_in
row s old a p r k v n m e b l i j t h x y z u w f g =
    let q : r + 16 + 8 ≡ 8 + (r + 16) = omega arith in
    reads 0x0007 1 old _ refl
    (link (unsigned_read s b 4 0xffff_ffff 0 4 refl refl (omega arith))
    (link (unsigned_read s b 1 0xff 4 5 refl refl l)
    (link (t.read false)
    (link (offset_read s r (omega arith) (sym x ∙ y))
    (link (unsigned_read s b 2 0xffff (r + 10) (r + 12) refl (omega arith) (omega arith))
    (link (list_read (element_row Property) s (stop_at e 0) refl g (r + 12) (r + 16) m f (omega arith) w) done))))))
    refl
    (rw (i, j, z, u, q))

pub overflow_sub-s : goal.overflow_sub-s
overflow_sub-s c =
    let t = string_at Text c.args.s.now 5 _ c.in_ok-offset.ensures in
    omega (arith, t.behind, t.within)

pub overflow_sub-stream_len : goal.overflow_sub-stream_len
overflow_sub-stream_len c = omega (arith, (string_at Text c.args.s.now 5 _ c.in_ok-offset.ensures).behind)

pub returns : goal.returns
unfolding Bytes
returns c =
    let a = c.args in
    let t = string_at Text a.s.now 5 _ c.in_ok-offset.ensures in
    let i = rw c.plain_list.ensures at c.list_end.ensures in
    let e = ended_at (read_field (list plain (element_row Property)) a.s.now (c.in_ok-offset.offset + 12)) c.list_end.result c.in_ok-end.end (sym c.in_ok-end.was ∙ c.ok.ensures.value) i in
    rw c.filled.ensures (row a.s.now a.slots.now _ _ _ _ _ _ _ _ (λ i. omega (arith, c.type_inv.s i)) c.if-s-lt5.false c.number-correlation_id.ensures c.number-subscription_id.ensures t c.if-s-offset-lt16.false c.number-kind.ensures c.if-kind-ne4.false c.number-value.ensures c.number-credit.ensures c.number-count.ensures e c.if-end-s.false)
