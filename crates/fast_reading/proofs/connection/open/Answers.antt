-- A number, then a text that ends with the content.
use Rattle.std.proofs.Common.{◌≡◌, refl, false, [], ◌∷◌, List, ℕ, Some, Ok, ◌-◌, ◌≤◌, length, arith}
use Rattle.wire.specs.Integers.{Bytes, big_endian}
use Rattle.protocol.specs.Table.{table, row_in}
use Rattle.protocol.specs.declared.kind.Form.TheVariants.{Text}
use Rattle.rules.specs.Reading.{read_layout}
use Rattle.byte_strings.proofs.PlainEnds.{StringAt, string_at}
use Rattle.slots.specs.Flat.{padded}
use Rattle.fast_reading.specs.Answer.{Answers}
use Rattle.fast_reading.proofs.Rows.{reads, done, link, unsigned_read}
use Rattle.fast_reading.proofs.connection.open.Goals as goal

row : (s old : List ℕ) (a e : ℕ) → Bytes s → 6 ≤ length s → a ≡ big_endian 4 s 0 → StringAt Text s 4 e → e ≡ length s → Answers (read_layout 0x0015 1 s) old (Some (Ok tt)) (padded 24 (0x0015 ∷ 1 ∷ a ∷ 14 ∷ (e - 6) ∷ []))
unfolding table row_in
row s old a e b l i t k =
    reads 0x0015 1 old _ refl
    (link (unsigned_read s b 4 0xffff_ffff 0 4 refl refl (omega arith))
    (link (t.read false) done))
    k
    (rw i)

pub returns : goal.returns
unfolding Bytes
returns c =
    let a = c.args in
    let text = string_at Text a.s.now 4 _ c.in_ok-end.ensures in
    rw c.filled.ensures (row a.s.now a.slots.now _ _ (λ i. omega (arith, c.type_inv.s i)) c.if-s-lt6.false c.number-correlation_id.ensures text c.if-end-s.false)
