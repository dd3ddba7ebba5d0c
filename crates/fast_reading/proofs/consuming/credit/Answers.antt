-- Two numbers whose widths are the content's length.
use Rattle.std.proofs.Common.{◌≡◌, refl, sym, [], ◌∷◌, List, ℕ, Some, Ok, length, arith}
use Rattle.wire.specs.Integers.{Bytes, big_endian}
use Rattle.protocol.specs.Table.{table, row_in}
use Rattle.rules.specs.Reading.{read_layout}
use Rattle.slots.specs.Flat.{padded}
use Rattle.fast_reading.specs.Answer.{Answers}
use Rattle.fast_reading.proofs.Rows.{reads, done, link, unsigned_read}
use Rattle.fast_reading.proofs.consuming.credit.Goals as goal

row : (s old : List ℕ) (a n : ℕ) → Bytes s → length s ≡ 3 → a ≡ big_endian 1 s 0 → n ≡ big_endian 2 s 1 → Answers (read_layout 0x0009 1 s) old (Some (Ok tt)) (padded 24 (0x0009 ∷ 1 ∷ a ∷ n ∷ []))
unfolding table row_in
row s old a n b l i j =
    reads 0x0009 1 old _ refl
    (link (unsigned_read s b 1 0xff 0 1 refl refl (omega arith))
    (link (unsigned_read s b 2 0xffff 1 3 refl refl (omega arith)) done))
    (sym l)
    (rw (i, j))

pub returns : goal.returns
unfolding Bytes
returns c = rw c.filled.ensures (row c.args.s.now c.args.slots.now _ _ (λ i. omega (arith, c.type_inv.s i)) c.if-s-ne3.false c.number-subscription_id.ensures c.number-credit.ensures)
