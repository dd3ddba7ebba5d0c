-- It has no field, so nothing may be left.
use Rattle.std.proofs.Common.{◌≡◌, refl, sym, [], ◌∷◌, List, ℕ, Some, Ok, length}
use Rattle.protocol.specs.Table.{table, row_in}
use Rattle.rules.specs.Reading.{read_layout}
use Rattle.slots.specs.Flat.{padded}
use Rattle.fast_reading.specs.Answer.{Answers}
use Rattle.fast_reading.proofs.Rows.{reads, done}
use Rattle.fast_reading.proofs.connection.heartbeat.Goals as goal

no_field : (s old : List ℕ) → length s ≡ 0 → Answers (read_layout 0x0017 1 s) old (Some (Ok tt)) (padded 24 (0x0017 ∷ 1 ∷ []))
unfolding table row_in
no_field s old l = reads 0x0017 1 old _ refl done (sym l) refl

pub returns : goal.returns
returns c = rw c.filled.ensures (no_field c.args.s.now c.args.slots.now c.if-s-ne0.false)
