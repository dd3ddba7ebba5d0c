-- After them stand as many zeros as there is room for.
use Rattle.std.proofs.Common.{◌≡◌, ap, sym, ◌∙◌, List, ◌++◌, ℕ, length}
use Rattle.std.proofs.Math.ListN.{replicate}
use Rattle.std.proofs.Math.Seq.{length-take-le}
use Rattle.std.proofs.lemmas.List.{drop-replicate}
use Rattle.slots.specs.Flat.{padded}
use Rattle.fast_reading.proofs.filled.filled.Goals as goal

pub returns : goal.returns
unfolding padded
returns g c =
    let h = c.copy_from_slice.ensures in
    let long : length c.args.first ≡ g.row.N = sym (ap length h.after) ∙ h.len ∙ length-take-le g.row.N (replicate 24 0) c.requires in
    rw (h.after, long) (ap (λ (z : List ℕ). c.args.first ++ z) (drop-replicate {X = ℕ} g.row.N 24 0))
