-- What a window shows of its input.
use Rattle.std.specs.Prelude.{◌≡◌, cond, List, ℕ, ◌+◌, ◌≤◌, ltb, length, drop}
use Rattle.std.proofs.Math.Seq.{slice}
use Rattle.input_window.specs.Reads.{in_order, ended}
use Rattle.input_window.specs.declared.input.Input.{Input}

-- n bytes further. Where not so many are held, or the offset would pass 2^64 - 1, none are taken.
abbrev pub taken_from : Input → ℕ → Input
taken_from at n =
    cond (ltb at.held (at.from + n)) at
    (cond (ltb 0xffff_ffff_ffff_ffff (at.offset + n)) at
    (record { from = at.from + n; held = at.held; offset = at.offset + n; ended = at.ended }))

-- After these reads the window shows what was read and is not taken yet.
pub record Shows (reads : List (List ℕ)) (at : Input) (window : List ℕ) : Type 0 where
  pub order : at.from ≤ at.held
  pub inside : at.held ≤ length window
  pub ends : at.ended ≡ ended reads
  -- The bytes held from a place on are what was read from the offset on: none is lost, out of order or taken twice.
  pub within : at.offset ≤ length (in_order reads)
  pub rest : slice at.from at.held window ≡ drop at.offset (in_order reads)
