-- Elements one after another, each with its reason: one that is read leaves the rest to read, and one that is refused is the refusal of
-- all. Assumes nothing.
use mathlib.Core.Path.{◌≡◌, sym, ap}
use mathlib.Core.List.{List}
use Prim.Native.Nat.{ℕ, ◌-◌}
use Rattle.std.specs.Prelude.{Ok, Err}
use Rattle.protocol.specs.Kinds.{Row}
use Rattle.rules.specs.Outcome.{repeated}
use Rattle.rules.specs.Reading.{read_row}
use Rattle.rules.proofs.Bounds.{numbered_row}
use Rattle.byte_strings.specs.Stops.{stop, told}
use Rattle.byte_strings.specs.declared.fault.Fault.{Fault}
use Rattle.byte_strings.proofs.Stops.{after_one, at_one, read_to, refused_at}

module _ (row : Row) (s : List ℕ) (left at : ℕ) (z : left ≡ 0 → ⊥) where
  pub after_read : (next : ℕ) → told (Ok next) ≡ stop (read_row row s at) → stop (repeated (read_row row) (left - 1) s next) ≡ stop (repeated (read_row row) left s at)
  after_read next e =
      let r = read_to (read_row row s at) next (numbered_row row s at) e in
      ap stop (sym (after_one (read_row row) s left at next r.0 z r.1))

  pub at_refused : (f : Fault) → told (Err f) ≡ stop (read_row row s at) → told (Err f) ≡ stop (repeated (read_row row) left s at)
  at_refused f e = rw (at_one (read_row row) s left at _ _ z (refused_at (read_row row s at) f e))
