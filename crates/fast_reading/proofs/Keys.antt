-- The answer for a layout is that for its key and version. Assumes nothing.
use mathlib.Core.Path.{◌≡◌, sym, subst}
use mathlib.Core.List.{List}
use Prim.Native.Nat.{ℕ}
use Rattle.protocol.specs.Decision.{Decision, layout, decide}
use Rattle.rules.specs.Reading.{read_layout, read_decided}
use Rattle.fast_reading.specs.Answer.{Answers}
use Rattle.std.specs.Prelude.{Option, Result}
use Rattle.byte_strings.specs.declared.fault.Fault.{Fault}

module _ (s old new : List ℕ) (r : Option (Result Unit Fault)) (key version : ℕ) where
  pub by_key : (k v : ℕ) → decide k v ≡ layout k v → key ≡ k → version ≡ v → Answers (read_layout k v s) old r new → Answers (read_decided (decide key version) s) old r new
  unfolding read_decided
  by_key k v l i j a =
      let e : layout k v ≡ decide key version = rw (i, j) (sym l) in
      subst (λ (d : Decision). Answers (read_decided d s) old r new) e a
