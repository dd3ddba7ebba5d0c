-- What is written after checks is refused by one of them, or is the bytes that stand after the last. So an encoding that is not
-- refused is these bytes, and no check on the way refuses. Assumes nothing.
use mathlib.Core.Path.{◌≡◌, refl, sym, ap}
use mathlib.Core.Bool.{Bool, true, false}
use mathlib.Core.List.{List}
use Prim.Native.Nat.{ℕ}
use native.Mathlib.Omega.{arith}
use lib.Dec.{ltb}
use lib.ListN.{length}
use Rattle.protocol.specs.Refusals.{bytes_left}
use Rattle.rules.specs.Outcome.{Outcome, got, refused}
use Rattle.rules.specs.Writing.{Encoding, wrote, refuse, checked, used_up}
use Rattle.rules.proofs.Bounds.{Numbered}
use Rattle.byte_strings.specs.Stops.{refusal_of}

module _ (b : List ℕ) where
  -- An encoding that is either these bytes or a refusal.
  abbrev pub Only : Encoding → Type 0
  Only (wrote a) = a ≡ b
  Only (refuse n) = n ≡ 0 → ⊥

  pub only_checked : (t : Bool) (n : ℕ) (rest : Encoding) → (n ≡ 0 → ⊥) → Only rest → Only (checked t n rest)
  only_checked true n rest z o = z
  only_checked false n rest z o = o

  pub only_used : (o : Outcome Unit) (part : List ℕ) (rest : Encoding) → Numbered o → Only rest → Only (used_up o part rest)
  only_used (got _ last) part rest n o = only_checked (ltb last (length part)) bytes_left rest (λ e. omega (arith, e)) o
  only_used (refused m p) part rest n o = n

  pub only_these : (e : Encoding) → Only e → refusal_of e ≡ 0 → e ≡ wrote b
  only_these (wrote a) o z = ap wrote o
  only_these (refuse n) o z = absurd (o z)

-- The first check, and what comes after it.
pub check_passed : (t : Bool) (n : ℕ) (rest : Encoding) → (n ≡ 0 → ⊥) → refusal_of (checked t n rest) ≡ 0 → (t ≡ false) × (refusal_of rest ≡ 0)
check_passed true n rest z e = absurd (z e)
check_passed false n rest z e = (refl, e)

-- What the number of a refusal tells.
pub refused_as : (e : Encoding) (n : ℕ) → n ≡ refusal_of e → (n ≡ 0 → ⊥) → e ≡ refuse n
refused_as (wrote a) n i z = absurd (z i)
refused_as (refuse m) n i z = ap refuse (sym i)
