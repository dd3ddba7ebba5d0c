-- Each refusal of a ledger is named by its number. Assumes nothing.
use mathlib.Core.Bool.{Bool, true, false, cond}
use mathlib.Core.Option.{none, some}
use Prim.Native.Nat.{ℕ, ◌+◌}
use native.Mathlib.Omega.{arith}
use lib.Dec.{leb}
use Rattle.ledger.specs.Calls.{start, add, take, stop}
use Rattle.ledger.specs.Numbers.{LedgerNumber, IfNumbered, LedgerNumbers}
use Rattle.ledger.specs.Rules.{closed, opened, most}

unless : (t : Bool) (n : ℕ) → LedgerNumber n → IfNumbered LedgerNumber (cond t none (some n))
unless true n h = tt
unless false n h = h

pub ledger_numbers : LedgerNumbers
ledger_numbers (start c) closed h = tt
ledger_numbers (start c) (opened b) h = (omega arith, omega arith)
ledger_numbers (add n) closed h = (omega arith, omega arith)
ledger_numbers (add n) (opened b) h = unless (leb (b + n) most) 16 (omega arith, omega arith)
ledger_numbers (take n k) closed h = (omega arith, omega arith)
ledger_numbers (take n k) (opened b) h = unless (leb n b) k h
ledger_numbers stop closed h = (omega arith, omega arith)
ledger_numbers stop (opened b) h = tt
