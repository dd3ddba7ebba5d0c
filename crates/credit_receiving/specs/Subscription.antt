-- What is known of a frame before it is read: the subscription that its first bytes name, and whether the ledger has a
-- credit for it.
use Rattle.std.specs.Prelude.{ℕ, Bool, true, false, cond, ◌&&◌, List, eqb, ltb, length, get_or, Some, None}
use Rattle.std.specs.Prelude as std
use Rattle.std.proofs.Math.Option.{Option, none, some}
use Rattle.wire.specs.Integers.{big_endian}
use Rattle.ledger.specs.Rules.{refusal, entry_at, ledger_at}
use Rattle.credit_ledger.specs.Step.{spend}

-- What the code's subscription says.
abbrev pub id_of : std.Option ℕ → Option ℕ
id_of (Some i) = some i
id_of None = none

-- The subscription id that the bytes are for, if they begin with a Deliver: the key is the two bytes at 4, the id the byte
-- at 8.
abbrev pub addressed : List ℕ → Option ℕ
addressed s = cond (ltb 8 (length s) && eqb (big_endian 2 s 4) 0x0008) (some (get_or s 8 0)) none

-- The ledger's refusal of a frame for this id; a frame for no id spends nothing.
abbrev pub refusal_for : List ℕ → Option ℕ → Option ℕ
refusal_for l none = none
refusal_for l (some i) = refusal spend (entry_at l i)

-- No refusal's number.
abbrev pub admitted : Option ℕ → Bool
admitted none = true
admitted (some n) = false

-- Whether the ledger will not refuse a frame for this id.
abbrev pub affords : List ℕ → Option ℕ → Bool
affords l o = admitted (refusal_for l o)

-- The ledger after a frame for this id was read.
abbrev pub spent : List ℕ → Option ℕ → List ℕ
spent l none = l
spent l (some i) = ledger_at l i spend
