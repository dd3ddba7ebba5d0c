-- What a ledger holds at each id, before and after a store. Assumes nothing.
use Prim.Native.Nat.{ℕ, ◌<◌}
use mathlib.Core.Path.{◌≡◌, refl, ap, ◌∙◌}
use mathlib.Core.Logic.{◌≢◌}
use mathlib.Core.List.{List}
use mathlib.Core.Option.{Option, none, some}
use native.Mathlib.Omega.{arith}
use native.Mathlib.Numerals.{add-one}
use lib.ListN.{length, length-set, get_or-replicate}
use lib.Seq.{get_or-set_same, get_or-set_other}
use Rattle.ledger.specs.Calls.{Op}
use Rattle.ledger.specs.Rules.{Entry, closed, opened, refusal, effect, decode, encode, empty, Sized, entry_at, store, keep_or, ledger_at}

decode_encode : (e : Entry) → decode (encode e) ≡ e
decode_encode closed = refl
decode_encode (opened b) = rw add-one

pub look_same : (l : List ℕ) (i : ℕ) (e : Entry) → i < 256 → Sized l → entry_at (store l i e) i ≡ e
look_same l i e h n = ap decode (get_or-set_same l i (encode e) 0 (omega arith)) ∙ decode_encode e

pub look_other : (l : List ℕ) (i j : ℕ) (e : Entry) → j < 256 → j ≢ i → entry_at (store l i e) j ≡ entry_at l j
look_other l i j e b h = ap decode (get_or-set_other l i j (encode e) 0 h)

pub length_store : (l : List ℕ) (i : ℕ) (e : Entry) → length (store l i e) ≡ length l
length_store l i e = simp length-set

pub look_empty : (i : ℕ) → i < 256 → entry_at empty i ≡ closed
look_empty i h = ap decode (get_or-replicate 257 i 0 0 (omega arith))

-- The entry that a call for an id leaves there.
pub own_entry : (l : List ℕ) (j : ℕ) (op : Op) → j < 256 → Sized l
    → entry_at (ledger_at l j op) j ≡ keep_or (refusal op (entry_at l j)) (entry_at l j) (effect op (entry_at l j))
own_entry l j op h n = by (refusal op (entry_at l j))
  where
    by : (o : Option ℕ) → entry_at (keep_or o l (store l j (effect op (entry_at l j)))) j ≡ keep_or o (entry_at l j) (effect op (entry_at l j))
    by none = look_same l j (effect op (entry_at l j)) h n
    by (some n) = refl
