-- What a history of calls and answers says of an id (01 "Ledgers"). Nothing here looks at a ledger or at what a call does
-- to one.
use Rattle.std.specs.Prelude.{ℕ, ◌+◌, ◌<◌, ◌≡◌, Bool, true, cond, List, [], ◌∷◌, eqb, leb}
use Rattle.std.proofs.Math.Option.{Option, none, some}
use Rattle.protocol.specs.Refusals.{not_open, already_open, over_limit}
use Rattle.ledger.specs.Calls.{Op, start, add, take, stop, Purpose, for_none, for_id, Answer, accepted, refused}

-- Of what was accepted for one id, the last first: the balance of the last opening, if no closing came after it.
abbrev pub opening : List Op → Option ℕ
opening [] = none
opening (start c ∷ ops) = some c
opening (add n ∷ ops) = opening ops
opening (take n k ∷ ops) = opening ops
opening (stop ∷ ops) = none

-- The sum of what was added since the last opening or closing.
abbrev pub added : List Op → ℕ
added [] = 0
added (start c ∷ ops) = 0
added (add n ∷ ops) = added ops + n
added (take n k ∷ ops) = added ops
added (stop ∷ ops) = 0

-- The sum of what was taken since.
abbrev pub taken : List Op → ℕ
taken [] = 0
taken (start c ∷ ops) = 0
taken (add n ∷ ops) = taken ops
taken (take n k ∷ ops) = taken ops + n
taken (stop ∷ ops) = 0

-- The number that refuses what a call asks, by the opening's balance, what was added and what was taken since. The sums
-- are compared as they are: no difference is formed that could be cut off at 0.
abbrev pub refusal_by : Op → Option ℕ → ℕ → ℕ → Option ℕ
refusal_by (start c) none a t = none
refusal_by (start c) (some k) a t = some already_open
refusal_by (add n) none a t = some not_open
refusal_by (add n) (some k) a t = cond (leb (k + a + n) (1000000 + t)) none (some over_limit)
refusal_by (take n short) none a t = some not_open
refusal_by (take n short) (some k) a t = cond (leb (t + n) (k + a)) none (some short)
refusal_by stop none a t = some not_open
refusal_by stop (some k) a t = none

abbrev pub refusal_in : Op → List Op → Option ℕ
refusal_in op ops = refusal_by op (opening ops) (added ops) (taken ops)

-- The id is open with balance b: the balance and what was taken make up the opening's balance and what was added.
abbrev pub OpenWith : ℕ → List Op → Type 0
OpenWith b ops = (k : ℕ) × (opening ops ≡ some k) × (b + taken ops ≡ k + added ops)

-- What was accepted for id i, with one more call if it is for i and was accepted.
abbrev pub note : {Y R : Type 0} → ℕ → Purpose → Answer Y R → List Op → List Op
note i for_none a ops = ops
note i (for_id j op) (accepted y) ops = cond (eqb j i) (op ∷ ops) ops
note i (for_id j op) (refused r) ops = ops

-- Whether a call stays when all calls for ids other than i are struck out.
abbrev pub stays : ℕ → Purpose → Bool
stays i for_none = true
stays i (for_id j op) = eqb j i

-- An id is one of the 256.
abbrev pub Within : Purpose → Type 0
Within for_none = Unit
Within (for_id i op) = i < 256

-- Calls, and histories of calls and answers, are lists with the last one first, so that what comes before a call is the
-- rest of the list. `purpose` says for which id a call is, and what it asks of it.
module _ {C : Type 0} (purpose : C → Purpose) where
  -- What a history accepted for id i, the last first.
  abbrev pub accepted_for : {Y R : Type 0} → ℕ → List (C × Answer Y R) → List Op
  accepted_for i [] = []
  accepted_for i (e ∷ h) = note i (purpose e.0) e.1 (accepted_for i h)

  -- A list of calls, and a history, without the calls for ids other than i.
  abbrev pub strike_calls : ℕ → List C → List C
  strike_calls i [] = []
  strike_calls i (c ∷ cs) = cond (stays i (purpose c)) (c ∷ strike_calls i cs) (strike_calls i cs)

  abbrev pub strike : {Y R : Type 0} → ℕ → List (C × Answer Y R) → List (C × Answer Y R)
  strike i [] = []
  strike i (e ∷ h) = cond (stays i (purpose e.0)) (e ∷ strike i h) (strike i h)

  abbrev pub AllWithin : List C → Type 0
  AllWithin [] = Unit
  AllWithin (c ∷ cs) = Within (purpose c) × AllWithin cs
