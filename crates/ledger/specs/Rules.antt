-- The ledger rules (01 "Ledgers") as a step from one ledger to the next: when a call is refused, and what it does
-- otherwise.
use Rattle.std.specs.Prelude.{ℕ, zero, suc, ◌+◌, ◌-◌, ◌≡◌, cond, List, leb, length, get_or, set, replicate}
use Rattle.std.proofs.Math.Option.{Option, none, some}
use Rattle.protocol.specs.Refusals.{not_open, already_open, over_limit}
use Rattle.ledger.specs.Calls.{Op, start, add, take, stop, Purpose, for_none, for_id, Answer, answer_by}

-- An id is closed, or open with a balance.
pub data Entry : Type 0 where
  closed : Entry
  opened : ℕ → Entry

-- The largest balance that a call can leave.
abbrev pub most : ℕ
most = 1000000

-- The number that refuses what a call asks of an id, if there is one.
abbrev pub refusal : Op → Entry → Option ℕ
refusal (start c) closed = none
refusal (start c) (opened b) = some already_open
refusal (add n) closed = some not_open
refusal (add n) (opened b) = cond (leb (b + n) most) none (some over_limit)
refusal (take n k) closed = some not_open
refusal (take n k) (opened b) = cond (leb n b) none (some k)
refusal stop closed = some not_open
refusal stop (opened b) = none

-- What the call makes of the id where it is not refused.
abbrev pub effect : Op → Entry → Entry
effect (start c) e = opened c
effect (add n) closed = closed
effect (add n) (opened b) = opened (b + n)
effect (take n k) closed = closed
effect (take n k) (opened b) = opened (b - n)
effect stop e = closed

-- The ledger's numbers: 0 for a closed id, the balance and 1 for an open one. An entry more than there are ids is lent,
-- and never changed.
abbrev pub decode : ℕ → Entry
decode zero = closed
decode (suc b) = opened b

abbrev pub encode : Entry → ℕ
encode closed = 0
encode (opened b) = b + 1

abbrev pub empty : List ℕ
empty = replicate 257 0

abbrev pub Sized : List ℕ → Type 0
Sized l = length l ≡ 257

abbrev pub entry_at : List ℕ → ℕ → Entry
entry_at l i = decode (get_or l i 0)

abbrev pub store : List ℕ → ℕ → Entry → List ℕ
store l i e = set l i (encode e)

-- What was, where there is a refusal, and else what comes instead.
abbrev pub keep_or : {A : Type 0} → Option ℕ → A → A → A
keep_or none old new = new
keep_or (some n) old new = old

-- The ledger after a call that asks something of an id.
abbrev pub ledger_at : List ℕ → ℕ → Op → List ℕ
ledger_at l i op = keep_or (refusal op (entry_at l i)) l (store l i (effect op (entry_at l i)))

-- What a call does: it gives an answer and looks at no id; or it asks something of an id, and hands something back if
-- that is accepted.
pub data Act (Y R : Type 0) : Type 0 where
  aside : Answer Y R → Act Y R
  at : ℕ → Op → Y → Act Y R

-- A ledger's calls: how a refusal's number is handed back, and what each call does.
pub record Terms (C Y R : Type 0) : Type 0 where
  pub refusing : ℕ → R
  pub act : C → Act Y R

-- A call's answer, and the ledger after it.
abbrev pub answer_to : {Y R : Type 0} → (ℕ → R) → List ℕ → Act Y R → Answer Y R
answer_to refusing l (aside a) = a
answer_to refusing l (at i op y) = answer_by refusing (refusal op (entry_at l i)) y

abbrev pub ledger_after : {Y R : Type 0} → List ℕ → Act Y R → List ℕ
ledger_after l (aside a) = l
ledger_after l (at i op y) = ledger_at l i op

abbrev pub purpose_of : {Y R : Type 0} → Act Y R → Purpose
purpose_of (aside a) = for_none
purpose_of (at i op y) = for_id i op
