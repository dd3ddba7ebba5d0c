-- Demand 3 for any ledger: what every list of calls from an empty ledger is answered, and what it leaves.
use Rattle.std.specs.Prelude.{ℕ, ◌+◌, ◌≤◌, ◌<◌, ◌≡◌, ◌↔◌, List, [], ◌∷◌, ◌++◌, reverse}
use Rattle.std.proofs.Math.Option.{none, some}
use Rattle.ledger.specs.Calls.{take, Purpose, for_id, Answer, Accepted, answer_by}
use Rattle.ledger.specs.Rules.{closed, opened, empty, entry_at, Act, aside, at, Terms, answer_to, ledger_after, purpose_of}
use Rattle.ledger.specs.History.{opening, added, taken, refusal_in, OpenWith, accepted_for, strike_calls, strike}

module _ {C Y R : Type 0} (T : Terms C Y R) where
  -- The ledger after a list of calls, the last one first, made from an empty ledger; and their history.
  abbrev pub ledger_of : List C → List ℕ
  ledger_of [] = empty
  ledger_of (c ∷ cs) = ledger_after (ledger_of cs) (T.act c)

  abbrev pub history : List C → List (C × Answer Y R)
  history [] = []
  history (c ∷ cs) = (c, answer_to T.refusing (ledger_of cs) (T.act c)) ∷ history cs

  -- Calls made in the order of the list, each on the ledger as the last one left it, and put down in a history.
  abbrev pub make : List C → List (C × Answer Y R) → List ℕ → List (C × Answer Y R) × List ℕ
  make [] h l = (h, l)
  make (c ∷ cs) h l = make cs ((c, answer_to T.refusing l (T.act c)) ∷ h) (ledger_after l (T.act c))

  -- The answer to a call where a history says what was accepted for each id.
  abbrev pub answer_in : (C → Purpose) → List (C × Answer Y R) → Act Y R → Answer Y R
  answer_in purpose h (aside a) = a
  answer_in purpose h (at i op y) = answer_by T.refusing (refusal_in op (accepted_for purpose i h)) y

  pub record Demand3 (purpose : C → Purpose) (cs : List C) : Type 0 where
    -- A call that takes n from an id is accepted exactly when the last opening or closing accepted for the id was an
    -- opening, and its balance with what was added since covers what was taken since and n.
    pub takes : (later earlier : List (C × Answer Y R)) (c : C) (a : Answer Y R) (i n short : ℕ)
        → history cs ≡ later ++ (c, a) ∷ earlier → purpose c ≡ for_id i (take n short)
        → Accepted a ↔ ((k : ℕ) × (opening (accepted_for purpose i earlier) ≡ some k) × (taken (accepted_for purpose i earlier) + n ≤ k + added (accepted_for purpose i earlier)))
    -- Every call has the answer that the rules give it, open and balance being taken from the history before it.
    pub answers : (later earlier : List (C × Answer Y R)) (c : C) (a : Answer Y R)
        → history cs ≡ later ++ (c, a) ∷ earlier → a ≡ answer_in purpose earlier (T.act c)
    -- Afterwards each id is closed, or open with a balance, exactly as the history has it.
    pub closes : (i : ℕ) → i < 256 → (entry_at (ledger_of cs) i ≡ closed) ↔ (opening (accepted_for purpose i (history cs)) ≡ none)
    pub opens : (i b : ℕ) → i < 256 → (entry_at (ledger_of cs) i ≡ opened b) ↔ OpenWith b (accepted_for purpose i (history cs))
    -- Without the calls for other ids, every call that is left has the same answer.
    pub alone : (i : ℕ) → i < 256 → history (strike_calls purpose i cs) ≡ strike purpose i (history cs)
    -- Calls made one after another give this history and this ledger.
    pub made : (calls : List C) → reverse calls ≡ cs → make calls [] empty ≡ (history cs, ledger_of cs)

  -- The ledger's step and the history have the same calls for an id, and take them for the same thing.
  abbrev pub Agree : (C → Purpose) → Type 0
  Agree purpose = (c : C) → purpose c ≡ purpose_of (T.act c)
