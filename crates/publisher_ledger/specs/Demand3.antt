-- Demand 3 for the publisher ledger. The sums come from the calls and their answers: what a call is for, and what it adds
-- to them, is said here once more and not taken from what the call does to a ledger.
use Rattle.std.specs.Prelude.{ℕ, ◌+◌, ◌≤◌, ◌<◌, ◌≡◌, ◌↔◌, cond, List, [], ◌∷◌, ◌++◌, reverse, leb}
use Rattle.std.proofs.Math.Option.{Option, none, some}
use Rattle.protocol.specs.Refusals.{not_open, already_open, over_limit, not_out}
use Rattle.ledger.specs.Calls.{start, add, take, stop, Purpose, for_id, accepted, refused, Accepted}
use Rattle.ledger.specs.Rules.{closed, opened, empty, entry_at}
use Rattle.ledger.specs.History as ledger
use Rattle.ledger.specs.Demand3.{ledger_of, history, make}
use Rattle.publisher_ledger.specs.Calls.{Call, declaration, deletion, sending, confirming, Reply}
use Rattle.publisher_ledger.specs.Step.{publisher}

-- A history: each call with its answer, the last one first.
abbrev pub History : Type 0
History = List (Call × Reply)

-- For which id a call is, and what it counts for if it is accepted.
abbrev pub purpose : Call → Purpose
purpose (declaration i) = for_id i (start 0)
purpose (deletion i) = for_id i stop
purpose (sending i n) = for_id i (add n)
purpose (confirming i n) = for_id i (take n not_out)

-- The messages out when the id was last declared, which are none, if no deletion was accepted for it afterwards.
abbrev pub declaration? : ℕ → History → Option ℕ
declaration? i h = ledger.opening (ledger.accepted_for purpose i h)

-- The messages sent for an id since the last declaration or deletion, and those confirmed or in error since.
abbrev pub sent : ℕ → History → ℕ
sent i h = ledger.added (ledger.accepted_for purpose i h)

abbrev pub confirmed : ℕ → History → ℕ
confirmed i h = ledger.taken (ledger.accepted_for purpose i h)

-- What the rules answer, by the declaration, the messages sent and those confirmed. Messages out are those sent less those
-- confirmed; the sums are compared without forming the difference.
abbrev pub rule_declaration : Option ℕ → Reply
rule_declaration none = accepted tt
rule_declaration (some k) = refused already_open

abbrev pub rule_deletion : Option ℕ → Reply
rule_deletion none = refused not_open
rule_deletion (some k) = accepted tt

abbrev pub rule_sending : ℕ → Option ℕ → ℕ → ℕ → Reply
rule_sending n none s c = refused not_open
rule_sending n (some k) s c = cond (leb (s + n) (1000000 + c)) (accepted tt) (refused over_limit)

abbrev pub rule_confirming : ℕ → Option ℕ → ℕ → ℕ → Reply
rule_confirming n none s c = refused not_open
rule_confirming n (some k) s c = cond (leb (c + n) s) (accepted tt) (refused not_out)

-- A call with its answer, somewhere in the history of a list of calls, and what came before it.
abbrev pub Answered : List Call → History → Call → Reply → History → Type 0
Answered cs later c a earlier = history publisher cs ≡ later ++ (c, a) ∷ earlier

pub record PublisherDemand3 (cs : List Call) : Type 0 where
  -- The calls are made one after another from an empty ledger; `cs` has the last one first.
  pub made : (calls : List Call) → reverse calls ≡ cs → make publisher calls [] empty ≡ (history publisher cs, ledger_of publisher cs)
  -- n messages are confirmed for an id exactly when the last declaration or deletion accepted for that id before was a
  -- declaration, and the messages sent for it since are at least those confirmed since and n.
  pub confirm_accepted : (later earlier : History) (i n : ℕ) (a : Reply) → Answered cs later (confirming i n) a earlier
      → Accepted a ↔ ((declaration? i earlier ≡ some 0) × (confirmed i earlier + n ≤ sent i earlier))
  -- Calls are refused exactly where the ledger rules give them a number, and with that number, open and messages out being
  -- taken from the same history.
  pub declarations : (later earlier : History) (i : ℕ) (a : Reply) → Answered cs later (declaration i) a earlier → a ≡ rule_declaration (declaration? i earlier)
  pub deletions : (later earlier : History) (i : ℕ) (a : Reply) → Answered cs later (deletion i) a earlier → a ≡ rule_deletion (declaration? i earlier)
  pub sendings : (later earlier : History) (i n : ℕ) (a : Reply) → Answered cs later (sending i n) a earlier
      → a ≡ rule_sending n (declaration? i earlier) (sent i earlier) (confirmed i earlier)
  pub confirmings : (later earlier : History) (i n : ℕ) (a : Reply) → Answered cs later (confirming i n) a earlier
      → a ≡ rule_confirming n (declaration? i earlier) (sent i earlier) (confirmed i earlier)
  -- After the list each id in the ledger is open exactly if that history says so, and an open one has the messages out that
  -- it gives: these and those confirmed make up those sent.
  pub closed_after : (i : ℕ) → i < 256 → (entry_at (ledger_of publisher cs) i ≡ closed) ↔ (declaration? i (history publisher cs) ≡ none)
  pub open_after : (i b : ℕ) → i < 256 → (entry_at (ledger_of publisher cs) i ≡ opened b)
      ↔ ((declaration? i (history publisher cs) ≡ some 0) × (b + confirmed i (history publisher cs) ≡ sent i (history publisher cs)))
  -- Without the calls for other ids, every call that is left gets the same answer.
  pub alone : (i : ℕ) → i < 256 → history publisher (ledger.strike_calls purpose i cs) ≡ ledger.strike purpose i (history publisher cs)
