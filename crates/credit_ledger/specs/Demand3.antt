-- Demand 3 for the credit ledger, in the order of its words. The sums come from the calls and their answers: what a call
-- is for, and what it adds to them, is said here once more and not taken from what the call does to a ledger.
use Rattle.std.specs.Prelude.{ℕ, ◌+◌, ◌<◌, ◌≡◌, ◌↔◌, ◌⊎◌, cond, List, [], ◌∷◌, ◌++◌, reverse, leb}
use Rattle.std.proofs.Math.Option.{Option, none, some}
use Rattle.protocol.specs.Fields.{Fields}
use Rattle.protocol.specs.Frames.{fields_of}
use Rattle.protocol.specs.Refusals.{not_open, already_open, no_credit, over_limit}
use Rattle.protocol.specs.declared.chunk.Chunk.{Chunk}
use Rattle.protocol.specs.declared.frame.Frame.{Frame}
use Rattle.protocol.specs.declared.frame.Frame.TheVariants.{Deliver, DeliverV2}
use Rattle.protocol.specs.declared.place.Place.{Place}
use Rattle.rules.specs.Reading.{read_frame}
use Rattle.rules.specs.Reading as rules
use Rattle.ledger.specs.Calls.{start, add, take, stop, Purpose, for_none, for_id, accepted, refused, Accepted}
use Rattle.ledger.specs.Rules.{closed, opened, empty, entry_at}
use Rattle.ledger.specs.History as ledger
use Rattle.ledger.specs.Demand3.{ledger_of, history, make}
use Rattle.credit_ledger.specs.Calls.{Call, opening, grant, closing, received, nothing, frame, number, Reply, read_answer, deliver_id}
use Rattle.credit_ledger.specs.Step.{credit}

-- A history: each call with its answer, the last one first.
abbrev pub History : Type 0
History = List (Call × Reply)

-- For which id a call is, and what it counts for if it is accepted: a received frame that reads as a Deliver is for that
-- Deliver's id and takes one, any other received frame is for no id.
abbrev pub frame_purpose : Option ℕ → Purpose
frame_purpose (some i) = for_id i (take 1 no_credit)
frame_purpose none = for_none

abbrev pub read_purpose : rules.Reading → Purpose
read_purpose (rules.frame f) = frame_purpose (deliver_id f)
read_purpose (rules.short needed) = for_none
read_purpose (rules.refusal n place) = for_none

abbrev pub purpose : Call → Purpose
purpose (opening i c) = for_id i (start c)
purpose (grant i n) = for_id i (add n)
purpose (closing i) = for_id i stop
purpose (received bytes limit) = read_purpose (read_frame bytes limit)

-- The credit of the last opening accepted for an id, if no closing was accepted for it afterwards.
abbrev pub opening? : ℕ → History → Option ℕ
opening? i h = ledger.opening (ledger.accepted_for purpose i h)

-- The sum of the grants accepted for an id since the last opening or closing, and the number of Delivers since.
abbrev pub grants : ℕ → History → ℕ
grants i h = ledger.added (ledger.accepted_for purpose i h)

abbrev pub delivers : ℕ → History → ℕ
delivers i h = ledger.taken (ledger.accepted_for purpose i h)

-- What the rules answer, by the opening, the grants and the Delivers. The balance is credit and grants less the Delivers;
-- the sums are compared without forming it.
abbrev pub rule_opening : Option ℕ → Reply
rule_opening none = accepted nothing
rule_opening (some credit) = refused (number already_open)

abbrev pub rule_grant : ℕ → Option ℕ → ℕ → ℕ → Reply
rule_grant n none g d = refused (number not_open)
rule_grant n (some credit) g d = cond (leb (credit + g + n) (1000000 + d)) (accepted nothing) (refused (number over_limit))

abbrev pub rule_closing : Option ℕ → Reply
rule_closing none = refused (number not_open)
rule_closing (some credit) = accepted nothing

abbrev pub rule_deliver : Fields Place → Option ℕ → ℕ → ℕ → Reply
rule_deliver f none g d = refused (number not_open)
rule_deliver f (some credit) g d = cond (leb (d + 1) (credit + g)) (accepted (frame f)) (refused (number no_credit))

-- An id is one of the 256. Nothing is asked of a received frame's bytes.
abbrev pub IdBelow : Call → Type 0
IdBelow (opening i c) = i < 256
IdBelow (grant i n) = i < 256
IdBelow (closing i) = i < 256
IdBelow (received bytes limit) = Unit

abbrev pub IdsBelow : List Call → Type 0
IdsBelow [] = Unit
IdsBelow (c ∷ cs) = IdBelow c × IdsBelow cs

-- A typed frame is a Deliver for an id, of version 1 or 2.
abbrev pub DeliverFor : ℕ → Frame → Type 0
DeliverFor i f = ((c : Chunk) × (f ≡ Deliver i c)) ⊎ ((k : ℕ) × (c : Chunk) × (f ≡ DeliverV2 i k c))

-- What was received is refused by reading, or is another frame.
abbrev pub NoDeliver : rules.Reading → Type 0
NoDeliver (rules.frame f) = deliver_id f ≡ none
NoDeliver (rules.short needed) = Unit
NoDeliver (rules.refusal n place) = Unit

-- A call with its answer, somewhere in the history of a list of calls, and what came before it.
abbrev pub Answered : List Call → History → Call → Reply → History → Type 0
Answered cs later c a earlier = history credit cs ≡ later ++ (c, a) ∷ earlier

pub record CreditDemand3 (cs : List Call) : Type 0 where
  -- The calls are made one after another from an empty ledger; `cs` has the last one first.
  pub made : (calls : List Call) → reverse calls ≡ cs → make credit calls [] empty ≡ (history credit cs, ledger_of credit cs)
  -- Delivers are the frames of version 1 and 2 of that name, for their subscription id, and no others.
  pub are_delivers : (f : Frame) (i : ℕ) → (deliver_id (fields_of f) ≡ some i) ↔ DeliverFor i f
  -- A Deliver that is read is accepted for its subscription id exactly when the last opening or closing accepted for that
  -- id before it was an opening, and that opening's credit plus the grants accepted for that id from then until this
  -- Deliver exceed the Delivers accepted for that id in the same stretch.
  pub deliver_accepted : (later earlier : History) (bytes : List ℕ) (limit : ℕ) (f : Fields Place) (i : ℕ) (a : Reply)
      → Answered cs later (received bytes limit) a earlier → read_frame bytes limit ≡ rules.frame f → deliver_id f ≡ some i
      → Accepted a ↔ ((credit : ℕ) × (opening? i earlier ≡ some credit) × (delivers i earlier < credit + grants i earlier))
  -- Openings, grants, closings and such Delivers are refused exactly where the ledger rules give them a number, and with
  -- that number, open and balance being taken from the same history.
  pub openings : (later earlier : History) (i c : ℕ) (a : Reply) → Answered cs later (opening i c) a earlier → a ≡ rule_opening (opening? i earlier)
  pub grantings : (later earlier : History) (i n : ℕ) (a : Reply) → Answered cs later (grant i n) a earlier
      → a ≡ rule_grant n (opening? i earlier) (grants i earlier) (delivers i earlier)
  pub closings : (later earlier : History) (i : ℕ) (a : Reply) → Answered cs later (closing i) a earlier → a ≡ rule_closing (opening? i earlier)
  pub deliveries : (later earlier : History) (bytes : List ℕ) (limit : ℕ) (f : Fields Place) (i : ℕ) (a : Reply)
      → Answered cs later (received bytes limit) a earlier → read_frame bytes limit ≡ rules.frame f → deliver_id f ≡ some i
      → a ≡ rule_deliver f (opening? i earlier) (grants i earlier) (delivers i earlier)
  -- Any other received frame is answered exactly as reading answers it.
  pub others : (later earlier : History) (bytes : List ℕ) (limit : ℕ) (a : Reply)
      → Answered cs later (received bytes limit) a earlier → NoDeliver (read_frame bytes limit) → a ≡ read_answer (read_frame bytes limit)
  -- What reading answers can be told from the answer: frame, number, bytes needed and place.
  pub told : (r r' : rules.Reading) → read_answer r ≡ read_answer r' → r ≡ r'
  -- A received frame that is accepted, a Deliver or not, hands back the frame that is read.
  pub hands_back : (later earlier : History) (bytes : List ℕ) (limit : ℕ) (a : Reply)
      → Answered cs later (received bytes limit) a earlier → Accepted a → a ≡ read_answer (read_frame bytes limit)
  -- After the list each id in the ledger is open exactly if that history says so, and an open one has the balance it gives:
  -- the balance and the Delivers make up the credit and the grants.
  pub closed_after : (i : ℕ) → i < 256 → (entry_at (ledger_of credit cs) i ≡ closed) ↔ (opening? i (history credit cs) ≡ none)
  pub open_after : (i b : ℕ) → i < 256 → (entry_at (ledger_of credit cs) i ≡ opened b)
      ↔ ((k : ℕ) × (opening? i (history credit cs) ≡ some k) × (b + delivers i (history credit cs) ≡ k + grants i (history credit cs)))
  -- Choose any id, strike out all calls for other ids, start again from an empty ledger, and every call that is left gets
  -- the same answer.
  pub alone : (i : ℕ) → i < 256 → history credit (ledger.strike_calls purpose i cs) ≡ ledger.strike purpose i (history credit cs)
