-- The calls of the credit ledger with all their arguments, and what they hand back (01 "Ledgers").
use Rattle.std.specs.Prelude.{ℕ, cond, List, [], ◌∷◌, eqb}
use Rattle.std.proofs.Math.Option.{Option, none, some}
use Rattle.protocol.specs.Fields.{Field, Fields}
use Rattle.protocol.specs.declared.place.Place.{Place}
use Rattle.rules.specs.Reading as rules
use Rattle.ledger.specs.Calls.{Answer, accepted, refused}

-- An opening of an id with a credit, a grant of more, a closing, and a received frame: its bytes and the frame limit.
pub data Call : Type 0 where
  opening : ℕ → ℕ → Call
  grant : ℕ → ℕ → Call
  closing : ℕ → Call
  received : List ℕ → ℕ → Call

-- What an accepted call hands back: nothing, or the frame that was read.
pub data Yield : Type 0 where
  nothing : Yield
  frame : Fields Place → Yield

-- What a refused call hands back: a number of the ledger's, or what reading refuses with: 1 with the bytes needed, or
-- another number with its place.
pub data Refusal : Type 0 where
  number : ℕ → Refusal
  short : ℕ → Refusal
  unread : ℕ → ℕ → Refusal

abbrev pub Reply : Type 0
Reply = Answer Yield Refusal

-- An answer of reading as the answer of a call.
abbrev pub read_answer : rules.Reading → Reply
read_answer (rules.frame f) = accepted (frame f)
read_answer (rules.short needed) = refused (short needed)
read_answer (rules.refusal n place) = refused (unread n place)

abbrev pub first_number : List (Field Place) → ℕ
first_number [] = 0
first_number (f ∷ fs) = f.number

-- The subscription id of a frame that is a Deliver: the first field under key 08, of version 1 and of version 2.
abbrev pub deliver_id : Fields Place → Option ℕ
deliver_id f = cond (eqb f.key 0x0008) (some (first_number f.content)) none
