-- What each call of the credit ledger does to a ledger, and what the code's answers say.
use Rattle.std.specs.Prelude.{ℕ, List, Result}
use Rattle.std.proofs.Math.Option.{Option, none, some}
use Rattle.protocol.specs.Fields.{Fields}
use Rattle.protocol.specs.Refusals.{no_credit}
use Rattle.protocol.specs.declared.place.Place.{Place}
use Rattle.protocol.specs.declared.refusal.Refusal as protocol
use Rattle.rules.specs.Reading.{read_frame}
use Rattle.rules.specs.Reading as rules
use Rattle.ledger.specs.Calls.{Op, start, add, take, stop, answer_by}
use Rattle.ledger.specs.Rules.{Act, aside, at, Terms, answer_to, ledger_after}
use Rattle.ledger.specs.Answers.{number_of}
use Rattle.credit_ledger.specs.Calls.{Call, opening, grant, closing, received, Yield, nothing, frame, Refusal, number, Reply, read_answer, deliver_id}

-- What a Deliver asks of its id: to take one from the balance, 15 if there is none.
abbrev pub spend : Op
spend = take 1 no_credit

-- A frame that was read: a Deliver spends, any other frame asks nothing of an id.
abbrev pub act_on_frame : Option ℕ → Fields Place → Act Yield Refusal
act_on_frame (some i) f = at i spend (frame f)
act_on_frame none f = aside (read_answer (rules.frame f))

abbrev pub act_on_reading : rules.Reading → Act Yield Refusal
act_on_reading (rules.frame f) = act_on_frame (deliver_id f) f
act_on_reading (rules.short needed) = aside (read_answer (rules.short needed))
act_on_reading (rules.refusal n place) = aside (read_answer (rules.refusal n place))

abbrev pub act : Call → Act Yield Refusal
act (opening i c) = at i (start c) nothing
act (grant i n) = at i (add n) nothing
act (closing i) = at i stop nothing
act (received bytes limit) = act_on_reading (read_frame bytes limit)

abbrev pub credit : Terms Call Yield Refusal
credit = record { refusing = number; act = act }

-- A call's answer, and the ledger after it.
abbrev pub answer : List ℕ → Call → Reply
answer l c = answer_to number l (act c)

abbrev pub after : List ℕ → Call → List ℕ
after l c = ledger_after l (act c)

-- What the code's answers say.
abbrev pub answer_of_change : Result Unit protocol.Refusal → Reply
answer_of_change r = answer_by number (number_of r) nothing
