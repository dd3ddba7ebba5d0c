-- What each call of the publisher ledger does to a ledger, and what the code's answers say.
use Rattle.std.specs.Prelude.{ℕ, List, Result}
use Rattle.protocol.specs.Refusals.{not_out}
use Rattle.protocol.specs.declared.refusal.Refusal.{Refusal}
use Rattle.ledger.specs.Calls.{start, add, take, stop, answer_by}
use Rattle.ledger.specs.Rules.{Act, at, Terms, answer_to, ledger_after}
use Rattle.ledger.specs.Answers.{number_of}
use Rattle.publisher_ledger.specs.Calls.{Call, declaration, deletion, sending, confirming, Reply}

-- An id's balance is its messages out.
abbrev pub act : Call → Act Unit ℕ
act (declaration i) = at i (start 0) tt
act (deletion i) = at i stop tt
act (sending i n) = at i (add n) tt
act (confirming i n) = at i (take n not_out) tt

abbrev pub publisher : Terms Call Unit ℕ
publisher = record { refusing = λ n. n; act = act }

-- A call's answer, and the ledger after it.
abbrev pub answer : List ℕ → Call → Reply
answer l c = answer_to (λ n. n) l (act c)

abbrev pub after : List ℕ → Call → List ℕ
after l c = ledger_after l (act c)

abbrev pub answer_of : Result Unit Refusal → Reply
answer_of r = answer_by (λ n. n) (number_of r) tt
