-- The calls that a line is.
use Rattle.std.specs.Prelude.{ℕ, ◌%◌, List, take}
use Rattle.std.proofs.Math.Option.{Option, none, some}
use Rattle.credit_ledger.specs.Calls as credit
use Rattle.credit_ledger.specs.Step.{after as credit_step}
use Rattle.publisher_ledger.specs.Calls as publisher
use Rattle.publisher_ledger.specs.Step.{after as publisher_step}
use Rattle.test_text.specs.Digits.{number_in, octets}
use Rattle.test_ledgers.specs.Words.{first_word, after_space}
use Rattle.test_ledgers.specs.declared.script.Word.{Word}
use Rattle.test_ledgers.specs.declared.script.Word.TheVariants.{Open, Grant, Close, Receive, Credit, Declare, Delete, Send, Confirm, Out, Unknown}

-- The call of the credit ledger that a word makes with two numbers, or with a number and the bytes of a frame, if it makes
-- one. A number is cut to its width.
abbrev pub credit_call : Word → ℕ → ℕ → List ℕ → Option credit.Call
credit_call Open id n bytes = some (credit.opening (id % 256) (n % 65536))
credit_call Grant id n bytes = some (credit.grant (id % 256) (n % 65536))
credit_call Close id n bytes = some (credit.closing (id % 256))
credit_call Receive limit n bytes = some (credit.received bytes (limit % 4294967296))
credit_call Credit id n bytes = none
credit_call Declare id n bytes = none
credit_call Delete id n bytes = none
credit_call Send id n bytes = none
credit_call Confirm id n bytes = none
credit_call Out id n bytes = none
credit_call Unknown id n bytes = none

-- The same for the publisher ledger.
abbrev pub publisher_call : Word → ℕ → ℕ → Option publisher.Call
publisher_call Open id n = none
publisher_call Grant id n = none
publisher_call Close id n = none
publisher_call Receive id n = none
publisher_call Credit id n = none
publisher_call Declare id n = some (publisher.declaration (id % 256))
publisher_call Delete id n = some (publisher.deletion (id % 256))
publisher_call Send id n = some (publisher.sending (id % 256) (n % 4294967296))
publisher_call Confirm id n = some (publisher.confirming (id % 256) (n % 4294967296))
publisher_call Out id n = none
publisher_call Unknown id n = none

-- A ledger after a call, if there is one.
abbrev pub credits_by : List ℕ → Option credit.Call → List ℕ
credits_by l none = l
credits_by l (some c) = credit_step l c

abbrev pub publishers_by : List ℕ → Option publisher.Call → List ℕ
publishers_by l none = l
publishers_by l (some c) = publisher_step l c

-- The two numbers of a line, and the bytes in the place of the second one, of which 4,096 are taken at most.
abbrev pub first : List ℕ → ℕ
first line = number_in (after_space line)

abbrev pub second : List ℕ → ℕ
second line = number_in (after_space (after_space line))

abbrev pub bytes_in : List ℕ → List ℕ
bytes_in line = take 4096 (octets (after_space (after_space line)))

-- A ledger after a line.
abbrev pub credits_after : List ℕ → List ℕ → List ℕ
credits_after l line = credits_by l (credit_call (first_word line) (first line) (second line) (bytes_in line))

abbrev pub publishers_after : List ℕ → List ℕ → List ℕ
publishers_after l line = publishers_by l (publisher_call (first_word line) (first line) (second line))
