-- What a host finds in its slots after a received frame: the frame that reading gives, exactly if it is accepted.
use Rattle.std.specs.Prelude.{◌≡◌, List, ℕ}
use Rattle.protocol.specs.Fields.{Fields}
use Rattle.protocol.specs.declared.place.Place.{Place}
use Rattle.rules.specs.Reading.{read_frame}
use Rattle.rules.specs.Reading as rules
use Rattle.ledger.specs.Calls.{refused, Accepted}
use Rattle.slots.specs.Flat as flat
use Rattle.credit_ledger.specs.Calls.{received, Refusal}
use Rattle.credit_ledger.specs.Step.{answer}
use Rattle.credit_receiving.specs.Answer.{slots_after}

-- A ledger l, received bytes s, a frame limit and the slots before the call.
pub record SlotsAsRead (l s : List ℕ) (limit : ℕ) (old : List ℕ) : Type 0 where
  -- Accepted: the bytes read as a frame, and the slots are those that reading leaves.
  pub is_read : Accepted (answer l (received s limit)) → (f : Fields Place) × (read_frame s limit ≡ rules.frame f)
  pub handed_over : Accepted (answer l (received s limit))
      → slots_after old (answer l (received s limit)) ≡ flat.slots_after old (read_frame s limit)
  -- Refused, by reading or by the ledger: they are as they were.
  pub kept : (r : Refusal) → answer l (received s limit) ≡ refused r → slots_after old (answer l (received s limit)) ≡ old

abbrev pub ReceivedAsRead : Type 0
ReceivedAsRead = (l s : List ℕ) (limit : ℕ) (old : List ℕ) → SlotsAsRead l s limit old
