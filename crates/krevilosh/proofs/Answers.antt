-- What a frame needs is bounded, as its Size is. Assumes nothing.
use mathlib.Core.Path.{◌≡◌, refl, sym, subst}
use mathlib.Core.List.{List}
use mathlib.Core.Option.{some}
use mathlib.Core.Logic.{◌⊎◌, inl, inr}
use Prim.Native.Nat.{ℕ}
use native.Mathlib.Omega.{arith}
use Rattle.wire.specs.Integers.{Bytes}
use Rattle.rules.specs.Answers.{reading_refusal, IfRefused, ReadingNumber}
use Rattle.rules.specs.Reading.{read_frame}
use Rattle.rules.proofs.RefusalNumbers.{numbers}
use Rattle.ledger.specs.Numbers.{LedgerNumber}
use Rattle.credit_ledger.specs.Calls.{received}
use Rattle.credit_ledger.specs.Numbers.{credit_refusal}
use Rattle.credit_ledger.specs.Step.{answer}
use Rattle.credit_ledger.proofs.Numbers.{credit_numbers}
use Rattle.frame_reading.specs.Answer.{refusal_in}
use Rattle.frame_reading.specs.declared.reading.ReadError.{ReadError}
use Rattle.frame_reading.specs.declared.reading.ReadError.TheVariants.{Short, Refused}
use Rattle.krevilosh.specs.Answer.{NeededFits}

needs_fit : (e : ReadError) → ReadingNumber (refusal_in e) → NeededFits (some (refusal_in e))
needs_fit (Short n) h = (h.needs.0 refl).1
needs_fit (Refused fault) h = tt

pub needed_fits : (s : List ℕ) (limit : ℕ) (e : ReadError) → Bytes s → some (refusal_in e) ≡ reading_refusal (read_frame s limit) → NeededFits (some (refusal_in e))
needed_fits s limit e b i = needs_fit e (subst (IfRefused ReadingNumber) (sym i) (numbers.reading s limit b))

-- A refusal of the ledger's own needs no bytes.
of_either : (e : ReadError) → ReadingNumber (refusal_in e) ⊎ LedgerNumber (refusal_in e).number → NeededFits (some (refusal_in e))
of_either (Short n) (inl h) = needs_fit (Short n) h
of_either (Short n) (inr h) = absurd (omega (arith, h.0))
of_either (Refused fault) h = tt

pub received_fits : (l s : List ℕ) (limit : ℕ) (e : ReadError) → Bytes s → some (refusal_in e) ≡ credit_refusal (answer l (received s limit)) → NeededFits (some (refusal_in e))
received_fits l s limit e b i = of_either e (subst (IfRefused (λ x. ReadingNumber x ⊎ LedgerNumber x.number)) (sym i) (credit_numbers.received_frames l s limit b))
