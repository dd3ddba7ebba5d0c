-- What a reader's answer tells of what was read: a refusal has a number other than 0, so 0 says that nothing was refused. And
-- loops over things of one sort: what is left to read from the place reached stops where the whole does. Assumes nothing.
use mathlib.Core.Path.{◌≡◌, refl, ◌∙◌, sym, ap}
use mathlib.Core.List.{List}
use Prim.Native.Nat.{ℕ, zero, suc, ◌-◌, ◌<◌, ◌≤◌}
use native.Mathlib.Omega.{arith}
use lib.ListN.{length}
use borrow.Author.Tests.{lt-ltb, le-ltb}
use Rattle.std.specs.Prelude.{Result, Some, None, Ok, Err}
use Rattle.std.specs.Result.{result_ok}
use Rattle.protocol.specs.Refusals.{bytes_left, number_of}
use Rattle.protocol.proofs.Refused.{some_number}
use Rattle.rules.specs.Outcome.{Outcome, got, refused, then, repeated}
use Rattle.rules.specs.Writing.{Encoding, used_up}
use Rattle.rules.proofs.Bounds.{Numbered}
use Rattle.byte_strings.specs.Stops.{Stop, end_of, only_end, stop, stop_at, told, refusal_of}
use Rattle.byte_strings.specs.declared.fault.Fault.{Fault}

module _ {A : Type 0} (o : Outcome A) where
  -- By the number.
  pub stopped : (e : Stop) → e ≡ stop o → (e.refused ≡ 0 → ⊥) → o ≡ refused e.refused e.at
  stopped e i z = by o i
    where
      by : (p : Outcome A) → e ≡ stop p → p ≡ refused e.refused e.at
      by (got a next) j = absurd (z (ap (λ (x : Stop). x.refused) j))
      by (refused n at) j = rw j

  pub passed : (e : Stop) → Numbered o → e ≡ stop o → e.refused ≡ 0 → (a : A) × (o ≡ got a e.at)
  passed e n i z = by o n i
    where
      by : (p : Outcome A) → Numbered p → e ≡ stop p → (a : A) × (p ≡ got a e.at)
      by (got a next) k j = (a, rw j)
      by (refused m at) k j = absurd (k (sym (ap (λ (x : Stop). x.refused) j) ∙ z))

  -- By a reader's answer.
  pub read_to : (next : ℕ) → Numbered o → told (Ok next) ≡ stop o → (a : A) × (o ≡ got a next)
  read_to next n i = passed (stop_at next 0) n i refl

  pub refused_at : (f : Fault) → told (Err f) ≡ stop o → o ≡ refused (number_of f.refusal) f.at
  refused_at f i = stopped (stop_at f.at (number_of f.refusal)) i (some_number f.refusal)

  -- By the plain place.
  pub ended : (e : ℕ) → Some e ≡ end_of o → (a : A) × (o ≡ got a e)
  ended e i = by o i
    where
      by : (p : Outcome A) → Some e ≡ end_of p → (a : A) × (p ≡ got a e)
      by (got a next) j = (a, cc)
      by (refused m at) j = cc

  pub not_ended : None ≡ end_of o → (n : ℕ) × (at : ℕ) × (o ≡ refused n at)
  not_ended i = by o i
    where
      by : (p : Outcome A) → None ≡ end_of p → (n : ℕ) × (at : ℕ) × (p ≡ refused n at)
      by (got a next) j = cc
      by (refused n at) j = (n, at, refl)

  pub stop_ended : (e : ℕ) → Some e ≡ end_of o → told (Ok e) ≡ stop o
  stop_ended e i = ap stop (sym (ended e i).1)

-- The end alone, of a reader's answer.
pub told_end : {A : Type 0} (o : Outcome A) (r : Result ℕ Fault) → Numbered o → told r ≡ stop o → result_ok r ≡ end_of o
told_end o (Ok next) n i = ap end_of (sym (read_to o next n i).1)
told_end o (Err f) n i = ap end_of (sym (refused_at o f i))

-- One thing after another: after the first is read, the second tells; and the first refusal is the answer.
module _ {A B : Type 0} (o : Outcome A) (f : A → ℕ → Outcome B) where
  pub told_then : (next : ℕ) → Numbered o → told (Ok next) ≡ stop o → (a : A) × (then o f ≡ f a next)
  told_then next n i = let r = read_to o next n i in (r.0, ap (λ (p : Outcome A). then p f) r.1)

  pub told_refused : (e : Fault) → told (Err e) ≡ stop o → told (Err e) ≡ stop (then o f)
  told_refused e i = rw (refused_at o e i)

-- ---- Loops

-- What each of them is makes no difference to where they end, or why they are refused.
module _ {A : Type 0} (o : Outcome A) where
  pub only_end_of : end_of (only_end o) ≡ end_of o
  only_end_of = by o
    where
      by : (p : Outcome A) → end_of (only_end p) ≡ end_of p
      by (got a next) = refl
      by (refused n at) = refl

  pub only_stop : stop (only_end o) ≡ stop o
  only_stop = by o
    where
      by : (p : Outcome A) → stop (only_end p) ≡ stop p
      by (got a next) = refl
      by (refused n at) = refl

pub repeated_ends : {A : Type 0} (read : List ℕ → ℕ → Outcome A) (n : ℕ) (s : List ℕ) (at : ℕ) → repeated (λ t from. only_end (read t from)) n s at ≡ repeated read n s at
unfolding repeated
repeated_ends read zero s at = refl
repeated_ends {A} read (suc n) s at = by (read s at) (λ next. repeated_ends read n s next)
  where
    by : (o : Outcome A) → ((next : ℕ) → repeated (λ t from. only_end (read t from)) n s next ≡ repeated read n s next) → then (only_end o) (λ a next. repeated (λ t from. only_end (read t from)) n s next) ≡ then o (λ a next. repeated read n s next)
    by (got a next) rest = rest next
    by (refused m p) rest = refl

module _ {A : Type 0} (read : List ℕ → ℕ → Outcome A) (s : List ℕ) where
  pub none_left : (left at : ℕ) → left ≡ 0 → told (Ok at) ≡ stop (repeated read left s at)
  unfolding repeated
  none_left left at z = rw z

  -- One that was read, and those after it.
  pub after_one : (left at next : ℕ) (a : A) → (left ≡ 0 → ⊥) → read s at ≡ got a next → repeated read left s at ≡ repeated read (left - 1) s next
  unfolding repeated
  after_one zero at next a z e = absurd (z refl)
  after_one (suc n) at next a z e = let k : suc n - 1 ≡ n = omega arith in rw (e, k)

  -- One that is refused.
  pub at_one : (left at m p : ℕ) → (left ≡ 0 → ⊥) → read s at ≡ refused m p → repeated read left s at ≡ refused m p
  unfolding repeated
  at_one zero at m p z e = absurd (z refl)
  at_one (suc n) at m p z e = rw e

  -- A loop that asks for the end of each.
  module _ (left at : ℕ) (z : left ≡ 0 → ⊥) where
    pub after_end : (e : ℕ) → Some e ≡ end_of (read s at) → repeated read (left - 1) s e ≡ repeated read left s at
    after_end e i = let r = ended (read s at) e i in sym (after_one left at e r.0 z r.1)

    -- Where one is not read, all are not.
    pub stops_all : None ≡ end_of (read s at) → stop (read s at) ≡ stop (repeated read left s at)
    stops_all i = let r = not_ended (read s at) i in ap stop r.2 ∙ ap stop (sym (at_one left at r.0 r.1 z r.2))

-- ---- Pieces that are written: their refusal, or 11 if bytes of the part are left, or what comes after them

module _ (o : Outcome Unit) (part : List ℕ) (rest : Encoding) (e : Stop) (i : e ≡ stop o) where
  pub pieces_refused : (e.refused ≡ 0 → ⊥) → e.refused ≡ refusal_of (used_up o part rest)
  pieces_refused z = rw (stopped o e i z)

  module _ (n : Numbered o) (z : e.refused ≡ 0) where
    pub pieces_left : e.at < length part → bytes_left ≡ refusal_of (used_up o part rest)
    pieces_left l = rw ((passed o e n i z).1, lt-ltb _ _ l)

    pub pieces_used : length part ≤ e.at → used_up o part rest ≡ rest
    pieces_used l = rw ((passed o e n i z).1, le-ltb _ _ l)
