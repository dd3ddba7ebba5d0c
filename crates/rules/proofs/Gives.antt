-- What holds of everything that reading gives: of a refusal nothing is said, so a check only adds to what is known, and
-- what is read next may build on what was read. Assumes nothing.
use mathlib.Core.Path.{◌≡◌, refl}
use mathlib.Core.Bool.{Bool, true, false, cond}
use mathlib.Core.List.{List}
use Prim.Native.Nat.{ℕ, ◌+◌, ◌-◌, ◌≤◌}
use lib.Dec.{ltb}
use lib.ListN.{length, take, drop}
use borrow.Author.Tests.{ltb-false}
use Rattle.wire.specs.Integers.{big_endian}
use Rattle.protocol.specs.Decision.{Decision, layout, unlisted_key, unlisted_version, decide}
use Rattle.rules.proofs.Numbers.{number_cases}
use Rattle.rules.specs.Outcome.{Outcome, got, refused, then, refuse_if}
use Rattle.rules.specs.Reading.{read_number, Reading, short, refusal, read_layout, read_decided, over_limit, read_sized, read_frame}

abbrev pub Gives : {A : Type 0} → (A → ℕ → Type 0) → Outcome A → Type 0
Gives P (got a next) = P a next
Gives P (refused n p) = Unit

-- By a test.
pub choice : {A : Type 0} (P : A → Type 0) (t : Bool) (a b : A) → (t ≡ true → P a) → (t ≡ false → P b) → P (cond t a b)
choice P true a b h g = h refl
choice P false a b h g = g refl

module _ {A : Type 0} (P : A → ℕ → Type 0) where
  pub check : (t : Bool) (n p : ℕ) (o : Outcome A) → (t ≡ false → Gives P o) → Gives P (refuse_if t n p o)
  check true n p o h = tt
  check false n p o h = h refl

  pub after : {B : Type 0} (Q : B → ℕ → Type 0) (o : Outcome B) (f : B → ℕ → Outcome A) → Gives Q o → ((b : B) (next : ℕ) → Q b next → Gives P (f b next)) → Gives P (then o f)
  after Q (got b next) f h g = g b next h
  after Q (refused n p) f h g = tt

  -- A number, and then more.
  pub after_number : (n : ℕ) (s : List ℕ) (at : ℕ) (f : ℕ → ℕ → Outcome A) → (at + n ≤ length s → Gives P (f (big_endian n s at) (at + n))) → Gives P (then (read_number n s at) f)
  after_number n s at f h = number_cases n s at (λ o. Gives P (then o f)) h (λ _. tt)

pub weaker : {A : Type 0} (P Q : A → ℕ → Type 0) (o : Outcome A) → ((a : A) (next : ℕ) → P a next → Q a next) → Gives P o → Gives Q o
weaker P Q (got a next) f h = f a next h
weaker P Q (refused n p) f h = tt

pub also : {A : Type 0} (P Q : A → ℕ → Type 0) (o : Outcome A) → Gives P o → Gives Q o → Gives (λ a next. P a next × Q a next) o
also P Q (got a next) h g = (h, g)
also P Q (refused n p) h g = tt

-- What holds of every refusal holds of reading a frame, if it holds of reading a layout behind all the checks of the
-- frame's first eight bytes.
module _ (P : Reading → Type 0) (short_case : (n : ℕ) → P (short n)) (refusal_case : (n p : ℕ) → P (refusal n p)) (s : List ℕ) (limit : ℕ) where
  abbrev Layouts : ℕ → Type 0
  Layouts size =
      over_limit limit size ≡ false → 4 ≤ size → size + 4 ≤ length s
      → (k v : ℕ) → decide (big_endian 2 s 4) (big_endian 2 s 6) ≡ layout k v → P (read_layout k v (take (size - 4) (drop 8 s)))

  pub frame_cases : Layouts (big_endian 4 s 0) → P (read_frame s limit)
  unfolding read_frame read_sized read_decided
  frame_cases h =
      choice P (ltb (length s) 4) _ _ (λ _. short_case 4) (λ _.
      choice P (over_limit limit (big_endian 4 s 0)) _ _ (λ _. refusal_case 2 0) (λ o.
      choice P (ltb (big_endian 4 s 0) 4) _ _ (λ _. refusal_case 3 0) (λ l.
      choice P (ltb (length s) (big_endian 4 s 0 + 4)) _ _ (λ _. short_case _) (λ w.
      by (decide (big_endian 2 s 4) (big_endian 2 s 6)) (h o (ltb-false _ _ l) (ltb-false _ _ w))))))
    where
      by : (d : Decision) → ((k v : ℕ) → d ≡ layout k v → P (read_layout k v (take (big_endian 4 s 0 - 4) (drop 8 s)))) → P (read_decided d (take (big_endian 4 s 0 - 4) (drop 8 s)))
      by (layout k v) g = g k v refl
      by unlisted_key g = refusal_case 4 4
      by unlisted_version g = refusal_case 5 6
