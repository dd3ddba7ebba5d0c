-- What a number of a head is: below the power of its bytes, and the number there if its bytes are all there. What a Size that
-- is not refused tells. Assumes nothing.
use mathlib.Core.Path.{◌≡◌, refl, ◌∙◌, ap}
use mathlib.Core.Bool.{Bool, true, false, cond, ◌||◌}
use mathlib.Core.List.{List}
use Prim.Native.Nat.{ℕ, ◌+◌, ◌^◌, ◌<◌, ◌≤◌}
use native.Mathlib.Omega.{arith}
use lib.Dec.{leb, ltb}
use lib.ListN.{length}
use borrow.Author.Tests.{ltb-false, le-ltb}
use Rattle.wire.specs.Integers.{Bytes, big_endian, number_or_zero}
use Rattle.wire.proofs.Widths.{integers, positive, or_zero_lem}
use Rattle.std.specs.Prelude.{Result, Ok, Err, is_ok}
use Rattle.protocol.specs.Refusals.{number_in}
use Rattle.protocol.specs.declared.refusal.Refusal.{Refusal}
use Rattle.protocol.proofs.Refused.{some_number}
use Rattle.rules.specs.Reading.{over_limit}
use Rattle.frame_head.specs.Head.{head_of}
use Rattle.frame_head.specs.Size.{Fits, size_refusal}
use Rattle.frame_head.specs.declared.head.Head.{Head}

pub zero_below : (n : ℕ) (s : List ℕ) (at v : ℕ) → Bytes s → v ≡ number_or_zero n s at → v < 256 ^ n
unfolding number_or_zero
zero_below n s at v b e = by (leb (at + n) (length s)) e
  where
    by : (t : Bool) → v ≡ cond t (big_endian n s at) 0 → v < 256 ^ n
    by true i = rw i ((integers n).range s at b)
    by false i = rw i (positive n)

module _ (s : List ℕ) (h : Head) (e : h ≡ head_of s) where
  pub size_there : 4 ≤ length s → h.size ≡ big_endian 4 s 0
  unfolding head_of
  size_there l = ap (λ (x : Head). x.size) e ∙ or_zero_lem 4 s 0 l

  pub key_there : 6 ≤ length s → h.key ≡ big_endian 2 s 4
  unfolding head_of
  key_there l = ap (λ (x : Head). x.key) e ∙ or_zero_lem 2 s 4 l

  pub version_there : 8 ≤ length s → h.version ≡ big_endian 2 s 6
  unfolding head_of
  version_there l = ap (λ (x : Head). x.version) e ∙ or_zero_lem 2 s 6 l

pub fits : (limit size room : ℕ) → size_refusal limit size room ≡ 0 → Fits limit size room
unfolding size_refusal
fits limit size room e = by (ltb 0xffff_ffff size) refl (over_limit limit size) refl (ltb room (size + 4)) refl e
  where
    by : (a : Bool) → ltb 0xffff_ffff size ≡ a → (b : Bool) → over_limit limit size ≡ b → (c : Bool) → ltb room (size + 4) ≡ c → ◌≡◌ {A = ℕ} (cond (a || b) 2 (cond c 12 0)) 0 → Fits limit size room
    by false i false j false k e = record { bound = ltb-false _ _ i; limited = j; roomy = ltb-false _ _ k }
    by false i false j true k e = absurd (omega (arith, e))
    by false i true j c k e = absurd (omega (arith, e))
    by true i b j c k e = absurd (omega (arith, e))

pub not_refused : (limit size room : ℕ) → Fits limit size room → size_refusal limit size room ≡ 0
unfolding size_refusal
not_refused limit size room h = rw (le-ltb _ _ h.bound, h.limited, le-ltb _ _ h.roomy)

pub number_ok : {A : Type 0} (r : Result A Refusal) → number_in r ≡ 0 → is_ok r ≡ true
number_ok (Ok a) e = refl
number_ok (Err f) e = absurd (some_number f e)
