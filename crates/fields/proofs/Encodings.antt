-- Where the checks of a field that is written end: with a refusal, or with its bytes, which tell its length. Assumes nothing.
use mathlib.Core.Path.{◌≡◌}
use mathlib.Core.Bool.{true}
use mathlib.Core.List.{◌++◌}
use Prim.Native.Nat.{ℕ, ◌+◌, ◌/◌, ◌^◌, ◌<◌, ◌≤◌}
use native.Mathlib.Omega.{arith}
use lib.IntN.{ℤ, pos, negsuc}
use lib.ListN.{length, length-append}
use borrow.Author.Tests.{lt-ltb, le-ltb, lt-leb}
use Rattle.std.specs.Prelude.{Ok}
use Rattle.wire.specs.Integers.{digits}
use Rattle.wire.proofs.Widths.{integers}
use Rattle.rules.specs.Writing.{wrote, fits_signed, write_unsigned}
use Rattle.fields.specs.Passes.{length_told, measured}
use mir.Syntax.{Width}
use mir.Val.{SFits, hbits}

pub digits_size : (n x : ℕ) → length (digits n x) ≡ n
digits_size n x = (integers n).size x

pub pair_size : (n m x y : ℕ) → length (digits n x ++ digits m y) ≡ n + m
pair_size n m x y = rw (length-append (digits n x) (digits m y), digits_size n x, digits_size m y)

-- A number.
module _ (n most x : ℕ) where
  pub fits : most < 256 ^ n → x ≤ most → write_unsigned n most x ≡ wrote (digits n x)
  fits h l = rw (le-ltb _ _ l, lt-leb (256 ^ n) x (omega arith))

  pub number_measured : (k : ℕ) → k ≡ n → most < 256 ^ n → x ≤ most → length_told (Ok k) ≡ measured (write_unsigned n most x)
  number_measured k e h l = rw (fits h l, digits_size n x, e)

-- A signed number of a type fits the type's bytes.
pub signed_fits : (w : Width) (n : ℕ) (z : ℤ) → 2 ^ hbits w ≡ 256 ^ n / 2 → SFits w z → fits_signed n z ≡ true
signed_fits w n (pos x) e f = lt-ltb x (256 ^ n / 2) (rw (← e) f.sfits)
signed_fits w n (negsuc k) e f = lt-ltb k (256 ^ n / 2) (rw (← e) f.sfits)
