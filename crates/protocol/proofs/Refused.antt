-- No refusal has the number 0, so it says that nothing is refused. Assumes nothing.
use mathlib.Core.Path.{◌≡◌, refl}
use mathlib.Core.Bool.{true, false}
use native.Mathlib.Omega.{arith}
use Rattle.std.specs.Prelude.{Result, Ok, Err, is_ok}
use Rattle.protocol.specs.Refusals.{number_of, number_in}
use Rattle.protocol.specs.declared.refusal.Refusal.{Refusal}
use Rattle.protocol.specs.declared.refusal.Refusal.TheVariants.{Short, FrameTooLarge, FrameTooSmall, UnknownKey, UnknownVersion, FieldCut, BadLength, NotUtf8, ReferenceTooLong, ValueNotAdmitted, BytesLeft, NoRoom, NotOpen, AlreadyOpen, NoCredit, OverLimit, NotOut}

pub some_number : (r : Refusal) → number_of r ≡ 0 → ⊥
some_number Short e = omega (arith, e)
some_number FrameTooLarge e = omega (arith, e)
some_number FrameTooSmall e = omega (arith, e)
some_number UnknownKey e = omega (arith, e)
some_number UnknownVersion e = omega (arith, e)
some_number FieldCut e = omega (arith, e)
some_number BadLength e = omega (arith, e)
some_number NotUtf8 e = omega (arith, e)
some_number ReferenceTooLong e = omega (arith, e)
some_number ValueNotAdmitted e = omega (arith, e)
some_number BytesLeft e = omega (arith, e)
some_number NoRoom e = omega (arith, e)
some_number NotOpen e = omega (arith, e)
some_number AlreadyOpen e = omega (arith, e)
some_number NoCredit e = omega (arith, e)
some_number OverLimit e = omega (arith, e)
some_number NotOut e = omega (arith, e)

-- Whether a result is `Ok` tells whether its number is 0.
pub ok_number : {A : Type 0} (r : Result A Refusal) → is_ok r ≡ true → number_in r ≡ 0
ok_number (Ok a) e = refl
ok_number (Err f) e = cc

pub err_number : {A : Type 0} (r : Result A Refusal) → is_ok r ≡ false → number_in r ≡ 0 → ⊥
err_number (Ok a) e = cc
err_number (Err f) e = some_number f
