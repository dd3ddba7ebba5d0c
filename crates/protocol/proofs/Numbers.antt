-- Each name stands for its number.
use mathlib.Core.Path.{refl}
use Rattle.protocol.specs.Numbers.{RefusalNumbers}

pub refusal_numbers : RefusalNumbers
refusal_numbers =
    record {
      one = refl;
      two = refl;
      three = refl;
      four = refl;
      five = refl;
      six = refl;
      seven = refl;
      eight = refl;
      nine = refl;
      ten = refl;
      eleven = refl;
      twelve = refl;
      thirteen = refl;
      fourteen = refl;
      fifteen = refl;
      sixteen = refl;
      seventeen = refl;
    }
