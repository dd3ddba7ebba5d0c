-- A number is put at the first free slot, and all after it are 0: so what is appended follows what is there. Assumes nothing.
use mathlib.Core.Path.{◌≡◌, ◌∙◌, ap}
use mathlib.Core.Bool.{true}
use mathlib.Core.List.{List, ◌++◌}
use Prim.Native.Nat.{ℕ, ◌+◌}
use lib.Dec.{leb}
use lib.ListN.{length, length-append}
use Rattle.slots.proofs.Padding.{splice_padded}
use Rattle.slot_builder.specs.Built.{started, appended}
use Rattle.slot_builder.specs.declared.Builder.{Builder}

-- Where there is room, what is appended follows the numbers that are there.
pub appended_started : (xs ys : List ℕ) → leb (length xs + length ys) 24 ≡ true → appended (started xs) ys ≡ started (xs ++ ys)
unfolding started appended
appended_started xs ys h = rw (h, splice_padded 24 xs ys, length-append)

pub onto : (xs ys : List ℕ) (b c : Builder) → leb (length xs + length ys) 24 ≡ true → b ≡ started xs → c ≡ appended b ys → c ≡ started (xs ++ ys)
onto xs ys b c h e f = f ∙ ap (λ (x : Builder). appended x ys) e ∙ appended_started xs ys h
