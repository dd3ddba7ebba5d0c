-- The number is there, and in the part it is the number in s.
use Rattle.std.proofs.Common.{◌≡◌, ◌∙◌, List, [], ℕ, ◌+◌, ◌-◌, ◌≤◌, length, take, drop, arith}
use Rattle.wire.specs.Integers.{Bytes, big_endian, number_or_zero, width_of}
use Rattle.wire.proofs.Splice.{part_length}
use Rattle.wire.proofs.Widths.{integers, or_zero_lem, in_part}
use Rattle.fast_reading.proofs.part.Goals as goal

in_whole : (n k : ℕ) (s : List ℕ) (at r : ℕ) → k ≡ n → at + n ≤ length s → r ≡ number_or_zero n (take (at + k - at) (drop at s)) 0 → r ≡ big_endian n s at
in_whole n k s at r e h i =
    let m : at + k - at ≡ n = omega arith in
    let z : at + 0 ≡ at = omega arith in
    let l : 0 + n ≤ length (take n (drop at s)) = rw (part_length [] 0 s at n h) (omega arith) in
    rw m at i ∙ or_zero_lem n (take n (drop at s)) 0 l ∙ rw z at (in_part n n 0 s at (omega arith))

pub returns : goal.returns
unfolding Bytes
returns c =
    let e = in_whole _ _ c.args.s.now c.args.at _ c.bytes.ensures c.requires c.number_or_zero.ensures in
    (e, rw e ((integers (width_of c.args.width)).range _ _ (λ i. omega (arith, c.type_inv.s i))))
