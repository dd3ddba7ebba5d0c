-- A frame that is written has a Size of four bytes, so its length is bounded. Assumes nothing.
use mathlib.Core.Path.{◌≡◌, refl, sym, subst}
use mathlib.Core.Bool.{Bool, true, false, ◌||◌}
use mathlib.Core.List.{List}
use Prim.Native.Nat.{ℕ, ◌+◌, ◌≤◌, ◌<◌}
use native.Mathlib.Omega.{arith}
use lib.Dec.{ltb}
use lib.ListN.{length}
use borrow.Author.Tests.{ltb-false}
use Rattle.std.specs.Prelude.{Ok}
use Rattle.protocol.specs.Decision.{Decision, layout, unlisted_key, unlisted_version, decide}
use Rattle.protocol.specs.Fields.{Fields}
use Rattle.protocol.specs.Table.{row_of}
use Rattle.protocol.specs.declared.place.Place.{Place}
use Rattle.rules.proofs.Gives.{choice}
use Rattle.rules.proofs.Listed.{differ}
use Rattle.rules.specs.Reading.{over_limit}
use Rattle.rules.specs.Writing.{Encoding, wrote, refuse, Writing, write_row, write_encoded, write_decided, write_frame}
use Rattle.frame_writing.specs.Written.{writing_of}
use Rattle.slots.specs.Unflat.{unflat_frame, write_flat}
use Rattle.krevilosh.specs.Answer.{LengthFits}

abbrev Fits : Writing → Type 0
Fits w = LengthFits w.answer

neither : (a b : Bool) → (a || b) ≡ false → a ≡ false
neither true b e = absurd (differ (sym e))
neither false b e = refl

longest : (n : ℕ) → 4 + n ≤ 0xffff_ffff → 8 + n ≤ 4294967299
longest n h = omega (arith, h)

encoded_fits : (key version : ℕ) (e : Encoding) (limit : ℕ) (out : List ℕ) → Fits (write_encoded key version e limit out)
encoded_fits key version (refuse n) limit out = tt
encoded_fits key version (wrote b) limit out =
    choice Fits (ltb 0xffff_ffff (4 + length b) || over_limit limit (4 + length b)) _ _ (λ _. tt) (λ e.
    choice Fits (ltb (length out) (8 + length b)) _ _ (λ _. tt) (λ _.
    longest (length b) (ltb-false _ _ (neither (ltb 0xffff_ffff (4 + length b)) (over_limit limit (4 + length b)) e))))

decided_fits : (d : Decision) (f : Fields Place) (src : List ℕ) (limit : ℕ) (out : List ℕ) → Fits (write_decided d f src limit out)
decided_fits (layout k v) f src limit out = encoded_fits k v (write_row (row_of k v) src f.content) limit out
decided_fits unlisted_key f src limit out = tt
decided_fits unlisted_version f src limit out = tt

length_fits : (s src : List ℕ) (limit : ℕ) (out : List ℕ) (w : Writing) → w ≡ write_flat s src limit out → Fits w
unfolding write_flat write_frame
length_fits s src limit out w e = subst Fits (sym e) (decided_fits (decide (unflat_frame s).key (unflat_frame s).version) (unflat_frame s) src limit out)

-- So it fits the bits above the number.
pub length_below : (s src : List ℕ) (limit : ℕ) (out : List ℕ) (n : ℕ) (o : List ℕ) → writing_of (Ok n) o ≡ write_flat s src limit out → n < 0x100_0000_0000_0000
length_below s src limit out n o e = let h = length_fits s src limit out (writing_of (Ok n) o) e in omega (arith, h)
