-- Each answer of reading into slots is told of one kind of reading only. Assumes nothing.
use mathlib.Core.Path.{◌≡◌, refl, ◌∙◌}
use mathlib.Core.List.{List}
use Prim.Native.Nat.{ℕ, ◌+◌}
use native.Mathlib.Omega.{arith}
use Rattle.protocol.specs.Fields.{Fields}
use Rattle.protocol.specs.declared.place.Place.{Place}
use Rattle.rules.specs.Answers.{reading_refusal}
use Rattle.rules.specs.Reading.{Reading, frame, short, refusal}
use Rattle.slots.specs.Flat.{flat_frame, slots_after}
use Rattle.fast_reading.specs.Answer as Fast
use Rattle.std.specs.Prelude.{Result, Some, None, Ok, Err}
use Rattle.protocol.specs.Refusals.{number_of}
use Rattle.byte_strings.specs.declared.fault.Fault.{Fault}
use Rattle.frame_reading.specs.Answer.{FrameRead, Frame, Short, Refused, told, said, refusal_of}
use Rattle.frame_reading.specs.declared.reading.ReadError.{ReadError}
use Rattle.frame_reading.specs.declared.reading.ReadError.TheVariants as code
use Rattle.frame_reading.proofs.Contents.{Answers}

pub short_told : (r : Reading) (n : ℕ) → Short n ≡ told r → short n ≡ r
short_told (frame f) n e = absurd (let o : ◌≡◌ {A = ℕ} 0 1 = cc in omega arith)
short_told (short m) n e = cc
short_told (refusal m p) n e = absurd (let o : ◌≡◌ {A = ℕ} 0 1 = cc in omega arith)

pub refusal_told : (r : Reading) (n p : ℕ) → Refused n p ≡ told r → refusal n p ≡ r
refusal_told (frame f) n p e = absurd (let o : ◌≡◌ {A = ℕ} 0 1 = cc in omega arith)
refusal_told (short m) n p e = absurd (let o : ◌≡◌ {A = ℕ} 0 1 = cc in omega arith)
refusal_told (refusal m q) n p e = cc

pub frame_told : (r : Reading) → Frame ≡ told r → (f : Fields Place) × (frame f ≡ r)
frame_told (frame f) e = (f, refl)
frame_told (short m) e = absurd (let o : ◌≡◌ {A = ℕ} 0 1 = cc in omega arith)
frame_told (refusal m p) e = absurd (let o : ◌≡◌ {A = ℕ} 0 1 = cc in omega arith)

-- The slots of a frame that was read.
pub slots_told : (f : Fields Place) (r : Reading) (old new : List ℕ) → frame f ≡ r → new ≡ slots_after old r → new ≡ flat_frame f
slots_told f r old new e h = rw (← e) at h

-- An answer is the refusal that reading is.
pub refused_as_read : {A : Type 0} (r : Result A ReadError) (x : Reading) → said r ≡ told x → refusal_of r ≡ reading_refusal x
refused_as_read (Ok read) (frame f) e = refl
refused_as_read (Ok read) (short n) e = cc
refused_as_read (Ok read) (refusal n place) e = cc
refused_as_read (Err (code.Short n)) (frame f) e = cc
refused_as_read (Err (code.Short n)) (short m) e = cc
refused_as_read (Err (code.Short n)) (refusal m place) e = cc
refused_as_read (Err (code.Refused fault)) (frame f) e = cc
refused_as_read (Err (code.Refused fault)) (short m) e = cc
refused_as_read (Err (code.Refused fault)) (refusal m place) e = cc

-- What the fast reader has read or refused, and what it leaves.
pub has_read : (reading : Reading) (old new : List ℕ) → Fast.Answers reading old (Some (Ok tt)) new → Answers reading old Frame new
has_read reading old new (f, (e, p)) = rw e (refl, p)

pub has_refused : (reading : Reading) (old : List ℕ) (fault : Fault) (new : List ℕ) (r : FrameRead) → Fast.Answers reading old (Some (Err fault)) new → r ≡ Refused (number_of fault.refusal) (8 + fault.at) → Answers reading old r new
has_refused reading old fault new r (e, p) i = rw e (i, p)

pub has_left : (reading : Reading) (old new : List ℕ) (r : FrameRead) (last : List ℕ) → Fast.Answers reading old None new → Answers reading new r last → Answers reading old r last
has_left (frame f) old new r last h a = a
has_left (short needed) old new r last h a = (a.0, a.1 ∙ h)
has_left (refusal n place) old new r last h a = (a.0, a.1 ∙ h)
