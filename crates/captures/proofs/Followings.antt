-- What comes next is told by reading alone, and reading looks at nothing beyond the declared size: so an answer other
-- than that more bytes are needed stays the same, whatever follows. Assumes nothing.
use mathlib.Core.Path.{◌≡◌, refl, sym, ◌∙◌, ap, subst}
use mathlib.Core.Bool.{Bool, true, false, cond}
use mathlib.Core.List.{List, [], ◌∷◌, ◌++◌, append-nil}
use mathlib.Core.Logic.{◌⊎◌, inl, inr}
use Prim.Native.Nat.{ℕ, ◌+◌, ◌^◌, ◌<◌, ◌≤◌}
use native.Mathlib.Omega.{arith}
use lib.Dec.{ltb}
use lib.ListN.{length}
use lib.Seq.{take-append-le}
use borrow.Author.Tests.{ltb-true, ltb-false, ne_eqb}
use Rattle.wire.specs.Integers.{big_endian}
use Rattle.wire.proofs.Widths.{in_part, integers}
use Rattle.protocol.specs.Decision.{Decision, layout, unlisted_key, unlisted_version, decide}
use Rattle.protocol.specs.Fields.{Field, Fields}
use Rattle.protocol.specs.Table.{row_of}
use Rattle.protocol.specs.declared.place.Place.{Place}
use Rattle.rules.proofs.Beyond.{answer_stays}
use Rattle.rules.proofs.Gives.{choice}
use Rattle.rules.proofs.Heads.{Head, head}
use Rattle.rules.specs.Exactness.{frame_length}
use Rattle.rules.specs.Outcome.{Outcome, got, refused as unread}
use Rattle.rules.specs.Reading.{Reading, frame, short, refusal, read_content, reading_of, read_layout, read_decided, over_limit, read_sized, read_frame}
use Rattle.slots.specs.Flat.{padded, flat_frame, slots_after}
use Rattle.frame_reading.specs.Answer.{Frame as FrameThere, told as read_told}
use Rattle.frame_reading.proofs.Told.{frame_told}
use Rattle.captures.specs.Answer.{Told, Frame, Whole, Cut, Refused, More, told}
use Rattle.captures.specs.Following.{Next, framed, whole, cut, refused, more, next_of, following, Says, SaysWhatIsRead, Rest, WindowTells, MoreIsShort, SlotsTell}

-- ---- What the code answers

pub nothing_left : (s old : List ℕ) (ended t : Bool) (limit : ℕ) → length s ≡ 0 → ended ≡ t → (told (cond t whole more) ≡ told (following s ended limit)) × (old ≡ slots_after old (read_frame s limit))
unfolding following read_frame
nothing_left [] old ended t limit e h = (rw h, refl)
nothing_left (b ∷ s) old ended t limit e h = absurd (omega (arith, e))

-- Of bytes that are there.
module _ (s : List ℕ) (ended : Bool) (limit : ℕ) (n : length s ≡ 0 → ⊥) where
  pub something_left : (t : Bool) (r : Reading) → r ≡ read_frame s limit → ended ≡ t → next_of r t (length s) (frame_length s) ≡ following s ended limit
  unfolding following
  something_left t r e h = by s n e
    where
      by : (s : List ℕ) → (length s ≡ 0 → ⊥) → r ≡ read_frame s limit → next_of r t (length s) (frame_length s) ≡ following s ended limit
      by [] n e = absurd (n refl)
      by (b ∷ s) n e = rw h (ap (λ (x : Reading). next_of x t (length (b ∷ s)) (frame_length (b ∷ s))) e)

  -- A frame's length is Size and 4.
  pub frame_left : (size : ℕ) → FrameThere ≡ read_told (read_frame s limit) → (4 ≤ length s → size ≡ big_endian 4 s 0) → Frame (size + 4) ≡ told (following s ended limit)
  frame_left size i a =
      let f = frame_told (read_frame s limit) i in
      let h : Head s (frame f.0) = subst (Head s) (sym f.1) (head s limit) in
      let l : 4 ≤ length s = omega (arith, h.0, h.1) in
      rw (a l) (ap told (something_left ended (frame f.0) f.1 refl))

-- What is known of what comes next by what is told of it.
abbrev pub Tells : Told → Next → Type 0
Tells (Frame len) n = (f : Fields Place) × (n ≡ framed f len)
Tells Whole n = n ≡ whole
Tells (Cut left needed) n = n ≡ cut left needed
Tells (Refused number) n = n ≡ refused number
Tells More n = n ≡ more

pub tells : (r : Told) (n : Next) → r ≡ told n → Tells r n
tells r n e = subst (λ (x : Told). Tells x n) (sym e) (by n)
  where
    by : (n : Next) → Tells (told n) n
    by (framed f len) = (f, refl)
    by whole = refl
    by (cut left needed) = refl
    by (refused number) = refl
    by more = refl

-- ---- A frame that comes next

-- It is there, and has bytes; and it is the frame that is read.
abbrev There : List ℕ → ℕ → Next → Type 0
There s limit (framed f len) = (0 < len) × (len ≤ length s) × (read_frame s limit ≡ frame f)
There s limit whole = Unit
There s limit (cut left needed) = Unit
There s limit (refused n) = Unit
There s limit more = Unit

there : (s : List ℕ) (ended : Bool) (limit : ℕ) → There s limit (following s ended limit)
unfolding following
there [] true limit = tt
there [] false limit = tt
there (b ∷ s) ended limit = by ended (read_frame (b ∷ s) limit) refl (head (b ∷ s) limit)
  where
    by : (ended : Bool) (r : Reading) → read_frame (b ∷ s) limit ≡ r → Head (b ∷ s) r → There (b ∷ s) limit (next_of r ended (length (b ∷ s)) (frame_length (b ∷ s)))
    by ended (frame f) e h = (omega (arith, h.0), h.1, e)
    by true (short n) e h = tt
    by false (short n) e h = tt
    by ended (refusal n p) e h = tt

pub framed_there : (s : List ℕ) (ended : Bool) (limit : ℕ) (f : Fields Place) (len : ℕ) → following s ended limit ≡ framed f len → (0 < len) × (len ≤ length s) × (read_frame s limit ≡ frame f)
framed_there s ended limit f len e = subst (There s limit) e (there s ended limit)

-- Its key and version are the two numbers after Size.
pub slots_tell : SlotsTell
unfolding flat_frame padded
slots_tell s old ended limit f len b e =
    let r : read_frame s limit ≡ frame f = (framed_there s ended limit f len e).2 in
    let h : Head s (frame f) = subst (Head s) r (head s limit) in
    let m : big_endian 2 s 4 < 256 ^ 2 = (integers 2).range s 4 b in
    let n : big_endian 2 s 6 < 256 ^ 2 = (integers 2).range s 6 b in
    rw r (record { key = refl; version = refl; key_fits = omega (arith, h.2, m); version_fits = omega (arith, h.3, n) })

-- ---- What is said of reading

pub says_what_is_read : SaysWhatIsRead
unfolding following
says_what_is_read [] true limit = (refl, refl)
says_what_is_read [] false limit = (inl refl, refl)
says_what_is_read (b ∷ s) ended limit = by (read_frame (b ∷ s) limit) refl ended
  where
    by : (x : Reading) → read_frame (b ∷ s) limit ≡ x → (ended : Bool) → Says (b ∷ s) ended limit (next_of x ended (length (b ∷ s)) (frame_length (b ∷ s)))
    by (frame f) e ended = (e, refl)
    by (short k) e true = (e, (refl, refl))
    by (short k) e false = (inr (k, e), refl)
    by (refusal n p) e ended = (p, e)

-- ---- What a window tells

-- Four bytes say the same with more after them.
size_stays : (s rest : List ℕ) → 4 ≤ length s → frame_length (s ++ rest) ≡ frame_length s
size_stays s rest l =
    ap (λ (n : ℕ). n + 4)
    (sym (in_part 4 4 0 (s ++ rest) 0 (omega arith)) ∙ (ap (λ (u : List ℕ). big_endian 4 u 0) (take-append-le 4 s rest l) ∙ in_part 4 4 0 s 0 (omega arith)))

pub window_tells : WindowTells
unfolding following
window_tells w rest true limit r = inr (rw (r, append-nil w) refl)
window_tells [] rest false limit r = inl refl
window_tells (b ∷ s) rest false limit r = by (read_frame (b ∷ s) limit) refl (head (b ∷ s) limit) (answer_stays (b ∷ s) rest limit)
  where
    by : (x : Reading) → read_frame (b ∷ s) limit ≡ x → Head (b ∷ s) x → ((k : ℕ) × (read_frame (b ∷ s) limit ≡ short k)) ⊎ (read_frame (b ∷ (s ++ rest)) limit ≡ read_frame (b ∷ s) limit) → (next_of x false (length (b ∷ s)) (frame_length (b ∷ s)) ≡ more) ⊎ (following (b ∷ (s ++ rest)) true limit ≡ next_of x false (length (b ∷ s)) (frame_length (b ∷ s)))
    by (short k) e h a = inl refl
    by (frame f) e h (inl a) = absurd (let o : ◌≡◌ {A = ℕ} 0 1 = cc (sym e ∙ a.1) in omega arith)
    by (frame f) e h (inr a) = inr (rw (a ∙ e) (ap (framed f) (size_stays (b ∷ s) rest (omega (arith, h.0, h.1)))))
    by (refusal k p) e h (inl a) = absurd (let o : ◌≡◌ {A = ℕ} 0 1 = cc (sym e ∙ a.1) in omega arith)
    by (refusal k p) e h (inr a) = inr (rw (a ∙ e))

-- So what is known of a part is known of the capture.
pub window_known : (w rest : List ℕ) (ended : Bool) (limit : ℕ) (n : Next) → Rest ended rest → following w ended limit ≡ n → (n ≡ more → ⊥) → following (w ++ rest) true limit ≡ n
window_known w rest ended limit n r e d = by (window_tells w rest ended limit r)
  where
    by : (following w ended limit ≡ more) ⊎ (following (w ++ rest) true limit ≡ following w ended limit) → following (w ++ rest) true limit ≡ n
    by (inl x) = absurd (d (sym e ∙ x))
    by (inr y) = y ∙ e

-- ---- Where more bytes are needed

-- What is short of a frame is shorter than the longest one: Size is looked at before the frame's end.
abbrev Less : List ℕ → ℕ → Type 0
Less s limit = ((length s < 4) ⊎ (length s < frame_length s)) × (0 < limit → length s < limit + 4)

abbrev InPart : List ℕ → ℕ → Reading → Type 0
InPart s limit (frame f) = Unit
InPart s limit (short n) = Less s limit
InPart s limit (refusal n p) = Unit

decided_short : (s : List ℕ) (limit : ℕ) (d : Decision) (content : List ℕ) → InPart s limit (read_decided d content)
unfolding read_decided read_layout
decided_short s limit (layout k v) content = by (read_content (row_of k v) content)
  where
    by : (o : Outcome (List (Field Place))) → InPart s limit (reading_of k v o)
    by (got fs behind) = tt
    by (unread n p) = tt
decided_short s limit unlisted_key content = tt
decided_short s limit unlisted_version content = tt

within : (limit size : ℕ) → over_limit limit size ≡ false → 0 < limit → size ≤ limit
within limit size o h = ltb-false limit size (rw (ne_eqb limit 0 (λ z. absurd (omega (arith, z, h)))) at o)

short_frame : (s : List ℕ) (limit : ℕ) → InPart s limit (read_frame s limit)
unfolding read_frame read_sized
short_frame s limit =
    choice (InPart s limit) (ltb (length s) 4) _ _ (λ e. let l = ltb-true (length s) 4 e in (inl l, λ h. omega (arith, l, h))) (λ _.
    choice (InPart s limit) (over_limit limit (big_endian 4 s 0)) _ _ (λ _. tt) (λ o.
    choice (InPart s limit) (ltb (big_endian 4 s 0) 4) _ _ (λ _. tt) (λ _.
    choice (InPart s limit) (ltb (length s) (big_endian 4 s 0 + 4)) _ _ (λ e. let l = ltb-true (length s) (big_endian 4 s 0 + 4) e in (inr l, λ h. let m = within limit (big_endian 4 s 0) o h in omega (arith, l, m))) (λ _.
    decided_short s limit (decide (big_endian 2 s 4) (big_endian 2 s 6)) _))))

-- By what reading says. More bytes are needed only where more may come.
needs_more : (s : List ℕ) (ended : Bool) (limit : ℕ) → following s ended limit ≡ more → (ended ≡ false) × Less s limit
unfolding following
needs_more [] true limit e = absurd (let o : ◌≡◌ {A = ℕ} 0 1 = cc in omega arith)
needs_more [] false limit e = (refl, (inl (omega arith), λ h. omega (arith, h)))
needs_more (b ∷ s) ended limit e = by ended (read_frame (b ∷ s) limit) (short_frame (b ∷ s) limit) e
  where
    by : (ended : Bool) (r : Reading) → InPart (b ∷ s) limit r → next_of r ended (length (b ∷ s)) (frame_length (b ∷ s)) ≡ more → (ended ≡ false) × Less (b ∷ s) limit
    by ended (frame f) h e = absurd (let o : ◌≡◌ {A = ℕ} 0 1 = cc in omega arith)
    by true (short n) h e = absurd (let o : ◌≡◌ {A = ℕ} 0 1 = cc in omega arith)
    by false (short n) h e = (refl, h)
    by ended (refusal n p) h e = absurd (let o : ◌≡◌ {A = ℕ} 0 1 = cc in omega arith)

pub more_is_short : MoreIsShort
more_is_short s ended limit e = (needs_more s ended limit e).1

pub more_may_come : (s : List ℕ) (ended : Bool) (limit : ℕ) → following s ended limit ≡ more → ended ≡ false
more_may_come s ended limit e = (needs_more s ended limit e).0
