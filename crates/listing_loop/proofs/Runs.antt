-- Each turn makes one read, or one write. After a read that failed what waits is written in the same turn, and the run is over.
-- Assumes nothing.
use mathlib.Core.Path.{◌≡◌, refl, sym, ◌∙◌, ap, subst}
use mathlib.Core.Bool.{Bool, true, false, cond}
use mathlib.Core.List.{List, [], ◌∷◌, ◌++◌}
use mathlib.Core.Logic.{◌⊎◌, inl, inr}
use Prim.Native.Nat.{ℕ, ◌+◌, ◌<◌, ◌≤◌}
use native.Mathlib.Omega.{arith}
use lib.ListN.{length, take, drop, length-append}
use lib.Seq.{length-take-le, take_at}
use Rattle.std.specs.Prelude.{Option, None, Some}
use Rattle.captures.specs.Following.{Next}
use Rattle.input_window.specs.Reads.{in_order}
use Rattle.input_window.specs.Reads as input
use Rattle.input_window.proofs.Windows.{kept_shows}
use Rattle.listing_text.specs.Steps.{greatest}
use Rattle.listing_text.specs.declared.listing.State.TheVariants.{Going, More, Done, TooLong}
use Rattle.listing_loop.specs.History.{History, capture, handed, ended, after_read, after_write}
use Rattle.listing_loop.specs.Run.{Ran}
use Rattle.listing_loop.specs.Stages.{is_listing, is_reading, is_over, stage_read, stage_written}
use Rattle.listing_loop.specs.Standing.{Because, Stands}
use Rattle.listing_loop.specs.declared.session.Session.{Session}
use Rattle.listing_loop.specs.declared.session.Stage.{Stage}
use Rattle.listing_loop.specs.declared.session.Stage.TheVariants.{Listing, Listed, Unreadable, Unwritable}
use Rattle.listing_loop.proofs.Standings.{input_stands, not_ended, handed_so_far, whole_listing, listing_closed}

-- The bytes that were read and the bytes of text that were handed out. A read that gave nothing counts as one: it is the last.
abbrev pub moved : History → ℕ
moved h = length (capture h) + length (handed h) + cond (ended h) 1 0

-- Before a turn, after so many.
abbrev pub Before : ℕ → Session → List ℕ → List ℕ → Type 0
Before made s window text = (h : History) × Stands h s window text × (s.stage ≡ Listing) × (made ≤ moved h)

-- In a turn, before a write: a read was made, and the listing goes on; or a write is due.
abbrev pub Within : ℕ → Session → List ℕ → List ℕ → Type 0
Within made s window text = (h : History) × Stands h s window text × (s.stage ≡ Listed More → ⊥) × (cond (is_listing s.stage) (made + 1) made ≤ moved h)

pub reading_stage : (x : Stage) → is_reading x ≡ true → x ≡ Listed More
reading_stage Listing e = absurd (let o : ◌≡◌ {A = ℕ} 0 1 = cc in omega arith)
reading_stage (Listed Going) e = absurd (let o : ◌≡◌ {A = ℕ} 0 1 = cc in omega arith)
reading_stage (Listed More) e = refl
reading_stage (Listed Done) e = absurd (let o : ◌≡◌ {A = ℕ} 0 1 = cc in omega arith)
reading_stage (Listed TooLong) e = absurd (let o : ◌≡◌ {A = ℕ} 0 1 = cc in omega arith)
reading_stage Unreadable e = absurd (let o : ◌≡◌ {A = ℕ} 0 1 = cc in omega arith)
reading_stage Unwritable e = absurd (let o : ◌≡◌ {A = ℕ} 0 1 = cc in omega arith)

not_reading : (x : Stage) → is_reading x ≡ false → x ≡ Listed More → ⊥
not_reading x e y = let f : is_reading (Listed More) ≡ false = sym (ap is_reading y) ∙ e in absurd (let o : ◌≡◌ {A = ℕ} 0 1 = cc in omega arith)

-- A turn without a read.
pub nothing_read : (made : ℕ) (s s' : Session) (window window' text : List ℕ) (h : History) → Stands h s window text → made ≤ moved h → is_listing s.stage ≡ false → is_reading s.stage ≡ false → s' ≡ s → window' ≡ window → Within made s' window' text
nothing_read made s s' window window' text h st e f d x y = rw (x, y) (h, st, not_reading s.stage d, rw f e)

-- A read gives a byte at least, or is the last.
read_counts : (given : List ℕ) (reads : List (List ℕ)) (k made : ℕ) → input.ended reads ≡ false → made ≤ length (in_order reads) + k + cond (input.ended reads) 1 0 → made + 1 ≤ length (in_order (given ∷ reads)) + k + cond (input.ended (given ∷ reads)) 1 0
unfolding in_order input.ended
read_counts [] reads k made e l =
    let a = length-append (in_order reads) [] in
    let m : made ≤ length (in_order reads) + k + 0 = subst (λ (x : Bool). made ≤ length (in_order reads) + k + cond x 1 0) e l in
    omega (arith, a, m)
read_counts (b ∷ given) reads k made e l =
    let a = length-append (in_order reads) (b ∷ given) in
    let m : made ≤ length (in_order reads) + k + 0 = subst (λ (x : Bool). made ≤ length (in_order reads) + k + cond x 1 0) e l in
    omega (arith, a, m)

something_read : (made : ℕ) (r : Session) (window text part : List ℕ) (got : Option ℕ) (h : History) → Stands (after_read got part h) r window text → r.stage ≡ stage_read got → ended h ≡ false → made ≤ moved h → Within made r window text
something_read made r window text part got h st x e l = (after_read got part h, st, λ y. not_reading got (sym x ∙ y), subst (λ (y : Stage). cond (is_listing y) (made + 1) made ≤ moved (after_read got part h)) (sym x) (by got))
  where
    not_reading : (got : Option ℕ) → stage_read got ≡ Listed More → ⊥
    not_reading (Some n) y = absurd (let o : ◌≡◌ {A = ℕ} 0 1 = cc in omega arith)
    not_reading None y = absurd (let o : ◌≡◌ {A = ℕ} 0 1 = cc in omega arith)

    by : (got : Option ℕ) → cond (is_listing (stage_read got)) (made + 1) made ≤ moved (after_read got part h)
    by (Some n) = read_counts (take n part) h.reads (length (handed h)) made e l
    by None = l

-- A read into the window from the bytes held on.
pub read_then : (made : ℕ) (h : History) (s r s' : Session) (before window window' text given : List ℕ) (got : Option ℕ) → Stands h s before text → s.stage ≡ Listed More → made ≤ moved h → window ≡ take s.input.held before ++ given → length window ≡ length before → r.stage ≡ stage_read got → ((h : History) (text : List ℕ) → s.stage ≡ Listed More → Stands h s window text → Stands (after_read got (drop s.input.held window) h) r window text) → s' ≡ r → window' ≡ window → Within made s' window' text
read_then made h s r s' before window window' text given got st reading e w l x f y z =
    let k : take s.input.held window ≡ take s.input.held before = ap (take s.input.held) w ∙ take_at (take s.input.held before) given s.input.held (length-take-le s.input.held before st.input.inside) in
    let kept = input_stands h s before text st s.input window (kept_shows h.reads s.input before st.input window k l) refl in
    rw (y, z) (something_read made r window text (drop s.input.held window) got h (f h text reading kept) x (not_ended h s before text st reading) e)

listing_stage : (x : Stage) → is_listing x ≡ true → x ≡ Listing
listing_stage Listing e = refl
listing_stage (Listed Going) e = absurd (let o : ◌≡◌ {A = ℕ} 0 1 = cc in omega arith)
listing_stage (Listed More) e = absurd (let o : ◌≡◌ {A = ℕ} 0 1 = cc in omega arith)
listing_stage (Listed Done) e = absurd (let o : ◌≡◌ {A = ℕ} 0 1 = cc in omega arith)
listing_stage (Listed TooLong) e = absurd (let o : ◌≡◌ {A = ℕ} 0 1 = cc in omega arith)
listing_stage Unreadable e = absurd (let o : ◌≡◌ {A = ℕ} 0 1 = cc in omega arith)
listing_stage Unwritable e = absurd (let o : ◌≡◌ {A = ℕ} 0 1 = cc in omega arith)

-- After a write the listing goes on, or it is over.
over_stage : (taken : Bool) (x : Stage) → is_listing (stage_written taken x) ≡ false → is_over (stage_written taken x) ≡ true
over_stage false x e = refl
over_stage true x e = by (is_over x) refl e
  where
    by : (t : Bool) → is_over x ≡ t → is_listing (cond t x Listing) ≡ false → is_over (cond t x Listing) ≡ true
    by true q e = q
    by false q e = absurd (let o : ◌≡◌ {A = ℕ} 0 1 = cc in omega arith)

-- A write after which the listing goes on has text to write: no line had room.
text_waits : (taken : Bool) (x : Stage) (n : Next) (len waiting offset frames : ℕ) → is_listing (stage_written taken x) ≡ true → is_listing x ≡ false → (x ≡ Listed More → ⊥) → 128 ≤ len → Because x n len waiting offset frames → 0 < waiting
text_waits false x n len waiting offset frames e f d l b = absurd (let o : ◌≡◌ {A = ℕ} 0 1 = cc in omega arith)
text_waits true Listing n len waiting offset frames e f d l b = absurd (let o : ◌≡◌ {A = ℕ} 0 1 = cc in omega arith)
text_waits true (Listed Going) n len waiting offset frames e f d l b = omega (arith, l, b)
text_waits true (Listed More) n len waiting offset frames e f d l b = absurd (d refl)
text_waits true (Listed Done) n len waiting offset frames e f d l b = absurd (let o : ◌≡◌ {A = ℕ} 0 1 = cc in omega arith)
text_waits true (Listed TooLong) n len waiting offset frames e f d l b = absurd (let o : ◌≡◌ {A = ℕ} 0 1 = cc in omega arith)
text_waits true Unreadable n len waiting offset frames e f d l b = absurd (let o : ◌≡◌ {A = ℕ} 0 1 = cc in omega arith)
text_waits true Unwritable n len waiting offset frames e f d l b = absurd (let o : ◌≡◌ {A = ℕ} 0 1 = cc in omega arith)

-- The next turn comes after a read.
pub read_again : (made : ℕ) (s s' : Session) (window text : List ℕ) → Within made s window text → is_listing s.stage ≡ true → s' ≡ s → Before (made + 1) s' window text
read_again made s s' window text (h, st, d, e) l x = rw x (h, st, listing_stage s.stage l, subst (λ (b : Bool). cond b (made + 1) made ≤ moved h) l e)

-- A run that stops.
ran : (h : History) (s : Session) (window text : List ℕ) → Stands h s window text → ((is_over s.stage ≡ true) × (s.waiting ≡ 0)) ⊎ (greatest ≤ length (capture h) + length (handed h) + 1) → (s.stage ≡ Listed Done → s.waiting ≡ 0) → Ran s window text
ran h s window text st stops z =
    record {
      history = h;
      stands = st;
      stops = stops;
      begun = handed_so_far h s window text st;
      whole = λ e. whole_listing h s window text st e (z e);
      closed = λ e. listing_closed h s window text st e;
    }

module _ (made : ℕ) (s r : Session) (window text lines : List ℕ) (taken : Bool) (w : Within made s window text) (l : is_listing s.stage ≡ false) (p : lines ≡ take s.waiting text) (f : (h : History) (window text : List ℕ) → lines ≡ take s.waiting text → Stands h s window text → Stands (after_write taken lines h) r window text) where
  after : History
  after = after_write taken lines w.0

  stands_after : Stands after r window text
  unfolding after
  stands_after = f w.0 window text p w.1

  -- The next turn comes after a write.
  pub write_again : (s' : Session) → 128 ≤ length text → r.stage ≡ stage_written taken s.stage → is_listing r.stage ≡ true → s' ≡ r → Before (made + 1) s' window text
  unfolding after in_order
  write_again s' room y x z =
      let st = w.1 in
      let some : 0 < s.waiting = text_waits taken s.stage _ _ _ _ _ (ap is_listing (sym y) ∙ x) l w.2 room st.because in
      let n : length lines ≡ s.waiting = ap length p ∙ length-take-le s.waiting text st.room in
      let a = length-append (handed w.0) lines in
      let e : made ≤ moved w.0 = subst (λ (b : Bool). cond b (made + 1) made ≤ moved w.0) l w.3 in
      rw z (after, stands_after, listing_stage r.stage x, omega (arith, some, n, a, e))

  -- The run is over after a write.
  pub write_over : r.waiting ≡ 0 → r.stage ≡ stage_written taken s.stage → is_listing r.stage ≡ false → Ran r window text
  write_over z y x = ran after r window text stands_after (inl (ap is_over y ∙ over_stage taken s.stage (ap is_listing (sym y) ∙ x), z)) (λ _. z)

-- All turns are made.
pub turns_over : (made : ℕ) (s : Session) (window text : List ℕ) → Before made s window text → greatest ≤ made → Ran s window text
turns_over made s window text (h, st, x, e) l = ran h s window text st (inr (at_most (ended h) e)) (λ y. absurd (let o : ◌≡◌ {A = ℕ} 0 1 = cc in omega arith))
  where
    at_most : (b : Bool) → made ≤ length (capture h) + length (handed h) + cond b 1 0 → greatest ≤ length (capture h) + length (handed h) + 1
    at_most true k = omega (arith, k, l)
    at_most false k = omega (arith, k, l)
