-- A session looks at nothing but what its window shows and the text that waits: so it stands where it stood when the window
-- changes and shows the same, a read adds to that what it adds to the capture, and a write hands out what waits. Assumes nothing.
use mathlib.Core.Path.{◌≡◌, refl, sym, ◌∙◌, ap, subst}
use mathlib.Core.Bool.{Bool, true, false, cond}
use mathlib.Core.List.{List, [], ◌∷◌, ◌++◌, append_assoc, append-nil}
use mathlib.Core.Logic.{◌⊎◌, inl, inr}
use Prim.Native.Nat.{ℕ, ◌<◌}
use native.Mathlib.Omega.{arith}
use lib.ListN.{length, take, drop}
use Rattle.std.specs.Prelude.{Option, None, Some}
use Rattle.captures.specs.Following.{Next, more, refused, Rest}
use Rattle.captures.proofs.Followings.{more_is_short, more_may_come}
use Rattle.input_window.specs.Reads.{in_order}
use Rattle.input_window.specs.Reads as input
use Rattle.input_window.specs.Window.{Shows}
use Rattle.input_window.specs.declared.input.Input.{Input}
use Rattle.input_window.proofs.Windows.{ends_by_nothing}
use Rattle.listing_text.specs.Listing.{limit, lines_of, listing}
use Rattle.listing_text.proofs.Lines.{closes_at}
use Rattle.listing_text.specs.declared.listing.State.TheVariants.{Going, More, Done, TooLong}
use Rattle.listing_loop.specs.History.{History, nothing_yet, capture, handed, ended, after_read, after_write}
use Rattle.listing_loop.specs.Stages.{is_failed, stage_read, stage_written}
use Rattle.listing_loop.specs.Standing.{Begins, Because, next, Stands}
use Rattle.listing_loop.specs.declared.session.Session.{Session}
use Rattle.listing_loop.specs.declared.session.Stage.{Stage}
use Rattle.listing_loop.specs.declared.session.Stage.TheVariants.{Listing, Listed, Unreadable, Unwritable}

-- At the start nothing was read, and the whole listing is left.
pub start_stands : (i : Input) → i.offset ≡ 0 → ((window : List ℕ) → Shows [] i window) → (window text : List ℕ) → Stands nothing_yet (record { input = i; frames = 0; waiting = 0; stage = Listing }) window text
unfolding in_order
start_stands i e s window text =
    record { input = s window; room = omega arith; fails = refl; lines = λ rest r. rw e; because = tt }

-- At every stage the text made so far is the start of the listing.
begins_with : (x : Stage) (all made left : List ℕ) → Begins x all made left → (more : List ℕ) × (all ≡ made ++ more)
begins_with Listing all made left b = (left, b)
begins_with (Listed Going) all made left b = (left, b)
begins_with (Listed More) all made left b = (left, b)
begins_with (Listed Done) all made left b = ([], b ∙ sym (append-nil made))
begins_with (Listed TooLong) all made left b = (left, b)
begins_with Unreadable all made left b = (left, b)
begins_with Unwritable all made left b = b

-- What is known at a stage: the lines that are left, why it is there, and whether something failed.
module _ (R : List ℕ → Type 0) (all left : List ℕ → List ℕ) (made : List ℕ) (n : Next) (len offset frames : ℕ) where
  abbrev pub Known : Stage → ℕ → Bool → Type 0
  Known x waiting failed = ((rest : List ℕ) → R rest → Begins x (all rest) made (left rest)) × Because x n len waiting offset frames × (is_failed x ≡ failed)

  -- What a write leaves of it.
  known_then : (taken : Bool) (x : Stage) (waiting : ℕ) (failed : Bool) → Known x waiting failed → Known (stage_written taken x) 0 (cond taken failed true)
  known_then false x waiting failed k = (λ rest r. begins_with x _ _ _ (k.0 rest r), tt, refl)
  known_then true Listing waiting failed k = (k.0, tt, k.2)
  known_then true (Listed Going) waiting failed k = (k.0, tt, k.2)
  known_then true (Listed More) waiting failed k = (k.0, tt, k.2)
  known_then true (Listed Done) waiting failed k = k
  known_then true (Listed TooLong) waiting failed k = k
  known_then true Unreadable waiting failed k = k
  known_then true Unwritable waiting failed k = k

none_left : (ended : Bool) → Rest ended []
none_left true = refl
none_left false = tt

module _ (h : History) (s : Session) (window text : List ℕ) (st : Stands h s window text) where
  -- The window changes, and shows the same.
  pub input_stands : (i : Input) (window' : List ℕ) → Shows h.reads i window' → i.offset ≡ s.input.offset → Stands h (record { input = i; frames = s.frames; waiting = s.waiting; stage = s.stage }) window' text
  input_stands i window' shows e =
      record { input = shows; room = st.room; fails = st.fails; lines = λ rest r. rw e (st.lines rest r); because = rw e st.because }

  module _ (reading : s.stage ≡ Listed More) where
    needs_more : next h s ≡ more
    needs_more = subst (λ (x : Stage). Because x (next h s) (length text) s.waiting s.input.offset s.frames) reading st.because

    -- What is not listed yet is shorter than the longest frame.
    pub left_short : length (drop s.input.offset (capture h)) < 65536
    left_short = (more_is_short (drop s.input.offset (capture h)) (ended h) limit needs_more).1 (omega arith)

    -- The input has not ended.
    pub not_ended : ended h ≡ false
    not_ended = more_may_come (drop s.input.offset (capture h)) (ended h) limit needs_more

    -- So the listing so far is the start of the listing whatever will be read.
    left_so : (rest : List ℕ) → listing (capture h ++ rest) ≡ (handed h ++ take s.waiting text) ++ lines_of (drop s.input.offset (capture h ++ rest)) s.input.offset s.frames
    left_so rest = subst (λ (x : Stage). Begins x (listing (capture h ++ rest)) (handed h ++ take s.waiting text) (lines_of (drop s.input.offset (capture h ++ rest)) s.input.offset s.frames)) reading (st.lines rest (subst (λ (x : Bool). Rest x rest) (sym not_ended) tt))

    -- A read that gave bytes, or failed.
    pub read_stands : (got : Option ℕ) (part : List ℕ) (i : Input) (x : Stage) → Shows (input.after_read got part h.reads) i window → i.offset ≡ s.input.offset → x ≡ stage_read got → Stands (after_read got part h) (record { input = i; frames = s.frames; waiting = s.waiting; stage = x }) window text
    unfolding in_order
    read_stands (Some n) part i x shows e z =
        rw z
        (record {
          input = shows;
          room = st.room;
          fails = sym (sym st.fails ∙ ap is_failed reading);
          lines = λ rest r. rw (e, append_assoc (capture h) (take n part) rest) (left_so (take n part ++ rest));
          because = tt;
        })
    read_stands None part i x shows e z =
        rw z (record { input = shows; room = st.room; fails = refl; lines = λ rest r. rw e (left_so rest); because = rw e needs_more })

  -- A write of the text that waits, which took it or failed.
  pub write_stands : (taken : Bool) (lines : List ℕ) (x : Stage) → lines ≡ take s.waiting text → x ≡ stage_written taken s.stage → Stands (after_write taken lines h) (record { input = s.input; frames = s.frames; waiting = 0; stage = x }) window text
  unfolding in_order
  write_stands taken lines x e z =
      let k = known_then (Rest (ended h)) (λ rest. listing (capture h ++ rest)) (λ rest. lines_of (drop s.input.offset (capture h ++ rest)) s.input.offset s.frames) (handed h ++ take s.waiting text) (next h s) (length text) s.input.offset s.frames taken s.stage s.waiting h.failed (st.lines, st.because, st.fails) in
      rw z (record { input = st.input; room = omega arith; fails = k.2; lines = λ rest r. rw (append-nil, e) (k.0 rest r); because = k.1 })

  -- What was handed to the output is the start of the listing.
  pub handed_so_far : (rest : List ℕ) → Rest (ended h) rest → (left : List ℕ) × (listing (capture h ++ rest) ≡ handed h ++ left)
  handed_so_far rest r =
      let b = begins_with s.stage _ _ _ (st.lines rest r) in
      (take s.waiting text ++ b.0, b.1 ∙ append_assoc (handed h) (take s.waiting text) b.0)

  pub whole_listing : s.stage ≡ Listed Done → s.waiting ≡ 0 → handed h ≡ listing (capture h)
  whole_listing x z =
      let b : listing (capture h ++ []) ≡ handed h ++ take s.waiting text = subst (λ (y : Stage). Begins y (listing (capture h ++ [])) (handed h ++ take s.waiting text) (lines_of (drop s.input.offset (capture h ++ [])) s.input.offset s.frames)) x (st.lines [] (none_left (ended h))) in
      sym (rw (append-nil, z, append-nil) at b)

  pub listing_closed : s.stage ≡ Listed Done → ((earlier : List (List ℕ)) × (h.reads ≡ [] ∷ earlier)) ⊎ ((number : ℕ) × (next h s ≡ refused number))
  listing_closed x = by (closes_at (drop s.input.offset (capture h)) (ended h) (subst (λ (y : Stage). Because y (next h s) (length text) s.waiting s.input.offset s.frames) x st.because))
    where
      by : (ended h ≡ true) ⊎ ((number : ℕ) × (next h s ≡ refused number)) → ((earlier : List (List ℕ)) × (h.reads ≡ [] ∷ earlier)) ⊎ ((number : ℕ) × (next h s ≡ refused number))
      by (inl e) = inl (ends_by_nothing h.reads e)
      by (inr r) = inr r
