-- What the window holds is what was read from the offset on. So a listing of it makes the lines that come next in the listing of
-- the capture, and stops for a reason that holds of the capture too. Assumes nothing.
use mathlib.Core.Path.{◌≡◌, sym, ◌∙◌, ap, subst}
use mathlib.Core.Bool.{Bool, false}
use mathlib.Core.List.{List, ◌++◌, append_assoc, append-nil}
use Prim.Native.Nat.{ℕ, ◌+◌, ◌-◌, ◌≤◌, ◌<◌}
use native.Mathlib.Omega.{arith}
use lib.ListN.{length, take, drop, length-append, length-drop, length-take}
use lib.Seq.{length-take-le, take-append-add, take-append_seam, drop-drop, drop-append-le}
use Rattle.wire.specs.Buffer.{splice}
use Rattle.captures.specs.Following.{Next, following, Rest}
use Rattle.input_window.specs.Window.{Shows}
use Rattle.input_window.specs.declared.input.Input.{Input}
use Rattle.listing_text.specs.Listing.{limit, closes, lines_of, listing}
use Rattle.listing_text.specs.Steps.{behind, Lists, Stopped, Stops}
use Rattle.listing_text.proofs.Listings.{lists_length}
use Rattle.listing_text.specs.declared.listing.Progress.{Progress}
use Rattle.listing_text.specs.declared.listing.State.{State}
use Rattle.listing_text.specs.declared.listing.State.TheVariants.{Going, More, Done, TooLong}
use Rattle.listing_loop.specs.History.{History, capture, handed, ended}
use Rattle.listing_loop.specs.Stages.{is_failed}
use Rattle.listing_loop.specs.Standing.{Begins, Stands}
use Rattle.listing_loop.specs.declared.session.Session.{Session}
use Rattle.listing_loop.specs.declared.session.Stage.{Stage}
use Rattle.listing_loop.specs.declared.session.Stage.TheVariants.{Listing, Listed}
use Rattle.listing_loop.proofs.Standings.{Known}

-- By the state in which the listing of the window stopped.
module _ (R : List ℕ → Type 0) (all left : List ℕ → List ℕ) (made : List ℕ) (n : Next) (len : ℕ) (p : Progress) where
  known_after : (x : State) (w : List ℕ) (ended : Bool) (room waiting : ℕ) (failed : Bool) → ((rest : List ℕ) → R rest → all rest ≡ made ++ behind x (left rest)) → following (drop p.from w) ended limit ≡ n → len ≡ waiting + room → Stopped x w ended room p → false ≡ failed → Known R all left made n len p.offset p.frames (Listed x) (waiting + p.written) failed
  known_after Going w ended room waiting failed b e l h f = (b, omega (arith, l, h), f)
  known_after More w ended room waiting failed b e l h f = (b, sym e ∙ h, f)
  known_after Done w ended room waiting failed b e l h f = (λ rest r. b rest r ∙ append-nil made, ap closes (sym e) ∙ h, f)
  known_after TooLong w ended room waiting failed b e l h f = (b, (h.0, h.1, sym e ∙ h.2, h.3), f)

-- The text that waits then: the text that waited, and the lines made.
text_after : (text text' part lines : List ℕ) (waiting : ℕ) → waiting ≤ length text → text' ≡ take waiting text ++ (part ++ drop (length text - waiting) (drop waiting text)) → part ≡ splice (take (length text - waiting) (drop waiting text)) 0 lines → take (waiting + length lines) text' ≡ take waiting text ++ lines
unfolding splice
text_after text text' part lines waiting h e f =
    let a : List ℕ = take waiting text in
    let x : List ℕ = part ++ drop (length text - waiting) (drop waiting text) in
    let room : List ℕ = take (length text - waiting) (drop waiting text) in
    let l : length a ≡ waiting = length-take-le waiting text h in
    let g : x ≡ lines ++ (drop (0 + length lines) room ++ drop (length text - waiting) (drop waiting text)) = ap (λ (b : List ℕ). b ++ drop (length text - waiting) (drop waiting text)) f ∙ append_assoc lines _ _ in
    ap (take (waiting + length lines)) e
    ∙ (ap (λ (n : ℕ). take (n + length lines) (a ++ x)) (sym l)
    ∙ (take-append-add a x (length lines) ∙ ap (λ (b : List ℕ). a ++ b) (ap (take (length lines)) g ∙ take-append_seam lines _)))

module _ (h : History) (s : Session) (window text : List ℕ) (st : Stands h s window text) (listing_on : s.stage ≡ Listing) where
  -- What the window shows, and the text's room.
  abbrev left : List ℕ
  left = drop s.input.offset (capture h)

  abbrev free : List ℕ
  free = take (length text - s.waiting) (drop s.waiting text)

  room_length : length text ≡ s.waiting + length free
  room_length = let i = length-take (length text - s.waiting) (drop s.waiting text) in let j = length-drop s.waiting text in omega (arith, i, j, st.room)

  module _ (p : Progress) (part text' : List ℕ) (t : text' ≡ take s.waiting text ++ (part ++ drop (length text - s.waiting) (drop s.waiting text))) (l : Lists left (ended h) (record { from = 0; offset = s.input.offset; frames = s.frames; written = 0; state = Going }) free part p) where
    same : length text' ≡ length text
    same =
        let rest : List ℕ = drop (length text - s.waiting) (drop s.waiting text) in
        let a = ap length t in
        let b = length-append (take s.waiting text) (part ++ rest) in
        let c = length-append part rest in
        let d = length-take-le s.waiting text st.room in
        let f = lists_length _ _ _ _ _ _ l in
        let g = length-drop (length text - s.waiting) (drop s.waiting text) in
        let i = length-drop s.waiting text in
        omega (arith, a, b, c, d, f, g, i, room_length)

    further : p.offset ≡ s.input.offset + p.from
    further = omega (arith, l.place)

    -- The bytes from the new place on, in what was read and with whatever follows.
    rest_then : (x : List ℕ) → drop p.from (drop s.input.offset x) ≡ drop p.offset x
    rest_then x = drop-drop p.from s.input.offset x ∙ ap (λ (n : ℕ). drop n x) (sym further)

    lines_then : (rest : List ℕ) → Rest (ended h) rest → listing (capture h ++ rest) ≡ (handed h ++ take (s.waiting + p.written) text') ++ behind p.state (lines_of (drop p.offset (capture h ++ rest)) p.offset p.frames)
    lines_then rest r =
        let made : List ℕ = handed h ++ take s.waiting text in
        let b : listing (capture h ++ rest) ≡ made ++ lines_of (drop s.input.offset (capture h ++ rest)) s.input.offset s.frames = subst (λ (x : Stage). Begins x (listing (capture h ++ rest)) made (lines_of (drop s.input.offset (capture h ++ rest)) s.input.offset s.frames)) listing_on (st.lines rest r) in
        let c : drop s.input.offset (capture h ++ rest) ≡ left ++ rest = drop-append-le s.input.offset (capture h) rest st.input.within in
        let f : drop p.from (left ++ rest) ≡ drop p.offset (capture h ++ rest) = ap (drop p.from) (sym c) ∙ rest_then (capture h ++ rest) in
        let w : s.waiting + p.written ≡ s.waiting + length l.text = omega (arith, l.written) in
        let g : take (s.waiting + p.written) text' ≡ take s.waiting text ++ l.text = ap (λ (n : ℕ). take n text') w ∙ text_after text text' part l.text s.waiting st.room t l.put in
        let after : List ℕ = behind p.state (lines_of (drop p.offset (capture h ++ rest)) p.offset p.frames) in
        b
        ∙ (ap (λ (y : List ℕ). made ++ lines_of y s.input.offset s.frames) c
        ∙ (ap (λ (y : List ℕ). made ++ y) (l.lines rest r)
        ∙ (ap (λ (y : List ℕ). made ++ (l.text ++ behind p.state (lines_of y p.offset p.frames))) f
        ∙ (sym (append_assoc made l.text after)
        ∙ ap (λ (y : List ℕ). y ++ after) (append_assoc (handed h) (take s.waiting text) l.text ∙ ap (λ (y : List ℕ). handed h ++ y) (sym g))))))

    stands_then : (i : Input) (x : Stage) → Shows h.reads i window → i.offset ≡ s.input.offset + p.from → x ≡ Listed p.state → Stops left (ended h) (length free) p → Stands h (record { input = i; frames = p.frames; waiting = s.waiting + p.written; stage = x }) window text'
    stands_then i x shows o z e =
        let at : i.offset ≡ p.offset = o ∙ sym further in
        let k = known_after (Rest (ended h)) (λ rest. listing (capture h ++ rest)) (λ rest. lines_of (drop p.offset (capture h ++ rest)) p.offset p.frames) (handed h ++ take (s.waiting + p.written) text') (following (drop p.offset (capture h)) (ended h) limit) (length text') p p.state left (ended h) (length free) s.waiting h.failed lines_then (ap (λ (y : List ℕ). following y (ended h) limit) (rest_then (capture h))) (same ∙ room_length) e (ap is_failed (sym listing_on) ∙ st.fails) in
        rw z (record { input = shows; room = omega (arith, same, room_length, l.room); fails = k.2; lines = λ rest r. rw at (k.0 rest r); because = rw at k.1 })

  -- What is lent of the window, w, is what it shows, and what is listed of it is taken.
  pub listed_stands : (p : Progress) (part text' w : List ℕ) (i : Input) (x : Stage) → w ≡ left → text' ≡ take s.waiting text ++ (part ++ drop (length text - s.waiting) (drop s.waiting text)) → Lists w s.input.ended (record { from = 0; offset = s.input.offset; frames = s.frames; written = 0; state = Going }) free part p → Stops w s.input.ended (length free) p → (p.from ≤ length left → s.input.offset + p.from < 0x1_0000_0000_0000_0000 → Shows h.reads i window × (i.offset ≡ s.input.offset + p.from)) → p.offset < 0x1_0000_0000_0000_0000 → x ≡ Listed p.state → Stands h (record { input = i; frames = p.frames; waiting = s.waiting + p.written; stage = x }) window text'
  listed_stands p part text' w i x q t l e f fits z =
      let l' : Lists left (ended h) (record { from = 0; offset = s.input.offset; frames = s.frames; written = 0; state = Going }) free part p = rw (q, st.input.ends) at l in
      let g = f l'.within (omega (arith, fits, l'.place)) in
      stands_then p part text' t l' i x g.0 g.1 z (rw (q, st.input.ends) at e)
