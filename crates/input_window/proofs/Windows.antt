-- A window shows nothing but the bytes that it holds: so it may change past them, what is moved to its front stays what it was,
-- and a read adds to them what it adds to the input. Assumes nothing.
use mathlib.Core.Path.{◌≡◌, refl, sym, ◌∙◌, ap, subst}
use mathlib.Core.Bool.{Bool, true, false}
use mathlib.Core.List.{List, [], ◌∷◌, ◌++◌}
use Prim.Native.Nat.{ℕ, ◌+◌, ◌-◌, ◌≤◌, ◌<◌, min}
use native.Mathlib.Omega.{arith}
use lib.Dec.{leb, eqb}
use lib.ListN.{length, take, drop, length-append, length-drop, length-take}
use lib.Seq.{slice, paste, length-slice, length-take-le, take-add, take_at, take_all, take-length, drop_at, drop-drop, drop-append-le}
use borrow.Author.Tests.{leb-true, leb-false, eq-eqb, ne_eqb}
use Rattle.std.specs.Prelude.{Option, Some}
use Rattle.input_window.specs.Reads.{in_order, ended, EndsByNothing, after_read}
use Rattle.input_window.specs.Window.{Shows}
use Rattle.input_window.specs.declared.input.Input.{Input}

-- ---- The input's end

pub ends_by_nothing : EndsByNothing
unfolding ended
ends_by_nothing [] e = absurd (let o : ◌≡◌ {A = ℕ} 0 1 = cc in omega arith)
ends_by_nothing ([] ∷ earlier) e = (earlier, refl)
ends_by_nothing ((b ∷ last) ∷ earlier) e = absurd (let o : ◌≡◌ {A = ℕ} 0 1 = cc in omega arith)

ended_by : (given : List ℕ) (earlier : List (List ℕ)) (m : ℕ) → m ≡ length given → eqb m 0 ≡ ended (given ∷ earlier)
unfolding ended
ended_by [] earlier m e = eq-eqb m 0 e
ended_by (b ∷ given) earlier m e = ne_eqb m 0 (λ z. absurd (omega (arith, e, z)))

-- ---- What a window shows

pub start_shows : (window : List ℕ) → Shows [] (record { from = 0; held = 0; offset = 0; ended = false }) window
unfolding in_order ended
start_shows window = record { order = omega arith; inside = omega arith; ends = refl; within = omega arith; rest = refl }

-- The part of a window that is lent is the part between two places.
between : (w : List ℕ) (from held : ℕ) → from ≤ held → held ≤ length w → take (held - from) (drop from w) ≡ slice from held w
between w from held o h =
    let e : from + (held - from) ≡ held = omega arith in
    let k : from ≤ length w = omega arith in
    sym (drop_at (take from w) (take (held - from) (drop from w)) from (length-take-le from w k))
    ∙ (ap (drop from) (sym (take-add from (held - from) w)) ∙ ap (λ (n : ℕ). drop from (take n w)) e)

-- The places of a window that shows something are inside.
pub placed : (reads : List (List ℕ)) (at r : Input) (window : List ℕ) → Shows reads at window → (at.from ≤ at.held → at.held ≤ length window → r ≡ at) → Shows reads r window
placed reads at r window s e = rw (e s.order s.inside) s

module _ (reads : List (List ℕ)) (at : Input) (window : List ℕ) (s : Shows reads at window) where
  abbrev left : List ℕ
  left = drop at.offset (in_order reads)

  pub shown : take (at.held - at.from) (drop at.from window) ≡ left
  shown = between window at.from at.held s.order s.inside ∙ s.rest

  pub left_length : length left ≡ at.held - at.from
  left_length = sym (ap length s.rest) ∙ length-slice at.from at.held window s.inside

  pub placed_length : (r : Input) → (at.from ≤ at.held → at.held ≤ length window → r ≡ at) → length left ≡ r.held - r.from
  placed_length r e = rw (e s.order s.inside) left_length

  -- The window changes past the bytes that are held.
  pub kept_shows : (window' : List ℕ) → take at.held window' ≡ take at.held window → length window' ≡ length window → Shows reads at window'
  kept_shows window' e l =
      record { order = s.order; inside = rw l s.inside; ends = s.ends; within = s.within; rest = ap (drop at.from) e ∙ s.rest }

  -- What is not taken yet, moved to the front.
  pub front_shows : (window' : List ℕ) → window' ≡ paste window 0 (drop at.from window) (at.held - at.from) → length window' ≡ length window → Shows reads (record { from = 0; held = at.held - at.from; offset = at.offset; ended = at.ended }) window'
  front_shows window' e k =
      let b : List ℕ = take (at.held - at.from) (drop at.from window) in
      let i = s.inside in
      let l : length b ≡ at.held - at.from = ap length shown ∙ left_length in
      record {
        order = omega arith;
        inside = omega (arith, k, i);
        ends = s.ends;
        within = s.within;
        rest = rw e (take_at b (drop (0 + (at.held - at.from)) window) (at.held - at.from) l) ∙ shown;
      }

  -- n bytes further.
  pub taken_shows : (n : ℕ) → n ≤ length left → Shows reads (record { from = at.from + n; held = at.held; offset = at.offset + n; ended = at.ended }) window
  taken_shows n h =
      let l = left_length in
      let k = length-drop at.offset (in_order reads) in
      record {
        order = omega (arith, h, l, s.order);
        inside = s.inside;
        ends = s.ends;
        within = omega (arith, h, k, s.within);
        rest = sym (drop-drop n at.from (take at.held window)) ∙ (ap (drop n) s.rest ∙ drop-drop n at.offset (in_order reads));
      }

  -- A read that gave so many bytes.
  module _ (n m : ℕ) (e : m ≡ min n (length (drop at.held window))) where
    abbrev part : List ℕ
    part = drop at.held window

    all_given : take m part ≡ take n part
    all_given = by (leb n (length part)) refl
      where
        by : (t : Bool) → leb n (length part) ≡ t → take m part ≡ take n part
        by true q = let l = leb-true n (length part) q in let z : m ≡ n = omega (arith, e, l) in rw z
        by false q = let l = leb-false n (length part) q in let z : m ≡ length part = omega (arith, e, l) in rw z (take-length part ∙ sym (take_all n part (omega (arith, l))))

    held_then : slice at.from (at.held + m) window ≡ drop at.offset (in_order reads ++ take n part)
    held_then =
        let k = length-take-le at.held window s.inside in
        let f : at.from ≤ length (take at.held window) = omega (arith, k, s.order) in
        ap (drop at.from) (take-add at.held m window)
        ∙ (drop-append-le at.from (take at.held window) (take m part) f
        ∙ (ap (λ (x : List ℕ). x ++ take m part) s.rest
        ∙ (ap (λ (x : List ℕ). left ++ x) all_given ∙ sym (drop-append-le at.offset (in_order reads) (take n part) s.within))))

    gave_shows : Shows (take n part ∷ reads) (record { from = at.from; held = at.held + m; offset = at.offset; ended = eqb m 0 }) window
    unfolding in_order
    gave_shows =
        let l = length-drop at.held window in
        record {
          order = omega (arith, s.order);
          inside = omega (arith, e, l, s.inside);
          ends = ended_by (take n part) reads m (e ∙ sym (length-take n part));
          within = rw (length-append (in_order reads) (take n part)) (omega (arith, s.within));
          rest = held_then;
        }

  -- It was counted from the places that the window has.
  pub received_shows : (r : Input) → (at.from ≤ at.held → at.held ≤ length window → r ≡ at) → (got : Option ℕ) (n m : ℕ) → got ≡ Some n → m ≡ min n (length window - r.held) → Shows (after_read got (drop at.held window) reads) (record { from = r.from; held = r.held + m; offset = r.offset; ended = eqb m 0 }) window
  received_shows r i got n m z = subst (λ (x : Input). m ≡ min n (length window - x.held) → Shows (after_read got (drop at.held window) reads) (record { from = x.from; held = x.held + m; offset = x.offset; ended = eqb m 0 }) window) (sym (i s.order s.inside)) (λ e. rw z (gave_shows n m (rw (length-drop at.held window) e)))
