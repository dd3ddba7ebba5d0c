-- A step prints the line of what comes next, which the window tells for the capture, and goes on behind it. Steps one
-- after another are one listing. Assumes nothing.
use mathlib.Core.Path.{◌≡◌, refl, sym, ◌∙◌, ap, subst}
use mathlib.Core.Bool.{Bool, true, false, cond}
use mathlib.Core.List.{List, [], ◌∷◌, ◌++◌, append_assoc, append-nil}
use Prim.Native.Nat.{ℕ, suc, ◌+◌, ◌-◌, ◌<◌, ◌≤◌}
use native.Mathlib.Numerals.{add-one}
use native.Mathlib.Omega.{arith}
use lib.Dec.{ltb, eqb}
use lib.ListN.{length, take, drop, length-append, length-drop}
use lib.Seq.{take_all, drop-append-le, drop-drop, get_or-drop}
use borrow.Author.Tests.{lt-ltb, le-ltb, ltb-false, eqb-true, eqb-false}
use Rattle.wire.specs.Buffer.{Holds, holds, splice}
use Rattle.wire.specs.Integers.{Bytes}
use Rattle.wire.proofs.Splice.{splice_none, splice_splice, length_splice}
use Rattle.protocol.specs.Fields.{Fields}
use Rattle.protocol.specs.declared.place.Place.{Place}
use Rattle.rules.specs.Reading.{read_frame}
use Rattle.slots.specs.Flat.{slots_after}
use Rattle.captures.specs.Following.{Next, framed, whole, cut, refused, more, following, Rest, KeySlots}
use Rattle.captures.specs.Answer.{said, told}
use Rattle.captures.specs.declared.walker.Next.{Next as Answer}
use Rattle.captures.specs.declared.walker.Next.TheVariants.{Frame}
use Rattle.captures.proofs.Followings.{Tells, tells, framed_there, slots_tell, window_known}
use Rattle.listing_lines.specs.Text.{ascii, joined, puts}
use Rattle.listing_lines.specs.Line.{frame_line, cut_line, refused_line, closing_line}
use Rattle.listing_lines.specs.Printed.{Prints}
use Rattle.listing_lines.specs.declared.text.Text.{Text}
use Rattle.listing_lines.proofs.Texts.{joined_append, puts_fit, decimal_most, hex_length, joined_most}
use Rattle.listing_text.specs.Listing.{limit, closes, lines_from, lines_of}
use Rattle.listing_text.specs.Steps.{greatest, too_long, begun, halted, advanced, printed, moved, Steps, behind, Lists, Stopped, Stops}
use Rattle.listing_text.specs.declared.listing.Progress.{Progress}
use Rattle.listing_text.specs.declared.listing.State.{State}
use Rattle.listing_text.specs.declared.listing.State.TheVariants.{Going, More, Done, TooLong}
use Rattle.listing_text.proofs.Lines.{lines_unfold}

-- No step prints more than 128 bytes: a number has at most 20 digits.
printed_most : (n : Next) (p : Progress) → length (joined (printed n p)) ≤ 128
printed_most (framed f total) p = by (too_long p.offset p.frames total)
  where
    by : (t : Bool) → length (joined (cond t [] (frame_line p.offset total f.key f.version))) ≤ 128
    by true = let h = joined_most [] [] tt in omega (arith, h)
    by false = let k = hex_length f.key in let h = joined_most (frame_line p.offset total f.key f.version) (20 ∷ 1 ∷ 20 ∷ 1 ∷ 4 ∷ 1 ∷ 20 ∷ 1 ∷ []) (decimal_most _, (omega arith, (decimal_most _, (omega arith, (omega (arith, k), (omega arith, (decimal_most _, (omega arith, tt)))))))) in omega (arith, h)
printed_most whole p = let h = joined_most (printed whole p) (7 ∷ 20 ∷ 7 ∷ []) (omega arith, (decimal_most _, (omega arith, tt))) in omega (arith, h)
printed_most (cut left needed) p = let h = joined_most (printed (cut left needed) p) (20 ∷ 5 ∷ 20 ∷ 4 ∷ 20 ∷ 1 ∷ 7 ∷ 20 ∷ 5 ∷ []) (decimal_most _, (omega arith, (decimal_most _, (omega arith, (decimal_most _, (omega arith, (omega arith, (decimal_most _, (omega arith, tt))))))))) in omega (arith, h)
printed_most (refused number) p = let h = joined_most (printed (refused number) p) (20 ∷ 9 ∷ 20 ∷ 1 ∷ 7 ∷ 20 ∷ 9 ∷ []) (decimal_most _, (omega arith, (decimal_most _, (omega arith, (omega arith, (decimal_most _, (omega arith, tt))))))) in omega (arith, h)
printed_most more p = let h = joined_most [] [] tt in omega (arith, h)

-- What is known after a step by its state: the listing has gone on, or why it has not.
abbrev Went : Progress → List ℕ → Bool → State → Progress → Type 0
Went p w ended Going r = p.from < r.from
Went p w ended More r = Stopped More w ended 0 r
Went p w ended Done r = Stopped Done w ended 0 r
Went p w ended TooLong r = Stopped TooLong w ended 0 r

module _ (w : List ℕ) (ended : Bool) (p : Progress) (inside : p.from ≤ length w) where
  lines_next : (n : Next) → following (drop p.from w) ended limit ≡ n → (n ≡ more → ⊥) → (rest : List ℕ) → Rest ended rest → lines_of (drop p.from (w ++ rest)) p.offset p.frames ≡ lines_from n p.offset p.frames (λ t. lines_of (drop t (drop p.from (w ++ rest))) (p.offset + t) (suc p.frames))
  lines_next n e d rest r =
      let f : following (drop p.from (w ++ rest)) true limit ≡ n = rw (drop-append-le p.from w rest inside) (window_known (drop p.from w) rest ended limit n r e d) in
      lines_unfold (drop p.from (w ++ rest)) p.offset p.frames
      ∙ ap (λ (x : Next). lines_from x p.offset p.frames (λ t. lines_of (drop t (drop p.from (w ++ rest))) (p.offset + t) (suc p.frames))) f

  -- Where a step leads.
  abbrev Leads : List ℕ → Progress → Type 0
  Leads text r = (r.from ≤ length w) × (r.offset + p.from ≡ p.offset + r.from) × ((rest : List ℕ) → Rest ended rest → lines_of (drop p.from (w ++ rest)) p.offset p.frames ≡ text ++ behind r.state (lines_of (drop r.from (w ++ rest)) r.offset r.frames))

  stays_there : (at : ℕ) (s : State) (ps : List (List ℕ)) → ps ≡ [] → ((l : List ℕ) → behind s l ≡ l) → Leads (joined ps) (halted p at s)
  unfolding joined
  stays_there at s ps e b = (inside, refl, λ rest r. rw (e, b (lines_of (drop p.from (w ++ rest)) p.offset p.frames)))

  closing : (n : Next) (at : ℕ) → following (drop p.from w) ended limit ≡ n → (n ≡ more → ⊥) → ((f : ℕ → List ℕ) → lines_from n p.offset p.frames f ≡ joined (printed n p)) → Leads (joined (printed n p)) (halted p at Done)
  closing n at e d g = (inside, refl, λ rest r. lines_next n e d rest r ∙ (g _ ∙ sym (append-nil (joined (printed n p)))))

  leads : (n : Next) (at : ℕ) → following (drop p.from w) ended limit ≡ n → Leads (joined (printed n p)) (moved n p at)
  leads (framed f total) at e = by (too_long p.offset p.frames total)
    where
      there : total ≤ length (drop p.from w)
      there = (framed_there (drop p.from w) ended limit f total e).1

      on : (rest : List ℕ) → drop total (drop p.from (w ++ rest)) ≡ drop (p.from + total) (w ++ rest)
      on rest = drop-drop total p.from (w ++ rest)

      by : (t : Bool) → Leads (joined (cond t [] (frame_line p.offset total f.key f.version))) (cond t (halted p at TooLong) (advanced p total at))
      by true = stays_there at TooLong [] refl (λ l. refl)
      by false = (
        let l = length-drop p.from w in omega (arith, there, l, inside),
        omega arith,
        λ rest r. lines_next (framed f total) e (λ z. absurd (let o : ◌≡◌ {A = ℕ} 0 1 = cc in omega arith)) rest r
            ∙ ap (λ (s : List ℕ). joined (frame_line p.offset total f.key f.version) ++ lines_of s (p.offset + total) (suc p.frames)) (on rest)
            ∙ ap (λ (k : ℕ). joined (frame_line p.offset total f.key f.version) ++ lines_of (drop (p.from + total) (w ++ rest)) (p.offset + total) k) (sym (add-one p.frames)),
      )
  leads whole at e = closing whole at e (λ z. absurd (let o : ◌≡◌ {A = ℕ} 0 1 = cc in omega arith)) (λ f. refl)
  leads (cut left needed) at e = closing (cut left needed) at e (λ z. absurd (let o : ◌≡◌ {A = ℕ} 0 1 = cc in omega arith)) (λ f. sym (joined_append (cut_line p.offset left needed) (closing_line p.frames (ascii " cut\n"))))
  leads (refused number) at e = closing (refused number) at e (λ z. absurd (let o : ◌≡◌ {A = ℕ} 0 1 = cc in omega arith)) (λ f. sym (joined_append (refused_line p.offset number) (closing_line p.frames (ascii " refused\n"))))
  leads more at e = stays_there at More [] refl (λ l. refl)

  module _ (entry exit : List ℕ) (r : Progress) (n : Next) (e : following (drop p.from w) ended limit ≡ n) (s : Steps n p entry exit r) where
    pub step_lists : p.written + 128 ≤ length entry → Lists w ended p entry exit r
    step_lists room =
        let most = printed_most n p in
        let fits : p.written + length (joined (printed n p)) ≤ length entry = omega (arith, most, room) in
        let h : holds exit r.written ≡ holds (splice entry p.written (joined (printed n p))) (p.written + length (joined (printed n p))) = s.text ∙ puts_fit entry p.written (printed n p) fits in
        let l : Leads (joined (printed n p)) r = subst (Leads (joined (printed n p))) (sym s.place) (leads n r.written e) in
        let at : r.written ≡ p.written + length (joined (printed n p)) = ap (λ (x : Holds). x.next) h in
        record { text = joined (printed n p); put = ap (λ (x : Holds). x.bytes) h; written = at; room = rw at fits; within = l.0; place = l.1; lines = l.2 }

    -- It has gone on, or says why not.
    pub went : Went p w ended r.state r
    went = subst (λ (x : Progress). Went p w ended x.state x) (sym s.place) (of n e)
      where
        of : (n : Next) → following (drop p.from w) ended limit ≡ n → Went p w ended (moved n p r.written).state (moved n p r.written)
        of (framed f total) e = by (too_long p.offset p.frames total) refl
          where
            by : (t : Bool) → too_long p.offset p.frames total ≡ t → Went p w ended (cond t (halted p r.written TooLong) (advanced p total r.written)).state (cond t (halted p r.written TooLong) (advanced p total r.written))
            by true q = (f, total, e, q)
            by false q = let a = framed_there (drop p.from w) ended limit f total e in omega (arith, a.0)
        of whole e = ap closes e
        of (cut left needed) e = ap closes e
        of (refused number) e = ap closes e
        of more e = e

    pub went_on : r.state ≡ Going → p.from < r.from
    went_on g = subst (λ (x : State). Went p w ended x r) g went

    pub stops : (len : ℕ) → (r.state ≡ Going → ⊥) → Stops w ended len r
    stops len d = by r.state d went
      where
        by : (x : State) → (x ≡ Going → ⊥) → Went p w ended x r → Stopped x w ended len r
        by Going d g = absurd (d refl)
        by More d g = g
        by Done d g = g
        by TooLong d g = g

-- The same length.
pub lists_length : (w : List ℕ) (ended : Bool) (p : Progress) (entry exit : List ℕ) (r : Progress) → Lists w ended p entry exit r → length exit ≡ length entry
lists_length w ended p entry exit r l =
    let h : p.written + length l.text ≤ length entry = subst (λ (n : ℕ). n ≤ length entry) l.written l.room in
    rw l.put (length_splice entry l.text p.written h)

pub lists_start : (w : List ℕ) (ended : Bool) (entry : List ℕ) (offset frames : ℕ) → Lists w ended (begun offset frames) entry entry (begun offset frames) × ((begun offset frames).state ≡ Going)
lists_start w ended entry offset frames = (record { text = []; put = splice_none entry 0; written = refl; room = omega arith; within = omega arith; place = refl; lines = λ rest r. refl }, refl)

pub lists_more : (w : List ℕ) (ended : Bool) (p q r : Progress) (a b c : List ℕ) → Lists w ended p a b q → q.state ≡ Going → Lists w ended q b c r → Lists w ended p a c r
lists_more w ended p q r a b c l g m =
    let k : length b ≡ length a = lists_length w ended p a b q l in
    let n : length (l.text ++ m.text) ≡ length l.text + length m.text = length-append l.text m.text in
    let x = l.written in
    let y = m.written in
    let z = m.room in
    let h : p.written + length l.text + length m.text ≤ length a = omega (arith, k, x, y, z) in
    record {
      text = l.text ++ m.text;
      put = m.put ∙ (ap (λ (s : List ℕ). splice s q.written m.text) l.put ∙ (ap (λ (i : ℕ). splice (splice a p.written l.text) i m.text) x ∙ splice_splice a l.text m.text p.written h));
      written = omega (arith, n, x, y);
      room = omega (arith, k, z);
      within = m.within;
      place = let i = l.place in let j = m.place in omega (arith, i, j);
      lines = λ rest f. l.lines rest f
          ∙ (ap (λ (s : State). l.text ++ behind s (lines_of (drop q.from (w ++ rest)) q.offset q.frames)) g
          ∙ (ap (λ (s : List ℕ). l.text ++ s) (m.lines rest f) ∙ sym (append_assoc l.text m.text _)));
    }

-- The tests of the code.
pub offset_long : (offset frames total : ℕ) → greatest - offset < total → true ≡ too_long offset frames total
unfolding too_long
offset_long offset frames total h = rw (lt-ltb greatest (offset + total) (omega (arith, h)))

pub frames_long : (offset frames total : ℕ) (t : Bool) → offset < suc greatest → frames < suc greatest → total ≤ greatest - offset → t ≡ eqb frames greatest → t ≡ too_long offset frames total
unfolding too_long
frames_long offset frames total t a b h e = rw (le-ltb greatest (offset + total) (omega (arith, a, h))) (by (eqb frames greatest) refl)
  where
    by : (u : Bool) → eqb frames greatest ≡ u → t ≡ ltb greatest (frames + 1)
    by true q = let l = eqb-true frames greatest q in e ∙ (q ∙ sym (lt-ltb greatest (frames + 1) (omega (arith, l))))
    by false q = let l = eqb-false frames greatest q in e ∙ (q ∙ sym (le-ltb greatest (frames + 1) (omega (arith, l, b))))

-- A frame that is not too long.
pub not_long : (offset frames total : ℕ) → too_long offset frames total ≡ false → (offset + total ≤ greatest) × (frames + 1 ≤ greatest)
unfolding too_long
not_long offset frames total = by (ltb greatest (offset + total)) refl
  where
    by : (t : Bool) → ltb greatest (offset + total) ≡ t → cond t true (ltb greatest (frames + 1)) ≡ false → (offset + total ≤ greatest) × (frames + 1 ≤ greatest)
    by true q e = absurd (let o : ◌≡◌ {A = ℕ} 0 1 = cc in omega arith)
    by false q e = (ltb-false _ _ q, ltb-false _ _ e)

moved_written : (n : Next) (p : Progress) (at : ℕ) → (moved n p at).written ≡ at
moved_written (framed f total) p at = by (too_long p.offset p.frames total)
  where
    by : (t : Bool) → (cond t (halted p at TooLong) (advanced p total at)).written ≡ at
    by true = refl
    by false = refl
moved_written whole p at = refl
moved_written (cut left needed) p at = refl
moved_written (refused number) p at = refl
moved_written more p at = refl

-- A step, by what it puts behind a text that has as many bytes as are written.
pub steps_by : (n : Next) (p : Progress) {old new : Text} (exit : List ℕ) (r : Progress) → Prints (printed n p) old new → old.len ≡ p.written → exit ≡ new.out.now → r ≡ moved n p new.len → Steps n p old.out.now exit r
steps_by n p {old = old} {new = new} exit r e l x m =
    let w : r.written ≡ new.len = ap (λ (q : Progress). q.written) m ∙ moved_written n p new.len in
    record { text = let t = e.text in cc; place = m ∙ ap (moved n p) (sym w) }

pub frame_steps : (f : Fields Place) (total key version : ℕ) (p : Progress) {old new : Text} (exit : List ℕ) (r : Progress) → f.key ≡ key → f.version ≡ version → Prints (cond (too_long p.offset p.frames total) [] (frame_line p.offset total key version)) old new → old.len ≡ p.written → exit ≡ new.out.now → r ≡ moved (framed f total) p new.len → Steps (framed f total) p old.out.now exit r
frame_steps f total key version p {old = old} {new = new} exit r k v e = steps_by (framed f total) p {old = old} {new = new} exit r (rw (k, v) e)

pub steps_more : (p : Progress) (out : List ℕ) (r : Progress) → r ≡ halted p p.written More → Steps more p out out r
unfolding puts
steps_more p out r g = rw g (record { text = refl; place = refl })

-- A frame at a place of the window lies in it, and its key and version are in the slots.
pub record FrameAt (w : List ℕ) (from : ℕ) (ended : Bool) (len : ℕ) (slots : List ℕ) : Type 0 where
  pub fields : Fields Place
  pub next : following (drop from w) ended limit ≡ framed fields len
  pub keyed : KeySlots fields slots
  pub inside : from ≤ length w → from + len ≤ length w

-- What the walker tells of the window from a place on, as it is lent.
module _ (w : List ℕ) (from : ℕ) (ended : Bool) (r : Answer) (e : said r ≡ told (following (take (length w - from) (drop from w)) ended limit)) where
  lent : take (length w - from) (drop from w) ≡ drop from w
  lent = take_all (length w - from) (drop from w) (rw (length-drop from w) (omega arith))

  pub next_is : (x : Answer) → r ≡ x → Tells (said x) (following (drop from w) ended limit)
  next_is x g = tells (said x) _ (sym (ap said g) ∙ (rw lent at e))

  pub frame_is : (len : ℕ) (old slots : List ℕ) → r ≡ Frame len → Bytes w → slots ≡ slots_after old (read_frame (take (length w - from) (drop from w)) limit) → FrameAt w from ended len slots
  unfolding Bytes
  frame_is len old slots g b i =
      let n = next_is (Frame len) g in
      let there = framed_there (drop from w) ended limit n.0 len n.1 in
      let l = length-drop from w in
      record {
        fields = n.0;
        next = n.1;
        keyed = rw (i, lent) (slots_tell (drop from w) old ended limit n.0 len (λ j. rw (get_or-drop from w j 0) (b (from + j))) n.1);
        inside = λ h. omega (arith, there.1, l, h);
      }
