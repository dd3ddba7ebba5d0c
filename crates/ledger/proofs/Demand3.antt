-- Demand 3 holds of every list of calls. After each call the ledger has of every id what the history says of it: a call
-- changes one entry, and by as much as it adds to the history's sums. So the ledger's answers are the history's; and
-- what an id's entry is depends on the calls for that id alone. Assumes nothing.
use Prim.Native.Nat.{ℕ, ◌+◌, ◌≤◌, ◌<◌}
use mathlib.Core.Path.{◌≡◌, refl, sym, ap, ap₂, ◌∙◌, subst, fun_ext}
use mathlib.Core.Logic.{◌↔◌}
use mathlib.Core.Bool.{Bool, true, false, cond}
use mathlib.Core.List.{List, [], ◌∷◌, ◌++◌, reverse, reverse_aux}
use mathlib.Core.Option.{Option, none, some}
use native.Mathlib.Omega.{arith}
use borrow.Author.Tests.{leb-true, leb-false, le-leb, eqb-true, eqb-false}
use lib.ListN.{length, length-replicate}
use lib.Dec.{leb, eqb}
use Rattle.protocol.specs.Refusals.{over_limit}
use Rattle.ledger.specs.Calls.{Op, start, add, take, stop, Purpose, for_id, Answer, accepted, refused, Accepted, answer_by}
use Rattle.ledger.specs.Rules.{Entry, closed, opened, most, refusal, effect, empty, Sized, entry_at, store, keep_or, ledger_at, Act, aside, at, Terms, answer_to, ledger_after, purpose_of}
use Rattle.ledger.specs.History.{opening, added, taken, refusal_by, refusal_in, OpenWith, note, stays, Within, accepted_for, strike_calls, strike, AllWithin}
use Rattle.ledger.specs.Demand3.{ledger_of, history, make, answer_in, Demand3, Agree}
use Rattle.ledger.proofs.Entries.{look_same, look_other, look_empty, length_store, own_entry}

-- An answer by its refusal's test.
pub answer_if : {Y R : Type 0} (refusing : ℕ → R) (t : Bool) (n : ℕ) (y : Y)
    → ◌≡◌ {A = Answer Y R} (answer_by refusing (cond t none (some n)) y) (cond t (accepted y) (refused (refusing n)))
answer_if refusing true n y = refl
answer_if refusing false n y = refl

-- What the ledger has of an id is what the history says.
abbrev Stands : List Op → Entry → Type 0
Stands ops closed = opening ops ≡ none
Stands ops (opened b) = OpenWith b ops

never : {A : Type 0} (n : ℕ) → ◌≡◌ {A = Option ℕ} (some n) none → A
never n e = let z : ◌≡◌ {A = ℕ} 0 1 = cc in absurd (omega arith)

unrefused : (t : Bool) (n : ℕ) → cond t none (some n) ≡ none → t ≡ true
unrefused true n e = refl
unrefused false n e = never n e

-- It still is after a call that was accepted.
next : (ops : List Op) (op : Op) (e : Entry) → Stands ops e → refusal op e ≡ none → Stands (op ∷ ops) (effect op e)
next ops (start c) closed s r = (c, refl, refl)
next ops (start c) (opened b) s r = never _ r
next ops (add n) closed s r = never _ r
next ops (add n) (opened b) s r = (s.0, s.1, omega (arith, s.2))
next ops (take n k) closed s r = never _ r
next ops (take n k) (opened b) s r =
    let fits : n ≤ b = leb-true n b (unrefused (leb n b) k r) in
    (s.0, s.1, omega (arith, s.2))
next ops stop closed s r = never _ r
next ops stop (opened b) s r = refl

same_test : (a b c d : ℕ) → (a ≤ b → c ≤ d) → (c ≤ d → a ≤ b) → leb a b ≡ leb c d
same_test a b c d f g = by (leb a b) refl
  where
    by : (t : Bool) → leb a b ≡ t → leb a b ≡ leb c d
    by true e = rw e (sym (le-leb c d (f (leb-true a b e))))
    by false e =
        let over : b < a = leb-false a b e in
        rw e (other (leb c d) refl over)
      where
        other : (t : Bool) → leb c d ≡ t → b < a → false ≡ leb c d
        other true q over = absurd (let fits : a ≤ b = g (leb-true c d q) in omega (arith, fits, over))
        other false q over = sym q

-- The ledger refuses what the history refuses, with the same number.
same_refusal : (ops : List Op) (op : Op) (e : Entry) → Stands ops e → refusal op e ≡ refusal_in op ops
same_refusal ops (start c) closed s = rw s
same_refusal ops (start c) (opened b) s = rw s.1
same_refusal ops (add n) closed s = rw s
same_refusal ops (add n) (opened b) s =
    rw s.1
    (ap (λ t. cond t none (some over_limit))
    (same_test (b + n) most (s.0 + added ops + n) (1000000 + taken ops) (λ h. omega (arith, h, s.2)) (λ h. omega (arith, h, s.2))))
same_refusal ops (take n k) closed s = rw s
same_refusal ops (take n k) (opened b) s =
    rw s.1
    (ap (λ t. cond t none (some k))
    (same_test n b (taken ops + n) (s.0 + added ops) (λ h. omega (arith, h, s.2)) (λ h. omega (arith, h, s.2))))
same_refusal ops stop closed s = rw s
same_refusal ops stop (opened b) s = rw s.1

stands_closed : (ops : List Op) (e : Entry) → Stands ops e → (e ≡ closed) ↔ (opening ops ≡ none)
stands_closed ops closed s = ((λ p. s), (λ p. refl))
stands_closed ops (opened b) s = ((λ p. let z : ◌≡◌ {A = ℕ} 0 1 = cc in absurd (omega arith)), (λ p. never s.0 (sym s.1 ∙ p)))

stands_opened : (ops : List Op) (e : Entry) (b : ℕ) → Stands ops e → (e ≡ opened b) ↔ OpenWith b ops
stands_opened ops closed b s = ((λ p. let z : ◌≡◌ {A = ℕ} 0 1 = cc in absurd (omega arith)), (λ w. never w.0 (sym w.1 ∙ s)))
stands_opened ops (opened c) b s = (
  (λ p. let x : c ≡ b = cc in (s.0, s.1, omega (arith, x, s.2))),
  (λ w. let x : w.0 ≡ s.0 = cc (w.1, s.1) in ap opened (omega (arith, x, s.2, w.2))),
)

module _ {Y R : Type 0} (refusing : ℕ → R) where
  length_after : (l : List ℕ) (x : Act Y R) → length (ledger_after l x) ≡ length l
  length_after l (aside a) = refl
  length_after l (at j op y) = by (refusal op (entry_at l j))
    where
      by : (o : Option ℕ) → length (keep_or o l (store l j (effect op (entry_at l j)))) ≡ length l
      by none = length_store l j (effect op (entry_at l j))
      by (some n) = refl

  -- One call keeps ledger and history in step.
  step_stands : (l : List ℕ) (ops : List Op) (x : Act Y R) (i : ℕ) → i < 256 → Within (purpose_of x) → Sized l → Stands ops (entry_at l i)
      → Stands (note i (purpose_of x) (answer_to refusing l x) ops) (entry_at (ledger_after l x) i)
  step_stands l ops (aside a) i b w n s = s
  step_stands l ops (at j op y) i b w n s = by (refusal op (entry_at l j)) refl
    where
      own : (t : Bool) → eqb j i ≡ t → refusal op (entry_at l j) ≡ none
          → Stands (cond t (op ∷ ops) ops) (entry_at (store l j (effect op (entry_at l j))) i)
      own true q r =
          let p : j ≡ i = eqb-true j i q in
          let s' : Stands ops (entry_at l j) = rw p s in
          let at_j : Stands (op ∷ ops) (entry_at (store l j (effect op (entry_at l j))) j) =
          subst (Stands (op ∷ ops)) (sym (look_same l j (effect op (entry_at l j)) w n)) (next ops op (entry_at l j) s' r) in
          subst (λ (k : ℕ). Stands (op ∷ ops) (entry_at (store l j (effect op (entry_at l j))) k)) p at_j
      own false q r = subst (Stands ops) (sym (look_other l j i (effect op (entry_at l j)) b (λ p. eqb-false j i q (sym p)))) s

      by : (o : Option ℕ) → refusal op (entry_at l j) ≡ o
          → Stands (note i (for_id j op) (answer_by refusing o y) ops) (entry_at (keep_or o l (store l j (effect op (entry_at l j)))) i)
      by none r = own (eqb j i) refl r
      by (some m) r = s

  -- What one call does for id i goes by what the ledger has of i.
  same_answer : (l l' : List ℕ) (x : Act Y R) (i : ℕ) → stays i (purpose_of x) ≡ true → entry_at l i ≡ entry_at l' i
      → answer_to refusing l x ≡ answer_to refusing l' x
  same_answer l l' (aside a) i t e = refl
  same_answer l l' (at j op y) i t e =
      let p : j ≡ i = eqb-true j i t in
      ap (λ (z : Entry). answer_by refusing (refusal op z) y) (ap (entry_at l) p ∙ e ∙ ap (entry_at l') (sym p))

  other_entry : (l : List ℕ) (x : Act Y R) (i : ℕ) → i < 256 → stays i (purpose_of x) ≡ false → entry_at (ledger_after l x) i ≡ entry_at l i
  other_entry l (aside a) i b t = refl
  other_entry l (at j op y) i b t = by (refusal op (entry_at l j))
    where
      by : (o : Option ℕ) → entry_at (keep_or o l (store l j (effect op (entry_at l j)))) i ≡ entry_at l i
      by none = look_other l j i (effect op (entry_at l j)) b (λ p. eqb-false j i t (sym p))
      by (some n) = refl

  same_entry : (l l' : List ℕ) (x : Act Y R) (i : ℕ) → Within (purpose_of x) → Sized l → Sized l' → stays i (purpose_of x) ≡ true
      → entry_at l i ≡ entry_at l' i → entry_at (ledger_after l x) i ≡ entry_at (ledger_after l' x) i
  same_entry l l' (aside a) i w n n' t e = e
  same_entry l l' (at j op y) i w n n' t e =
      let p : j ≡ i = eqb-true j i t in
      let e' : entry_at l j ≡ entry_at l' j = ap (entry_at l) p ∙ e ∙ ap (entry_at l') (sym p) in
      ap (entry_at (ledger_at l j op)) (sym p)
      ∙ own_entry l j op w n
      ∙ ap (λ (z : Entry). keep_or (refusal op z) z (effect op z)) e'
      ∙ sym (own_entry l' j op w n')
      ∙ ap (entry_at (ledger_at l' j op)) p

  -- A call that takes n, by the history's sums.
  takes_iff : (ops : List Op) (n short : ℕ) (y : Y)
      → Accepted (answer_by refusing (refusal_in (take n short) ops) y) ↔ ((k : ℕ) × (opening ops ≡ some k) × (taken ops + n ≤ k + added ops))
  takes_iff ops n short y = by (opening ops)
    where
      test : (k : ℕ) (t : Bool) → leb (taken ops + n) (k + added ops) ≡ t
          → Accepted (answer_by refusing (cond t none (some short)) y) ↔ ((m : ℕ) × (◌≡◌ {A = Option ℕ} (some k) (some m)) × (taken ops + n ≤ m + added ops))
      test k true q = ((λ _. (k, refl, leb-true _ _ q)), (λ _. tt))
      test k false q = (
        (λ p. absurd p),
        (λ w.
            let x : k ≡ w.0 = cc w.1 in
            let over : k + added ops < taken ops + n = leb-false _ _ q in
            omega (arith, x, over, w.2)),
      )

      by : (o : Option ℕ) → Accepted (answer_by refusing (refusal_by (take n short) o (added ops) (taken ops)) y)
          ↔ ((k : ℕ) × (o ≡ some k) × (taken ops + n ≤ k + added ops))
      by none = ((λ p. absurd p), (λ w. never w.0 (sym w.1)))
      by (some k) = test k (leb (taken ops + n) (k + added ops)) refl

module _ {C Y R : Type 0} (T : Terms C Y R) where
  -- What the step itself takes each call for.
  abbrev stepped : C → Purpose
  stepped c = purpose_of (T.act c)

  pub length_ledger : (cs : List C) → Sized (ledger_of T cs)
  length_ledger [] = length-replicate {A = ℕ} 257 0
  length_ledger (c ∷ cs) = length_after T.refusing (ledger_of T cs) (T.act c) ∙ length_ledger cs

  in_step : (cs : List C) → AllWithin stepped cs → (i : ℕ) → i < 256 → Stands (accepted_for stepped i (history T cs)) (entry_at (ledger_of T cs) i)
  in_step [] w i h = rw (look_empty i h)
  in_step (c ∷ cs) w i h =
      step_stands T.refusing (ledger_of T cs) (accepted_for stepped i (history T cs)) (T.act c) i h w.0 (length_ledger cs) (in_step cs w.1 i h)

  -- A place in the history is a call, answered by the ledger that the calls before it left.
  Place : List (C × Answer Y R) → C → Answer Y R → Type 0
  Place earlier c a =
      (bs : List C) × AllWithin stepped bs × Within (stepped c) × (earlier ≡ history T bs) × (a ≡ answer_to T.refusing (ledger_of T bs) (T.act c))

  at_split : (cs : List C) → AllWithin stepped cs → (later earlier : List (C × Answer Y R)) (c : C) (a : Answer Y R)
      → history T cs ≡ later ++ (c, a) ∷ earlier → Place earlier c a
  unfolding Place
  at_split [] w [] earlier c a e = let z : ◌≡◌ {A = ℕ} 0 1 = cc in absurd (omega arith)
  at_split [] w (x ∷ later) earlier c a e = let z : ◌≡◌ {A = ℕ} 0 1 = cc in absurd (omega arith)
  at_split (d ∷ cs) w [] earlier c a e =
      let p : ◌≡◌ {A = C × Answer Y R} (d, answer_to T.refusing (ledger_of T cs) (T.act d)) (c, a) = cc in
      let q : earlier ≡ history T cs = cc in
      let pc : d ≡ c = ap (λ x. x.0) p in
      let pa : answer_to T.refusing (ledger_of T cs) (T.act d) ≡ a = ap (λ x. x.1) p in
      (cs, w.1, rw (← pc) w.0, q, rw (← pc) (sym pa))
  at_split (d ∷ cs) w (x ∷ later) earlier c a e =
      let q : history T cs ≡ later ++ (c, a) ∷ earlier = cc in
      at_split cs w.1 later earlier c a q

  ledger_answer : (bs : List C) → AllWithin stepped bs → (x : Act Y R) → Within (purpose_of x)
      → answer_to T.refusing (ledger_of T bs) x ≡ answer_in T stepped (history T bs) x
  ledger_answer bs w (aside a) h = refl
  ledger_answer bs w (at i op y) h =
      ap (λ (o : Option ℕ). answer_by T.refusing o y)
      (same_refusal (accepted_for stepped i (history T bs)) op (entry_at (ledger_of T bs) i) (in_step bs w i h))

  place_answer_lem : (earlier : List (C × Answer Y R)) (c : C) (a : Answer Y R) → Place earlier c a → a ≡ answer_in T stepped earlier (T.act c)
  unfolding Place
  place_answer_lem earlier c a p = p.4 ∙ ledger_answer p.0 p.1 (T.act c) p.2 ∙ ap (λ h. answer_in T stepped h (T.act c)) (sym p.3)

  act_takes : (earlier : List (C × Answer Y R)) (x : Act Y R) (a : Answer Y R) (i n short : ℕ)
      → a ≡ answer_in T stepped earlier x → purpose_of x ≡ for_id i (take n short)
      → Accepted a ↔ ((k : ℕ) × (opening (accepted_for stepped i earlier) ≡ some k) × (taken (accepted_for stepped i earlier) + n ≤ k + added (accepted_for stepped i earlier)))
  act_takes earlier (aside b) a i n short e f = let z : ◌≡◌ {A = ℕ} 0 1 = cc in absurd (omega arith)
  act_takes earlier (at j op y) a i n short e f =
      let pj : j ≡ i = cc in
      let po : op ≡ take n short = cc in
      let q : a ≡ answer_by T.refusing (refusal_in (take n short) (accepted_for stepped i earlier)) y =
      e ∙ ap₂ (λ (o : Op) (m : ℕ). answer_by T.refusing (refusal_in o (accepted_for stepped m earlier)) y) po pj in
      let iff = takes_iff T.refusing (accepted_for stepped i earlier) n short y in
      ((λ v. iff.0 (subst Accepted q v)), (λ v. subst Accepted (sym q) (iff.1 v)))

  alone_both : (cs : List C) → AllWithin stepped cs → (i : ℕ) → i < 256
      → (history T (strike_calls stepped i cs) ≡ strike stepped i (history T cs)) × (entry_at (ledger_of T (strike_calls stepped i cs)) i ≡ entry_at (ledger_of T cs) i)
  alone_both [] w i h = (refl, refl)
  alone_both (c ∷ cs) w i h = by (stays i (stepped c)) refl (alone_both cs w.1 i h)
    where
      by : (t : Bool) → stays i (stepped c) ≡ t
          → (history T (strike_calls stepped i cs) ≡ strike stepped i (history T cs)) × (entry_at (ledger_of T (strike_calls stepped i cs)) i ≡ entry_at (ledger_of T cs) i)
          → (history T (cond t (c ∷ strike_calls stepped i cs) (strike_calls stepped i cs)) ≡ cond t ((c, answer_to T.refusing (ledger_of T cs) (T.act c)) ∷ strike stepped i (history T cs)) (strike stepped i (history T cs)))
          × (entry_at (ledger_of T (cond t (c ∷ strike_calls stepped i cs) (strike_calls stepped i cs))) i ≡ entry_at (ledger_after (ledger_of T cs) (T.act c)) i)
      by true t r = (
        ap₂ (λ (x : Answer Y R) (k : List (C × Answer Y R)). (c, x) ∷ k)
            (same_answer T.refusing (ledger_of T (strike_calls stepped i cs)) (ledger_of T cs) (T.act c) i t r.1) r.0,
        same_entry T.refusing (ledger_of T (strike_calls stepped i cs)) (ledger_of T cs) (T.act c) i w.0 (length_ledger (strike_calls stepped i cs)) (length_ledger cs) t r.1,
      )
      by false t r = (r.0, r.1 ∙ sym (other_entry T.refusing (ledger_of T cs) (T.act c) i h t))

  -- Calls made one after another give the history and the ledger of their list turned round.
  make_on : (cs done : List C) → make T cs (history T done) (ledger_of T done) ≡ (history T (reverse_aux cs done), ledger_of T (reverse_aux cs done))
  make_on [] done = refl
  make_on (c ∷ cs) done = make_on cs (c ∷ done)

  make_reversed : (cs : List C) → make T cs [] empty ≡ (history T (reverse cs), ledger_of T (reverse cs))
  make_reversed cs = make_on cs []

  of_step : (cs : List C) → AllWithin stepped cs → Demand3 T stepped cs
  of_step cs w =
      record {
        takes = λ later earlier c a i n short e f. act_takes earlier (T.act c) a i n short (place_answer_lem earlier c a (at_split cs w later earlier c a e)) f;
        answers = λ later earlier c a e. place_answer_lem earlier c a (at_split cs w later earlier c a e);
        closes = λ i h. stands_closed (accepted_for stepped i (history T cs)) (entry_at (ledger_of T cs) i) (in_step cs w i h);
        opens = λ i b h. stands_opened (accepted_for stepped i (history T cs)) (entry_at (ledger_of T cs) i) b (in_step cs w i h);
        alone = λ i h. (alone_both cs w i h).0;
        made = λ calls e. make_reversed calls ∙ ap (λ (k : List C). (history T k, ledger_of T k)) e;
      }

  pub demand3 : (purpose : C → Purpose) → Agree T purpose → (cs : List C) → AllWithin purpose cs → Demand3 T purpose cs
  demand3 purpose agree cs w =
      let e : purpose ≡ stepped = fun_ext agree in
      subst (λ (p : C → Purpose). AllWithin p cs → Demand3 T p cs) (sym e) (of_step cs) w
