-- Demand 3 for the publisher ledger, from the law of any ledger: the step takes each call for what the history takes it
-- for, and every declaration starts with no messages out. Assumes nothing.
use Prim.Native.Nat.{ℕ, ◌+◌, ◌≤◌}
use mathlib.Core.Path.{◌≡◌, refl, sym, ap, ◌∙◌}
use mathlib.Core.Logic.{◌↔◌}
use mathlib.Core.Bool.{Bool, true, false, cond}
use mathlib.Core.List.{List, [], ◌∷◌}
use mathlib.Core.Option.{Option, none, some}
use native.Mathlib.Omega.{arith}
use lib.Dec.{eqb, leb}
use Rattle.protocol.specs.Refusals.{over_limit, not_out}
use Rattle.ledger.specs.Calls.{Op, start, add, take, stop, accepted, refused, answer_by}
use Rattle.ledger.specs.History.{refusal_by, accepted_for, AllWithin, note}
use Rattle.ledger.specs.History.{opening as opening_of}
use Rattle.ledger.specs.Demand3.{history, Demand3, Agree}
use Rattle.ledger.proofs.Demand3.{answer_if, demand3}
use Rattle.publisher_ledger.specs.Calls.{Call, declaration, deletion, sending, confirming, Reply}
use Rattle.publisher_ledger.specs.Step.{publisher}
use Rattle.publisher_ledger.specs.Demand3.{History, purpose, declaration?, sent, confirmed, rule_declaration, rule_deletion, rule_sending, rule_confirming, PublisherDemand3}

agree : Agree publisher purpose
agree (declaration i) = refl
agree (deletion i) = refl
agree (sending i n) = refl
agree (confirming i n) = refl

-- An opening, if there is one, is with no messages out.
abbrev AtNone : Option ℕ → Type 0
AtNone none = Unit
AtNone (some k) = k ≡ 0

at_none : (i : ℕ) (h : History) → AtNone (declaration? i h)
at_none i [] = tt
at_none i (e ∷ h) = by e.0 e.1 (at_none i h)
  where
    kept : (t : Bool) (op : Op) → AtNone (opening_of (op ∷ accepted_for purpose i h)) → AtNone (declaration? i h)
        → AtNone (opening_of (cond t (op ∷ accepted_for purpose i h) (accepted_for purpose i h)))
    kept true op k l = k
    kept false op k l = l

    by : (c : Call) (a : Reply) → AtNone (declaration? i h) → AtNone (opening_of (note i (purpose c) a (accepted_for purpose i h)))
    by (declaration j) (accepted y) l = kept (eqb j i) (start 0) refl l
    by (declaration j) (refused n) l = l
    by (deletion j) (accepted y) l = kept (eqb j i) stop tt l
    by (deletion j) (refused n) l = l
    by (sending j m) (accepted y) l = kept (eqb j i) (add m) l l
    by (sending j m) (refused n) l = l
    by (confirming j m) (accepted y) l = kept (eqb j i) (take m not_out) l l
    by (confirming j m) (refused n) l = l

-- So the sums begin at 0.
from_none : (o : Option ℕ) (k : ℕ) → AtNone o → o ≡ some k → k ≡ 0
from_none none k z e = let x : ◌≡◌ {A = ℕ} 0 1 = cc (e) in absurd (omega (arith, x))
from_none (some m) k z e = let x : m ≡ k = cc (e) in sym x ∙ z

covers : (o : Option ℕ) (c s n : ℕ) → AtNone o
    → ((k : ℕ) × (o ≡ some k) × (c + n ≤ k + s)) ↔ ((o ≡ some 0) × (c + n ≤ s))
covers o c s n z = (
  (λ w. let x : w.0 ≡ 0 = from_none o w.0 z w.1 in (w.1 ∙ ap some x, omega (arith, x, w.2))),
  (λ w. (0, w.0, omega (arith, w.1))),
)

out_is : (o : Option ℕ) (c s b : ℕ) → AtNone o
    → ((k : ℕ) × (o ≡ some k) × (b + c ≡ k + s)) ↔ ((o ≡ some 0) × (b + c ≡ s))
out_is o c s b z = (
  (λ w. let x : w.0 ≡ 0 = from_none o w.0 z w.1 in (w.1 ∙ ap some x, omega (arith, x, w.2))),
  (λ w. (0, w.0, omega (arith, w.1))),
)

-- The rules by number are the rules by answer.
declare_rule : (o : Option ℕ) (s c : ℕ) → ◌≡◌ {A = Reply} (answer_by (λ m. m) (refusal_by (start 0) o s c) tt) (rule_declaration o)
declare_rule none s c = refl
declare_rule (some k) s c = refl

delete_rule : (o : Option ℕ) (s c : ℕ) → ◌≡◌ {A = Reply} (answer_by (λ m. m) (refusal_by stop o s c) tt) (rule_deletion o)
delete_rule none s c = refl
delete_rule (some k) s c = refl

send_rule : (n : ℕ) (o : Option ℕ) (s c : ℕ) → AtNone o → ◌≡◌ {A = Reply} (answer_by (λ m. m) (refusal_by (add n) o s c) tt) (rule_sending n o s c)
send_rule n none s c z = refl
send_rule n (some k) s c z = let e : k + s + n ≡ s + n = omega (arith, z) in rw e (answer_if (λ m. m) (leb (s + n) (1000000 + c)) over_limit tt)

confirm_rule : (n : ℕ) (o : Option ℕ) (s c : ℕ) → AtNone o → ◌≡◌ {A = Reply} (answer_by (λ m. m) (refusal_by (take n not_out) o s c) tt) (rule_confirming n o s c)
confirm_rule n none s c z = refl
confirm_rule n (some k) s c z = let e : k + s ≡ s = omega (arith, z) in rw e (answer_if (λ m. m) (leb (c + n) s) not_out tt)

pub publisher_demand3 : (cs : List Call) → AllWithin purpose cs → PublisherDemand3 cs
publisher_demand3 cs w =
    let d : Demand3 publisher purpose cs = demand3 publisher purpose agree cs w in
    record {
      made = d.made;
      confirm_accepted = λ later earlier i n a e.
          let t = d.takes later earlier (confirming i n) a i n not_out e refl in
          let k = covers (declaration? i earlier) (confirmed i earlier) (sent i earlier) n (at_none i earlier) in
          ((λ q. k.0 (t.0 q)), (λ q. t.1 (k.1 q)));
      declarations = λ later earlier i a e. d.answers later earlier (declaration i) a e ∙ declare_rule (declaration? i earlier) (sent i earlier) (confirmed i earlier);
      deletions = λ later earlier i a e. d.answers later earlier (deletion i) a e ∙ delete_rule (declaration? i earlier) (sent i earlier) (confirmed i earlier);
      sendings = λ later earlier i n a e. d.answers later earlier (sending i n) a e ∙ send_rule n (declaration? i earlier) (sent i earlier) (confirmed i earlier) (at_none i earlier);
      confirmings = λ later earlier i n a e. d.answers later earlier (confirming i n) a e ∙ confirm_rule n (declaration? i earlier) (sent i earlier) (confirmed i earlier) (at_none i earlier);
      closed_after = d.closes;
      open_after = λ i b h.
          let t = d.opens i b h in
          let k = out_is (declaration? i (history publisher cs)) (confirmed i (history publisher cs)) (sent i (history publisher cs)) b (at_none i (history publisher cs)) in
          ((λ q. k.0 (t.0 q)), (λ q. t.1 (k.1 q)));
      alone = d.alone;
    }
