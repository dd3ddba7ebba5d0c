-- Demand 3 for the credit ledger, from the law of any ledger: the step takes each call for what the history takes it for.
-- Assumes nothing.
use Prim.Native.Nat.{ℕ, ◌+◌, ◌≤◌, ◌<◌}
use mathlib.Core.Path.{◌≡◌, refl, sym, ap, ◌∙◌, subst}
use mathlib.Core.Logic.{◌↔◌}
use mathlib.Core.List.{List, [], ◌∷◌}
use mathlib.Core.Option.{Option, none, some}
use native.Mathlib.Omega.{arith}
use lib.Dec.{leb}
use Rattle.protocol.specs.Fields.{Fields}
use Rattle.protocol.specs.Refusals.{no_credit, over_limit}
use Rattle.protocol.specs.declared.place.Place.{Place}
use Rattle.rules.specs.Reading.{read_frame}
use Rattle.rules.specs.Reading as rules
use Rattle.ledger.specs.Calls.{start, add, take, stop, for_id, accepted, refused, Accepted, answer_by}
use Rattle.ledger.specs.Rules.{purpose_of}
use Rattle.ledger.specs.History.{refusal_by, refusal_in, accepted_for, AllWithin, Within}
use Rattle.ledger.specs.Demand3.{answer_in, Demand3, Agree}
use Rattle.ledger.proofs.Demand3.{answer_if, demand3}
use Rattle.credit_ledger.specs.Calls.{Call, opening, grant, closing, received, nothing, frame, number, short, unread, Reply, read_answer, deliver_id}
use Rattle.credit_ledger.specs.Step.{act_on_frame, act_on_reading, credit}
use Rattle.credit_ledger.specs.Demand3.{History, frame_purpose, read_purpose, purpose, opening?, grants, delivers, rule_opening, rule_grant, rule_closing, rule_deliver, IdBelow, IdsBelow, NoDeliver, CreditDemand3}
use Rattle.credit_ledger.proofs.Delivers.{are_delivers}
use Rattle.credit_ledger.proofs.Ids.{small_frame_id}

-- The step and the history take each call for the same thing.
agree_frame : (o : Option ℕ) (f : Fields Place) → frame_purpose o ≡ purpose_of (act_on_frame o f)
agree_frame (some i) f = refl
agree_frame none f = refl

agree_reading : (r : rules.Reading) → read_purpose r ≡ purpose_of (act_on_reading r)
agree_reading (rules.frame f) = agree_frame (deliver_id f) f
agree_reading (rules.short needed) = refl
agree_reading (rules.refusal n place) = refl

agree : Agree credit purpose
agree (opening i c) = refl
agree (grant i n) = refl
agree (closing i) = refl
agree (received bytes limit) = agree_reading (read_frame bytes limit)

within : (c : Call) → IdBelow c → Within (purpose c)
within (opening i c) h = h
within (grant i n) h = h
within (closing i) h = h
within (received bytes limit) h = small_frame_id bytes limit

all_within : (cs : List Call) → IdsBelow cs → AllWithin purpose cs
all_within [] h = tt
all_within (c ∷ cs) h = (within c h.0, all_within cs h.1)

-- The rules by number are the rules by answer.
open_rule : (c : ℕ) (o : Option ℕ) (g d : ℕ) → ◌≡◌ {A = Reply} (answer_by number (refusal_by (start c) o g d) nothing) (rule_opening o)
open_rule c none g d = refl
open_rule c (some k) g d = refl

grant_rule : (n : ℕ) (o : Option ℕ) (g d : ℕ) → ◌≡◌ {A = Reply} (answer_by number (refusal_by (add n) o g d) nothing) (rule_grant n o g d)
grant_rule n none g d = refl
grant_rule n (some k) g d = answer_if number (leb (k + g + n) (1000000 + d)) over_limit nothing

close_rule : (o : Option ℕ) (g d : ℕ) → ◌≡◌ {A = Reply} (answer_by number (refusal_by stop o g d) nothing) (rule_closing o)
close_rule none g d = refl
close_rule (some k) g d = refl

deliver_rule : (f : Fields Place) (o : Option ℕ) (g d : ℕ)
    → ◌≡◌ {A = Reply} (answer_by number (refusal_by (take 1 no_credit) o g d) (frame f)) (rule_deliver f o g d)
deliver_rule f none g d = refl
deliver_rule f (some k) g d = answer_if number (leb (d + 1) (k + g)) no_credit (frame f)

-- A received frame that the history answers.
other_answer : (h : History) (r : rules.Reading) → NoDeliver r → answer_in credit purpose h (act_on_reading r) ≡ read_answer r
other_answer h (rules.frame f) n = ap (λ o. answer_in credit purpose h (act_on_frame o f)) n
other_answer h (rules.short needed) n = refl
other_answer h (rules.refusal n' place) n = refl

deliver_answer : (h : History) (r : rules.Reading) (f : Fields Place) (i : ℕ) → r ≡ rules.frame f → deliver_id f ≡ some i
    → answer_in credit purpose h (act_on_reading r) ≡ rule_deliver f (opening? i h) (grants i h) (delivers i h)
deliver_answer h r f i e n =
    ap (λ r'. answer_in credit purpose h (act_on_reading r')) e
    ∙ ap (λ o. answer_in credit purpose h (act_on_frame o f)) n
    ∙ deliver_rule f (opening? i h) (grants i h) (delivers i h)

hands_back : (h : History) (r : rules.Reading) → Accepted (answer_in credit purpose h (act_on_reading r)) → answer_in credit purpose h (act_on_reading r) ≡ read_answer r
hands_back h (rules.frame f) p = by (deliver_id f) p
  where
    yields : (o : Option ℕ) → Accepted (answer_by number o (frame f)) → ◌≡◌ {A = Reply} (answer_by number o (frame f)) (accepted (frame f))
    yields none p = refl
    yields (some n) p = absurd p

    by : (o : Option ℕ) → Accepted (answer_in credit purpose h (act_on_frame o f)) → answer_in credit purpose h (act_on_frame o f) ≡ accepted (frame f)
    by none p = refl
    by (some i) p = yields (refusal_in (take 1 no_credit) (accepted_for purpose i h)) p
hands_back h (rules.short needed) p = absurd p
hands_back h (rules.refusal n place) p = absurd p

-- The answer of reading that a call's answer was made of.
abbrev back : Reply → rules.Reading
back (accepted (frame f)) = rules.frame f
back (accepted nothing) = rules.short 0
back (refused (short needed)) = rules.short needed
back (refused (unread n place)) = rules.refusal n place
back (refused (number n)) = rules.short 0

back_read : (r : rules.Reading) → back (read_answer r) ≡ r
back_read (rules.frame f) = refl
back_read (rules.short needed) = refl
back_read (rules.refusal n place) = refl

-- One more than the Delivers are at most credit and grants: these exceed the Delivers.
exceeds : (i : ℕ) (h : History)
    → ((k : ℕ) × (opening? i h ≡ some k) × (delivers i h + 1 ≤ k + grants i h)) ↔ ((k : ℕ) × (opening? i h ≡ some k) × (delivers i h < k + grants i h))
exceeds i h = ((λ w. (w.0, w.1, omega (arith, w.2))), (λ w. (w.0, w.1, omega (arith, w.2))))

read_purpose_lem : (r : rules.Reading) (f : Fields Place) (i : ℕ) → r ≡ rules.frame f → deliver_id f ≡ some i → read_purpose r ≡ for_id i (take 1 no_credit)
read_purpose_lem r f i e n = ap read_purpose e ∙ ap frame_purpose n

pub credit_demand3 : (cs : List Call) → IdsBelow cs → CreditDemand3 cs
credit_demand3 cs w =
    let d : Demand3 credit purpose cs = demand3 credit purpose agree cs (all_within cs w) in
    record {
      made = d.made;
      are_delivers = are_delivers;
      deliver_accepted = λ later earlier bytes limit f i a e r n.
          let t = d.takes later earlier (received bytes limit) a i 1 no_credit e (read_purpose_lem (read_frame bytes limit) f i r n) in
          ((λ q. (exceeds i earlier).0 (t.0 q)), (λ q. t.1 ((exceeds i earlier).1 q)));
      openings = λ later earlier i c a e. d.answers later earlier (opening i c) a e ∙ open_rule c (opening? i earlier) (grants i earlier) (delivers i earlier);
      grantings = λ later earlier i n a e. d.answers later earlier (grant i n) a e ∙ grant_rule n (opening? i earlier) (grants i earlier) (delivers i earlier);
      closings = λ later earlier i a e. d.answers later earlier (closing i) a e ∙ close_rule (opening? i earlier) (grants i earlier) (delivers i earlier);
      deliveries = λ later earlier bytes limit f i a e r n. d.answers later earlier (received bytes limit) a e ∙ deliver_answer earlier (read_frame bytes limit) f i r n;
      others = λ later earlier bytes limit a e n. d.answers later earlier (received bytes limit) a e ∙ other_answer earlier (read_frame bytes limit) n;
      told = λ r r' e. sym (back_read r) ∙ ap back e ∙ back_read r';
      hands_back = λ later earlier bytes limit a e p.
          let q = d.answers later earlier (received bytes limit) a e in
          q ∙ hands_back earlier (read_frame bytes limit) (subst Accepted q p);
      closed_after = d.closes;
      open_after = d.opens;
      alone = d.alone;
    }
