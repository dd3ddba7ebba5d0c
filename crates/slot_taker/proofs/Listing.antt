-- A key and a version that are listed give the fields of their layout. Those that fail a test which every line of the table
-- passes are not listed, and give a Heartbeat. Assumes nothing.
use mathlib.Core.Path.{◌≡◌, refl, ◌∙◌, sym, ap, ap₂}
use mathlib.Core.Bool.{Bool, true, false, ◌&&◌, ◌||◌, false≢true}
use mathlib.Core.List.{List, [], ◌∷◌}
use Prim.Native.Nat.{ℕ, ◌≤◌, ◌<◌}
use lib.Dec.{eqb, ltb, leb}
use borrow.Author.Tests.{le-ltb, lt-leb, ne_eqb}
use Rattle.protocol.specs.Decision.{Decision, layout, unlisted_key, unlisted_version, versions_in, of_version, decide}
use Rattle.protocol.specs.Decision as decision
use Rattle.protocol.specs.Fields.{Fields}
use Rattle.protocol.specs.Frames.{fields_of}
use Rattle.protocol.specs.Layouts.{among}
use Rattle.protocol.specs.Table.{Listing, table}
use Rattle.protocol.specs.declared.frame.Frame.TheVariants.{Heartbeat}
use Rattle.protocol.specs.declared.place.Place.{Place}
use Rattle.protocol.proofs.Unlisted.{NoneOf, not_among}
use Rattle.rules.proofs.Gives.{choice}
use Rattle.rules.proofs.Listed.{both, every, itself}
use Rattle.slot_taker.specs.Typed.{typed_layout, typed_of, typed_fields}

pub listed : (k key v : ℕ) (s : List ℕ) (f : Fields Place) → k ≡ key → decide key v ≡ layout key v → f ≡ typed_layout key v s → f ≡ typed_fields k v s
unfolding typed_fields
listed k key v s f e d h = h ∙ ap (λ (x : Decision). typed_of x s) (sym d) ∙ ap (λ (x : ℕ). typed_fields x v s) (sym e)

module _ (t : ℕ → ℕ → Bool) where
  abbrev tested : Listing → Bool
  tested l = t l.key l.version

  abbrev Passes : Decision → Type 0
  Passes (layout k v) = t k v ≡ true
  Passes unlisted_key = Unit
  Passes unlisted_version = Unit

  of_key : (ls : List Listing) (k : ℕ) → every tested ls ≡ true → every tested (versions_in ls k) ≡ true
  unfolding versions_in
  of_key [] k h = refl
  of_key (l ∷ ls) k h =
      let b = both (tested l) (every tested ls) h in
      choice (λ (x : List Listing). every tested x ≡ true) (eqb k l.key) _ _ (λ _. rw b.0 (of_key ls k b.1)) (λ _. of_key ls k b.1)

  of_version_lem : (v : ℕ) (ls : List Listing) → every tested ls ≡ true → Passes (of_version v ls)
  unfolding of_version
  of_version_lem v [] h = tt
  of_version_lem v (l ∷ ls) h =
      let b = both (tested l) (every tested ls) h in
      choice Passes (eqb v l.version) _ _ (λ _. b.0) (λ _. of_version_lem v ls b.1)

  among_passes : (v : ℕ) (ls : List Listing) → every tested ls ≡ true → Passes (decision.among ls v)
  among_passes v [] h = tt
  among_passes v (l ∷ ls) h = of_version_lem v (l ∷ ls) h

  pub unlisted : every tested table ≡ true → (k v : ℕ) → t k v ≡ false → (s : List ℕ) → fields_of Heartbeat ≡ typed_fields k v s
  unfolding decide typed_fields
  unlisted h k v n s = by (decide k v) refl (among_passes v (versions_in table k) (of_key table k h))
    where
      by : (d : Decision) → decide k v ≡ d → Passes d → fields_of Heartbeat ≡ typed_of d s
      by (layout a b) e p = let i = itself k v a b e in absurd (false≢true (sym n ∙ ap₂ t (sym i.0) (sym i.1) ∙ p))
      by unlisted_key e p = refl
      by unlisted_version e p = refl

-- A key of a range that is none of the keys that the table has there; and one from a number on.
abbrev ranged : ℕ → ℕ → List ℕ → ℕ → ℕ → Bool
ranged low high ks k v = ltb k low || (leb high k || among k ks)

pub unlisted_in : (low high : ℕ) (ks : List ℕ) (k : ℕ) → every (λ l. ranged low high ks l.key l.version) table ≡ true → low ≤ k → k < high → NoneOf ks k → (s : List ℕ) → fields_of Heartbeat ≡ typed_fields k 1 s
unlisted_in low high ks k h l u n s = unlisted (ranged low high ks) h k 1 (rw (le-ltb k low l, lt-leb high k u, not_among ks k n)) s

abbrev above : ℕ → List ℕ → ℕ → ℕ → Bool
above low ks k v = ltb k low || among k ks

pub unlisted_above : (low : ℕ) (ks : List ℕ) (k : ℕ) → every (λ l. above low ks l.key l.version) table ≡ true → low ≤ k → NoneOf ks k → (s : List ℕ) → fields_of Heartbeat ≡ typed_fields k 1 s
unlisted_above low ks k h l n s = unlisted (above low ks) h k 1 (rw (le-ltb k low l, not_among ks k n)) s

-- The versions are 1 and 2, and only Publish and Deliver have a version 2.
abbrev versioned : ℕ → ℕ → Bool
versioned k v = eqb v 1 || (eqb v 2 && (eqb k 2 || eqb k 8))

pub no_version : (k v : ℕ) → NoneOf (2 ∷ 1 ∷ []) v → (s : List ℕ) → fields_of Heartbeat ≡ typed_fields k v s
unfolding table
no_version k v n = unlisted versioned refl k v (rw (ne_eqb v 1 n.0.1, ne_eqb v 2 n.1))

pub no_second_version : (k : ℕ) → NoneOf (8 ∷ 2 ∷ []) k → (s : List ℕ) → fields_of Heartbeat ≡ typed_fields k 2 s
unfolding table
no_second_version k n = unlisted versioned refl k 2 (rw (ne_eqb k 2 n.0.1, ne_eqb k 8 n.1))
