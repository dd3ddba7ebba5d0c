-- No layout has a key or a version above 65,535, nor one of 0. Assumes nothing.
use mathlib.Core.Path.{◌≡◌, refl, ◌∙◌, sym, ap}
use mathlib.Core.Bool.{Bool, true, false, cond, ◌&&◌}
use mathlib.Core.Logic.{◌⊎◌, inl, inr}
use mathlib.Core.List.{List, [], ◌∷◌}
use Prim.Native.Nat.{ℕ, ◌<◌, ◌≤◌}
use native.Mathlib.Omega.{arith}
use lib.Dec.{eqb, leb, ltb}
use borrow.Author.Tests.{ne_eqb, leb-true, ltb-true, ltb-false}
use Rattle.protocol.specs.Decision.{Decision, versions_in, listings, layout, unlisted_key, unlisted_version, of_version, among, decide, decision_of, row_told}
use Rattle.protocol.specs.Layouts.{row_from}
use Rattle.protocol.specs.declared.kind.FieldKind.{FieldKind}
use Rattle.std.specs.Borrow.{Bor}
use Rattle.std.specs.Prelude.{Result, Ok, Err, Some, OkIff, IfOk}
use Rattle.std.specs.Result.{result_unwrap_or}
use Rattle.protocol.specs.declared.refusal.Refusal.{Refusal}
use Rattle.protocol.specs.declared.refusal.Refusal.TheVariants.{Short, FrameTooLarge, FrameTooSmall, UnknownKey, UnknownVersion, FieldCut, BadLength, NotUtf8, ReferenceTooLong, ValueNotAdmitted, BytesLeft, NoRoom, NotOpen, AlreadyOpen, NoCredit, OverLimit, NotOut}
use Rattle.protocol.specs.Table.{Listing, table, row_of}
use Rattle.rules.proofs.Listed.{both, itself}

abbrev Within : Listing → Type 0
Within l = (l.key ≤ 0xffff) × ((0 < l.version) × (l.version ≤ 0xffff))

within : List Listing → Bool
within [] = true
within (l ∷ ls) = leb l.key 0xffff && (ltb 0 l.version && (leb l.version 0xffff && within ls))

table_within : within table ≡ true
unfolding within table
table_within = refl

first_within : (l : Listing) (ls : List Listing) → within (l ∷ ls) ≡ true → Within l × (within ls ≡ true)
unfolding within
first_within l ls e =
    let rest = (both (leb l.key 0xffff) (ltb 0 l.version && (leb l.version 0xffff && within ls)) e).1 in
    let last = (both (ltb 0 l.version) (leb l.version 0xffff && within ls) rest).1 in (
      (
        leb-true _ _ (both (leb l.key 0xffff) (ltb 0 l.version && (leb l.version 0xffff && within ls)) e).0,
        (
          ltb-true _ _ (both (ltb 0 l.version) (leb l.version 0xffff && within ls) rest).0,
          leb-true _ _ (both (leb l.version 0xffff) (within ls) last).0,
        ),
      ),
      (both (leb l.version 0xffff) (within ls) last).1,
    )

above : (n m : ℕ) → 0xffff < n → m ≤ 0xffff → n ≡ m → ⊥
above n m h k e = omega (arith, h, k, e)

not_zero : (m : ℕ) → 0 < m → 0 ≡ m → ⊥
not_zero m h e = omega (arith, h, e)

no_versions : (ls : List Listing) (k : ℕ) → 0xffff < k → within ls ≡ true → versions_in ls k ≡ []
unfolding versions_in
no_versions [] k h e = refl
no_versions (l ∷ ls) k h e =
    let w = first_within l ls e in
    rw (ne_eqb k l.key (above k l.key h w.0.0)) (no_versions ls k h w.1)

pub wide_key : (k v : ℕ) → 0xffff < k → unlisted_key ≡ decide k v
unfolding decide
wide_key k v h = ap (λ (vs : List Listing). among vs v) (sym (no_versions table k h table_within))

-- A version above 65,535 is found as little as version 0.
same_version : (ls : List Listing) (k v : ℕ) → 0xffff < v → within ls ≡ true → of_version 0 (versions_in ls k) ≡ of_version v (versions_in ls k)
unfolding versions_in of_version
same_version [] k v h e = refl
same_version (l ∷ ls) k v h e = by (eqb k l.key) (first_within l ls e) (same_version ls k v h)
  where
    by : (t : Bool) → Within l × (within ls ≡ true) → (within ls ≡ true → of_version 0 (versions_in ls k) ≡ of_version v (versions_in ls k)) → of_version 0 (cond t (l ∷ versions_in ls k) (versions_in ls k)) ≡ of_version v (cond t (l ∷ versions_in ls k) (versions_in ls k))
    by true w g = rw (ne_eqb 0 l.version (not_zero l.version w.0.1.0), ne_eqb v l.version (above v l.version h w.0.1.1)) (g w.1)
    by false w g = g w.1

same_among : (vs : List Listing) (v : ℕ) → of_version 0 vs ≡ of_version v vs → among vs 0 ≡ among vs v
same_among [] v e = refl
same_among (x ∷ xs) v e = e

pub wide_version : (k v : ℕ) → 0xffff < v → decide k 0 ≡ decide k v
unfolding decide
wide_version k v h = same_among (listings k) v (same_version table k v h table_within)

unlisted_0 : (v : ℕ) → decide 0 v ≡ unlisted_key
unfolding decide versions_in table
unlisted_0 v = refl

-- ---- The layout of a key and a version that a u16 may not hold

-- A number as a u16, or 0 in its place.
pub record Narrowed (k v : ℕ) : Type 0 where
  pub same : k ≤ 0xffff → v ≡ k
  pub none : 0xffff < k → v ≡ 0

pub narrowed : {E : Type 0} (r : Result ℕ E) (k v : ℕ) → OkIff r (k < 0x1_0000) k → v ≡ result_unwrap_or r 0 → Narrowed k v
narrowed (Ok x) k v o e = record { same = λ h. e ∙ o.1; none = λ h. absurd (omega (arith, o.0, h)) }
narrowed (Err d) k v o e = record { same = λ h. absurd (o (omega (arith, h))); none = λ h. e }

-- What is refused, if it is decided.
pub unlisted_told : (f : Refusal) (k v : ℕ) (d : Decision) → decision_of {A = Bor (List FieldKind)} (Err f) k v ≡ Some d → ((f ≡ UnknownKey) × (unlisted_key ≡ d)) ⊎ ((f ≡ UnknownVersion) × (unlisted_version ≡ d))
unlisted_told Short k v d e = cc
unlisted_told FrameTooLarge k v d e = cc
unlisted_told FrameTooSmall k v d e = cc
unlisted_told UnknownKey k v d e = inl (refl, cc)
unlisted_told UnknownVersion k v d e = inr (refl, cc)
unlisted_told FieldCut k v d e = cc
unlisted_told BadLength k v d e = cc
unlisted_told NotUtf8 k v d e = cc
unlisted_told ReferenceTooLong k v d e = cc
unlisted_told ValueNotAdmitted k v d e = cc
unlisted_told BytesLeft k v d e = cc
unlisted_told NoRoom k v d e = cc
unlisted_told NotOpen k v d e = cc
unlisted_told AlreadyOpen k v d e = cc
unlisted_told NoCredit k v d e = cc
unlisted_told OverLimit k v d e = cc
unlisted_told NotOut k v d e = cc

module _ (k v a b : ℕ) (n : Narrowed k a) (m : Narrowed v b) where
  same_decision : decide a b ≡ decide k v
  same_decision = by (ltb 0xffff k) refl (ltb 0xffff v) refl
    where
      by : (t : Bool) → ltb 0xffff k ≡ t → (u : Bool) → ltb 0xffff v ≡ u → decide a b ≡ decide k v
      by true i u j = let h : 0xffff < k = ltb-true _ _ i in rw (n.none h) (unlisted_0 b ∙ wide_key k v h)
      by false i true j = rw (n.same (ltb-false _ _ i), m.none (ltb-true _ _ j)) (wide_version k v (ltb-true _ _ j))
      by false i false j = rw (n.same (ltb-false _ _ i), m.same (ltb-false _ _ j))

  -- What is listed is what is asked for.
  listed : layout a b ≡ decide a b → (a ≡ k) × (b ≡ v)
  listed e = let i = itself k v a b (sym (e ∙ same_decision)) in (i.0, i.1)

  module _ (r : Result (Bor (List FieldKind)) Refusal) (d : decision_of r a b ≡ Some (decide a b)) where
    pub decided_at : decision_of r k v ≡ Some (decide k v)
    decided_at = by r d
      where
        by : (r : Result (Bor (List FieldKind)) Refusal) → decision_of r a b ≡ Some (decide a b) → decision_of r k v ≡ Some (decide k v)
        by (Ok fields) e =
            let l : layout a b ≡ decide a b = cc in
            let s = listed l in
            let same : layout k v ≡ layout a b = (λ i. layout (sym s.0 i) (sym s.1 i)) in
            ap Some (same ∙ l ∙ same_decision)
        by (Err f) e = told (unlisted_told f a b (decide a b) e)
          where
            told : ((f ≡ UnknownKey) × (unlisted_key ≡ decide a b)) ⊎ ((f ≡ UnknownVersion) × (unlisted_version ≡ decide a b)) → decision_of {A = Bor (List FieldKind)} (Err f) k v ≡ Some (decide k v)
            told (inl h) = rw h.0 (ap Some (h.1 ∙ same_decision))
            told (inr h) = rw h.0 (ap Some (h.1 ∙ same_decision))

    pub row_at : row_told r ≡ row_of a b → IfOk r (λ fields. row_from fields.now ≡ row_of k v)
    row_at e = by r d e
      where
        by : (r : Result (Bor (List FieldKind)) Refusal) → decision_of r a b ≡ Some (decide a b) → row_told r ≡ row_of a b → IfOk r (λ fields. row_from fields.now ≡ row_of k v)
        by (Ok fields) d e =
            let l : layout a b ≡ decide a b = cc in
            let s = listed l in
            e ∙ (λ i. row_of (s.0 i) (s.1 i))
        by (Err f) d e = tt
