-- What is computed of the whole table. A layout is decided on for its own key and version, for both are compared, and
-- both hold in two bytes. Of every row, each signed field has at least one byte, as two's complement needs, and a chunk
-- stands only last, as it is read to the content's end. Assumes nothing.
use mathlib.Core.Path.{◌≡◌, refl, sym, subst}
use mathlib.Core.Bool.{Bool, true, false, cond, ◌&&◌}
use mathlib.Core.List.{List, [], ◌∷◌}
use Prim.Native.Nat.{ℕ, ◌^◌, ◌<◌}
use lib.Dec.{eqb, ltb}
use borrow.Author.Tests.{eqb-true, ltb-true}
use Rattle.protocol.specs.Decision.{versions_in, Decision, layout, unlisted_key, unlisted_version, of_version, among, decide}
use Rattle.protocol.specs.Kinds.{Kind, unsigned, signed, string, specification, list, chunk, Row, end, ◌·◌}
use Rattle.protocol.specs.Table.{Listing, table, row_in, row_of}
use Rattle.rules.proofs.Gives.{choice}

pub differ : false ≡ true → ⊥
differ e = subst (λ (t : Bool). cond t ⊥ Unit) e tt

pub both : (a b : Bool) → (a && b) ≡ true → (a ≡ true) × (b ≡ true)
both true b e = (refl, e)
both false b e = absurd (differ e)

-- A test of every line.
abbrev pub every : (Listing → Bool) → List Listing → Bool
every t [] = true
every t (l ∷ ls) = t l && every t ls

-- ---- Keys and versions

abbrev two_bytes : Listing → Bool
two_bytes l = ltb l.key (256 ^ 2) && ltb l.version (256 ^ 2)

-- The layout of a decision is that of this key and version.
abbrev For : ℕ → ℕ → Decision → Type 0
For k v (layout key version) = (key ≡ k) × (version ≡ v) × (key < 256 ^ 2) × (version < 256 ^ 2)
For k v unlisted_key = Unit
For k v unlisted_version = Unit

abbrev Under : ℕ → List Listing → Type 0
Under k [] = Unit
Under k (l ∷ ls) = ((l.key ≡ k) × (l.key < 256 ^ 2) × (l.version < 256 ^ 2)) × Under k ls

listed_under : (ls : List Listing) (k : ℕ) → every two_bytes ls ≡ true → Under k (versions_in ls k)
unfolding versions_in
listed_under [] k h = tt
listed_under (l ∷ ls) k h =
    let t = both (two_bytes l) (every two_bytes ls) h in
    let u = both (ltb l.key (256 ^ 2)) (ltb l.version (256 ^ 2)) t.0 in
    choice (Under k) (eqb k l.key) _ _
    (λ e. ((sym (eqb-true k l.key e), ltb-true l.key (256 ^ 2) u.0, ltb-true l.version (256 ^ 2) u.1), listed_under ls k t.1))
    (λ _. listed_under ls k t.1)

of_version_lem : (k v : ℕ) (ls : List Listing) → Under k ls → For k v (of_version v ls)
unfolding of_version
of_version_lem k v [] h = tt
of_version_lem k v (l ∷ ls) h =
    choice (For k v) (eqb v l.version) _ _
    (λ e. (h.0.0, sym (eqb-true v l.version e), h.0.1, h.0.2))
    (λ _. of_version_lem k v ls h.1)

table_two_bytes : every two_bytes table ≡ true
unfolding table
table_two_bytes = refl

decided : (k v : ℕ) → For k v (decide k v)
unfolding decide
decided k v = by (versions_in table k) (listed_under table k table_two_bytes)
  where
    by : (ls : List Listing) → Under k ls → For k v (among ls v)
    by [] h = tt
    by (l ∷ ls) h = of_version_lem k v (l ∷ ls) h

pub itself : (k v key version : ℕ) → decide k v ≡ layout key version → (key ≡ k) × (version ≡ v) × (key < 256 ^ 2) × (version < 256 ^ 2)
itself k v key version e = subst (For k v) e (decided k v)

-- ---- Rows

-- Signed numbers have at least one byte.
abbrev mutual
  pub wide : Kind → Bool
  wide (unsigned n most) = true
  wide (signed n) = ltb 0 n
  wide (string form nullable) = true
  wide (specification admits_none) = true
  wide (list rule row) = wide_row row
  wide chunk = true

  pub wide_row : Row → Bool
  wide_row end = true
  wide_row (k · row) = wide k && wide_row row

abbrev pub is_end : Row → Bool
is_end end = true
is_end (k · row) = false

-- A chunk stands last, where there is one: `last` says that the content ends behind this.
abbrev mutual
  pub chunk_last : Bool → Kind → Bool
  chunk_last last (unsigned n most) = true
  chunk_last last (signed n) = true
  chunk_last last (string form nullable) = true
  chunk_last last (specification admits_none) = true
  chunk_last last (list rule row) = chunk_last_in false row
  chunk_last last chunk = last

  pub chunk_last_in : Bool → Row → Bool
  chunk_last_in last end = true
  chunk_last_in last (k · row) = chunk_last (last && is_end row) k && chunk_last_in last row

-- A test that every row of the table passes, and the empty row.
pub row_passes : (t : Row → Bool) → t end ≡ true → (ls : List Listing) (k v : ℕ) → every (λ l. t l.row) ls ≡ true → t (row_in ls k v) ≡ true
unfolding row_in
row_passes t e [] k v h = e
row_passes t e (l ∷ ls) k v h =
    let u = both (t l.row) (every (λ l. t l.row) ls) h in
    choice (λ row. t row ≡ true) (eqb k l.key && eqb v l.version) _ _ (λ _. u.0) (λ _. row_passes t e ls k v u.1)

pub wide_row_lem : (k v : ℕ) → wide_row (row_of k v) ≡ true
unfolding table
wide_row_lem k v = row_passes wide_row refl table k v refl

pub chunk_last_row : (k v : ℕ) → chunk_last_in true (row_of k v) ≡ true
unfolding table
chunk_last_row k v = row_passes (chunk_last_in true) refl table k v refl
