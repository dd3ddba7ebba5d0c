-- The table's counts and its keys: each is a test that antt computes over the whole table. Assumes nothing.
use mathlib.Core.Path.{◌≡◌, refl, ap₂}
use mathlib.Core.Bool.{Bool, true, false, ◌&&◌, ◌||◌, false≢true}
use mathlib.Core.List.{List, [], ◌∷◌}
use Prim.Native.Nat.{ℕ}
use lib.Dec.{T, eqb, eqb→eq}
use borrow.Author.Tests.{eqb-true}
use Rattle.protocol.specs.Table.{table}
use Rattle.protocol.specs.Layouts.{among}
use Rattle.protocol.specs.TableFacts.{requests, answered, keys, TableFacts}
use Rattle.protocol.specs.Decision.{Decision, layout, unlisted_key, unlisted_version, versions_in, of_version, decide}
use Rattle.protocol.proofs.Unlisted.{both, unlisted}

abbrev all : (ℕ → Bool) → List ℕ → Bool
all f [] = true
all f (k ∷ ks) = f k && all f ks

-- What a test says of each number of a list, it says of a number among them.
at_each : (f : ℕ → Bool) (ks : List ℕ) → T (all f ks) → (k : ℕ) → among k ks ≡ true → T (f k)
at_each f [] h k e = absurd (false≢true e)
at_each f (j ∷ ks) h k e = by (eqb k j) refl e (at_each f ks (both (f j) (all f ks) h).1 k)
  where
    by : (t : Bool) → eqb k j ≡ t → (t || among k ks) ≡ true → (among k ks ≡ true → T (f k)) → T (f k)
    by true i e later = rw (eqb-true k j i) (both (f j) (all f ks) h).0
    by false i e later = later e

abbrev pub is_layout : Decision → ℕ → ℕ → Bool
is_layout (layout a b) k v = eqb a k && eqb b v
is_layout unlisted_key k v = false
is_layout unlisted_version k v = false

pub is_layout_lem : (d : Decision) (k v : ℕ) → T (is_layout d k v) → d ≡ layout k v
is_layout_lem (layout a b) k v t =
    let p = both (eqb a k) (eqb b v) t in
    ap₂ layout (eqb→eq a k p.0) (eqb→eq b v p.1)
is_layout_lem unlisted_key k v t = absurd t
is_layout_lem unlisted_version k v t = absurd t

listed : (k : ℕ) → among k keys ≡ true → decide k 1 ≡ layout k 1
unfolding keys requests answered table versions_in of_version decide
listed k e = is_layout_lem (decide k 1) k 1 (at_each (λ j. is_layout (decide j 1) j 1) keys tt k e)

no_other_lem : (k v : ℕ) → among k keys ≡ false → decide k v ≡ unlisted_key
unfolding keys requests answered table decide
no_other_lem k v e = rw (unlisted table keys k e tt)

pub table_facts : TableFacts
unfolding table
table_facts = record { layouts = refl; key_count = refl; listed = listed; no_other = no_other_lem }
