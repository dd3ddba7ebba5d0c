-- A key that is none of some numbers has no layout in a table whose keys are all among those numbers: one test that
-- antt computes over the whole table, and one law. Assumes nothing.
use mathlib.Core.Path.{◌≡◌, refl, ◌∙◌, sym}
use mathlib.Core.Bool.{Bool, true, false, ◌&&◌, false≢true}
use mathlib.Core.List.{List, [], ◌∷◌}
use Prim.Native.Nat.{ℕ}
use lib.Dec.{T, eqb}
use borrow.Author.Tests.{ne_eqb}
use Rattle.protocol.specs.Table.{Listing}
use Rattle.protocol.specs.Layouts.{among}
use Rattle.protocol.specs.Decision.{versions_in}

pub holds : (b : Bool) → T b → b ≡ true
holds true t = refl
holds false t = absurd t

pub both : (b c : Bool) → T (b && c) → T b × T c
both true c t = (tt, t)
both false c t = absurd t

-- What a `match` tells of a number that is none of its single numbers, the last of them first.
abbrev pub NoneOf : List ℕ → ℕ → Type 0
NoneOf [] x = Unit
NoneOf (k ∷ ks) x = NoneOf ks x × (x ≡ k → ⊥)

pub not_among : (ks : List ℕ) (x : ℕ) → NoneOf ks x → among x ks ≡ false
not_among [] x r = refl
not_among (k ∷ ks) x r = rw (ne_eqb x k r.1) (not_among ks x r.0)

abbrev pub keys_among : List Listing → List ℕ → Bool
keys_among [] ks = true
keys_among (l ∷ ls) ks = among l.key ks && keys_among ls ks

differs : (ks : List ℕ) (x k : ℕ) → among x ks ≡ false → among k ks ≡ true → eqb x k ≡ false
differs ks x k p q = ne_eqb x k (λ e. false≢true (sym p ∙ rw (← e) at q))

pub unlisted : (ls : List Listing) (ks : List ℕ) (x : ℕ) → among x ks ≡ false → T (keys_among ls ks) → versions_in ls x ≡ []
unfolding versions_in
unlisted [] ks x r h = refl
unlisted (l ∷ ls) ks x r h =
    let p = both (among l.key ks) (keys_among ls ks) h in
    rw (differs ks x l.key r (holds (among l.key ks) p.0)) (unlisted ls ks x r p.1)
