-- Every frame has bytes: so the lines are those of what comes next, and of what is behind it. Assumes nothing.
use mathlib.Core.Path.{◌≡◌, refl, ap}
use mathlib.Core.Bool.{Bool, true, false}
use mathlib.Core.List.{List, [], ◌∷◌, ◌++◌}
use mathlib.Core.Logic.{◌⊎◌, inl, inr}
use Prim.Native.Nat.{ℕ, zero, suc, ◌+◌, ◌<◌}
use native.Mathlib.Omega.{arith}
use lib.ListN.{length, drop, length-drop}
use Rattle.protocol.specs.Fields.{Fields}
use Rattle.protocol.specs.declared.place.Place.{Place}
use Rattle.rules.specs.Exactness.{frame_length}
use Rattle.rules.specs.Reading.{Reading, frame, short, refusal, read_frame}
use Rattle.captures.specs.Following.{Next, framed, whole, cut, refused, more, next_of, following}
use Rattle.captures.proofs.Followings.{framed_there}
use Rattle.listing_lines.specs.Text.{joined}
use Rattle.listing_lines.specs.Line.{frame_line}
use Rattle.listing_text.specs.Listing.{limit, closes, lines_from, lines, lines_of, LinesUnfold}

same_lines : (x : Next) (o k : ℕ) (f g : ℕ → List ℕ) → ((h : Fields Place) (t : ℕ) → x ≡ framed h t → f t ≡ g t) → lines_from x o k f ≡ lines_from x o k g
same_lines (framed h t) o k f g e = ap (λ (l : List ℕ). joined (frame_line o t h.key h.version) ++ l) (e h t refl)
same_lines whole o k f g e = refl
same_lines (cut left needed) o k f g e = refl
same_lines (refused n) o k f g e = refl
same_lines more o k f g e = refl

shorter : (s : List ℕ) (h : Fields Place) (t n : ℕ) → following s true limit ≡ framed h t → length s < suc n → length (drop t s) < n
shorter s h t n e p = let a = framed_there s true limit h t e in rw (length-drop t s) (omega (arith, a.0, a.1, p))

-- More steps than there are bytes change nothing.
enough : (m n : ℕ) (s : List ℕ) (o k : ℕ) → length s < m → length s < n → lines m s o k ≡ lines n s o k
unfolding lines
enough zero n s o k p q = absurd (omega (arith, p))
enough (suc m) zero s o k p q = absurd (omega (arith, q))
enough (suc m) (suc n) s o k p q =
    same_lines (following s true limit) o k (λ (t : ℕ). lines m (drop t s) (o + t) (suc k)) (λ (t : ℕ). lines n (drop t s) (o + t) (suc k))
    (λ h t e. enough m n (drop t s) (o + t) (suc k) (shorter s h t m e p) (shorter s h t n e q))

pub lines_unfold : LinesUnfold
unfolding lines_of lines
lines_unfold s o k =
    same_lines (following s true limit) o k (λ (t : ℕ). lines (length s) (drop t s) (o + t) (suc k)) (λ (t : ℕ). lines_of (drop t s) (o + t) (suc k))
    (λ h t e. enough (length s) (suc (length (drop t s))) (drop t s) (o + t) (suc k) (shorter s h t (length s) e (omega arith)) (omega arith))

-- A listing closes at the capture's end or at a refusal.
pub closes_at : (s : List ℕ) (ended : Bool) → closes (following s ended limit) ≡ true → (ended ≡ true) ⊎ ((number : ℕ) × (following s ended limit ≡ refused number))
unfolding following
closes_at s true c = inl refl
closes_at [] false c = absurd (let o : ◌≡◌ {A = ℕ} 0 1 = cc in omega arith)
closes_at (b ∷ s) false c = by (read_frame (b ∷ s) limit) c
  where
    by : (r : Reading) → closes (next_of r false (length (b ∷ s)) (frame_length (b ∷ s))) ≡ true → (false ≡ true) ⊎ ((number : ℕ) × (next_of r false (length (b ∷ s)) (frame_length (b ∷ s)) ≡ refused number))
    by (frame f) c = absurd (let o : ◌≡◌ {A = ℕ} 0 1 = cc in omega arith)
    by (short n) c = absurd (let o : ◌≡◌ {A = ℕ} 0 1 = cc in omega arith)
    by (refusal n p) c = inr (n, refl)
