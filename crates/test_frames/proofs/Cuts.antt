-- A frame that was read is there, and one cut more adds its own. Assumes nothing.
use Prim.Native.Nat.{ℕ, ◌+◌, ◌≤◌}
use mathlib.Core.Path.{◌≡◌, refl, sym, ap, ap₂, subst, ◌∙◌}
use mathlib.Core.List.{List}
use native.Mathlib.Numerals.{add-one}
use lib.ListN.{length, take}
use Rattle.rules.proofs.Heads.{Head, head}
use Rattle.rules.specs.Exactness.{frame_length}
use Rattle.rules.specs.Reading.{read_frame}
use Rattle.frame_reading.specs.Answer.{Frame, told}
use Rattle.frame_reading.proofs.Told.{frame_told}
use Rattle.test_frames.specs.Answers.{needs, cuts_needing}

-- A frame that was read is there to its end.
pub whole : (s : List ℕ) (limit : ℕ) → Frame ≡ told (read_frame s limit) → frame_length s ≤ length s
whole s limit e = let f = frame_told (read_frame s limit) e in (subst (Head s) (sym f.1) (head s limit)).1

module _ (limit : ℕ) (s : List ℕ) (n : ℕ) where
  pub no_cuts : 0 ≡ cuts_needing limit s n 0
  unfolding cuts_needing
  no_cuts = refl

  pub one_cut : (k count more : ℕ) → count ≡ cuts_needing limit s n k → more ≡ needs n (read_frame (take k s) limit) → count + more ≡ cuts_needing limit s n (k + 1)
  unfolding cuts_needing
  one_cut k count more so it = ap₂ ◌+◌ so it ∙ ap (cuts_needing limit s n) (sym (add-one k))
