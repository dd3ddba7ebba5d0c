-- What a frame that is read has in its first eight bytes: Size that the bytes hold, and its own key and version.
-- Assumes nothing.
use mathlib.Core.Path.{◌≡◌}
use mathlib.Core.List.{List}
use Prim.Native.Nat.{ℕ, ◌-◌, ◌≤◌}
use native.Mathlib.Omega.{arith}
use lib.ListN.{length, take, drop}
use Rattle.wire.specs.Integers.{big_endian}
use Rattle.protocol.specs.Fields.{Field}
use Rattle.protocol.specs.Table.{row_of}
use Rattle.protocol.specs.declared.place.Place.{Place}
use Rattle.rules.proofs.Gives.{frame_cases}
use Rattle.rules.proofs.Listed.{itself}
use Rattle.rules.specs.Exactness.{frame_length}
use Rattle.rules.specs.Outcome.{Outcome, got, refused}
use Rattle.rules.specs.Reading.{Reading, frame, short, refusal, read_content, reading_of, read_layout, read_frame}

abbrev pub Head : List ℕ → Reading → Type 0
Head s (frame f) = (8 ≤ frame_length s) × (frame_length s ≤ length s) × (f.key ≡ big_endian 2 s 4) × (f.version ≡ big_endian 2 s 6)
Head s (short n) = Unit
Head s (refusal n at) = Unit

pub head : (s : List ℕ) (limit : ℕ) → Head s (read_frame s limit)
unfolding read_layout
head s limit =
    frame_cases (Head s) (λ _. tt) (λ _ _. tt) s limit (λ _ l w k v e. by k v (omega (arith, l)) w (let i = itself _ _ _ _ e in (i.0, i.1)) (read_content (row_of k v) (take (big_endian 4 s 0 - 4) (drop 8 s))))
  where
    by : (k v : ℕ) → 8 ≤ frame_length s → frame_length s ≤ length s → (k ≡ big_endian 2 s 4) × (v ≡ big_endian 2 s 6) → (o : Outcome (List (Field Place))) → Head s (reading_of k v o)
    by k v l w e (got fs last) = (l, w, e.0, e.1)
    by k v l w e (refused n p) = tt
