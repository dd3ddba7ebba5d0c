-- A Deliver by its version: where its chunk begins, what it is refused with, and its slots. Assumes nothing.
use Rattle.std.proofs.Common.{◌≡◌, refl, ◌∙◌, ap, Bool, true, false, cond, List, [], ◌∷◌, ◌++◌, ℕ, ◌+◌, ◌≤◌, eqb, length, Option, Some, None, Result, Ok, Err, arith}
use borrow.Author.Tests.{eqb-true}
use Rattle.wire.specs.Integers.{Bytes, big_endian}
use Rattle.protocol.specs.Decision.{versions_in, of_version, decide}
use Rattle.protocol.specs.Refusals.{number_of}
use Rattle.protocol.specs.Table.{table, row_in}
use Rattle.rules.specs.Outcome.{refused}
use Rattle.rules.specs.Reading.{read_chunk, read_decided, read_field, header_at}
use Rattle.byte_strings.specs.Stops.{Stop}
use Rattle.chunks.proofs.Chunks.{Whole}
use Rattle.slots.specs.Flat.{flat_header, padded}
use Rattle.fast_reading.specs.Answer.{Answers}
use Rattle.fast_reading.specs.Chunk.{chunk_at}
use Rattle.byte_strings.specs.declared.fault.Fault.{Fault}
use Rattle.fast_reading.proofs.Keys.{by_key}
use Rattle.fast_reading.proofs.Rows.{reads, done, link, refuses, here, later, unsigned_read}

-- A version that has a chunk is 1 or 2.
by_version : (version at : ℕ) → Some at ≡ chunk_at version → (P : Type 0) → (version ≡ 1 → Some at ≡ chunk_at 1 → P) → (version ≡ 2 → Some at ≡ chunk_at 2 → P) → P
by_version version at p P f g = by (eqb version 1) refl (eqb version 2) refl p
  where
    by : (t : Bool) → eqb version 1 ≡ t → (u : Bool) → eqb version 2 ≡ u → Some at ≡ cond t (chunk_at 1) (cond u (chunk_at 2) None) → P
    by true i u j k = f (eqb-true _ _ i) k
    by false i true j k = g (eqb-true _ _ j) k
    by false i false j k = cc

-- The chunk of version 1 begins behind a byte, that of version 2 behind a byte and eight more.
behind_one : (at : ℕ) → Some at ≡ chunk_at 1 → 0 + 1 ≡ at
behind_one at e = cc

behind_nine : (at : ℕ) → Some at ≡ chunk_at 2 → 1 + 8 ≡ at
behind_nine at e = cc

-- The version that is not 1.
pub second : (version at : ℕ) → Some at ≡ chunk_at version → (version ≡ 1 → ⊥) → (version ≡ 2) × (1 + 8 ≡ at)
second version at p n = by_version version at p ((version ≡ 2) × (1 + 8 ≡ at)) (λ v _. absurd (n v)) (λ v e. (v, behind_nine at e))

module _ (s old : List ℕ) (b : Bytes s) (version at : ℕ) (p : Some at ≡ chunk_at version) (l : at ≤ length s) where
  abbrev Told : Option (Result Unit Fault) → List ℕ → Type 0
  Told r new = Answers (read_decided (decide 0x0008 version) s) old r new

  pub refused_row : (fault : Fault) → read_chunk s at ≡ refused (number_of fault.refusal) fault.at → Told (Some (Err fault)) old
  unfolding decide versions_in of_version table row_in read_field
  refused_row fault r =
      by_version version at p (Told (Some (Err fault)) old)
      (λ v from.
      by_key s old old (Some (Err fault)) 0x0008 version 0x0008 1 refl refl v
      (refuses fault 0x0008 1 old refl
      (later (unsigned_read s b 1 0xff 0 at refl (behind_one at from) l)
      (here r))))
      (λ v e.
      let from : 1 + 8 ≡ at = behind_nine at e in
      by_key s old old (Some (Err fault)) 0x0008 version 0x0008 2 refl refl v
      (refuses fault 0x0008 2 old refl
      (later (unsigned_read s b 1 0xff 0 1 refl refl (omega arith))
      (later (unsigned_read s b 8 0xffff_ffff_ffff_ffff 1 at refl from l)
      (here r)))))

  pub first_row : (a d : ℕ) (e : Stop) (h : List ℕ) → version ≡ 1 → Whole s at e → a ≡ big_endian 1 s 0 → d ≡ big_endian 4 s (at + 36) → h ≡ flat_header (header_at s at) → Told (Some (Ok tt)) (padded 24 (0x0008 ∷ 1 ∷ a ∷ h ++ 57 ∷ d ∷ []))
  unfolding decide versions_in of_version table row_in read_field
  first_row a d e h v o i j k =
      let from : 0 + 1 ≡ at = behind_one at (p ∙ ap chunk_at v) in
      let after-header : 57 ≡ 8 + (at + 48) = omega arith in
      by_key s old _ (Some (Ok tt)) 0x0008 version 0x0008 1 refl refl v
      (reads 0x0008 1 old _ refl
      (link (unsigned_read s b 1 0xff 0 at refl from l)
      (link o.read done))
      refl
      (rw (i, j, k, after-header)))

  pub second_row : (a n d : ℕ) (e : Stop) (h : List ℕ) → version ≡ 2 → 1 + 8 ≡ at → Whole s at e → a ≡ big_endian 1 s 0 → n ≡ big_endian 8 s 1 → d ≡ big_endian 4 s (at + 36) → h ≡ flat_header (header_at s at) → Told (Some (Ok tt)) (padded 24 (0x0008 ∷ 2 ∷ a ∷ n ∷ h ++ 65 ∷ d ∷ []))
  unfolding decide versions_in of_version table row_in read_field
  second_row a n d e h v from o i j k m =
      let after-header : 65 ≡ 8 + (at + 48) = omega arith in
      by_key s old _ (Some (Ok tt)) 0x0008 version 0x0008 2 refl refl v
      (reads 0x0008 2 old _ refl
      (link (unsigned_read s b 1 0xff 0 1 refl refl (omega arith))
      (link (unsigned_read s b 8 0xffff_ffff_ffff_ffff 1 at refl from l)
      (link o.read done)))
      refl
      (rw (i, j, k, m, after-header)))
