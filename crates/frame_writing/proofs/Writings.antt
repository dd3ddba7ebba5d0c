-- A frame is written as the definition says: measuring tells the encoding's refusal or its length, up to a bound above any Size;
-- and what is put, which has room, is the encoding behind the head. Assumes nothing.
use mathlib.Core.Path.{◌≡◌, refl, ◌∙◌, ap}
use mathlib.Core.Bool.{Bool, true, false, cond, ◌||◌}
use mathlib.Core.List.{List, [], ◌∷◌, ◌++◌, append_assoc}
use Prim.Native.Nat.{ℕ, ◌+◌, ◌<◌, ◌≤◌}
use native.Mathlib.Omega.{arith}
use lib.Dec.{ltb}
use lib.ListN.{length, length-append}
use borrow.Author.Tests.{lt-ltb, le-ltb, ltb-true, ltb-false}
use Rattle.wire.specs.Buffer.{Holds, holds, splice}
use Rattle.wire.specs.Integers.{digits}
use Rattle.wire.proofs.Splice.{length_splice, splice_splice}
use Rattle.wire.proofs.Widths.{integers}
use Rattle.protocol.specs.Decision.{layout, decide}
use Rattle.protocol.specs.Fields.{Fields}
use Rattle.std.specs.Prelude.{Ok, Err}
use Rattle.protocol.specs.Refusals.{frame_too_large, no_room, number_of}
use Rattle.protocol.specs.declared.refusal.Refusal.{Refusal}
use Rattle.protocol.specs.Table.{row_of}
use Rattle.protocol.specs.declared.place.Place.{Place}
use Rattle.rules.specs.Reading.{over_limit}
use Rattle.rules.specs.Writing.{Encoding, wrote, refuse, write_row, unwritten, write_encoded, write_frame}
use Rattle.rules.specs.Writing as rules
use Rattle.fields.specs.Passes.{bound, capped, length_told, measured_from, behind, put_row}
use Rattle.frame_head.specs.Size.{size_refusal}
use Rattle.frame_writing.proofs.FieldPuts.{put_pieces, row_puts}

-- Size, key and version.
abbrev head : ℕ → ℕ → ℕ → List ℕ
head size key version = digits 4 size ++ (digits 2 key ++ digits 2 version)

head_length : (size key version : ℕ) → length (head size key version) ≡ 8
head_length size key version =
    rw (length-append (digits 4 size) (digits 2 key ++ digits 2 version), length-append (digits 2 key) (digits 2 version), (integers 4).size size, (integers 2).size key, (integers 2).size version)

-- The bound is above every Size.
capped_least : (n : ℕ) → capped n ≤ n
unfolding capped
capped_least n = by (ltb bound n) refl
  where
    by : (t : Bool) → ltb bound n ≡ t → cond (ltb bound n) bound n ≤ n
    by true e = let l : bound < n = ltb-true _ _ e in rw e (omega (arith, l))
    by false e = rw e (omega arith)

capped_exact : (n : ℕ) → capped n ≤ 0xffff_ffff → capped n ≡ n
unfolding capped
capped_exact n h = by (ltb bound n) refl h
  where
    by : (t : Bool) → ltb bound n ≡ t → cond (ltb bound n) bound n ≤ 0xffff_ffff → cond (ltb bound n) bound n ≡ n
    by true e h = let k : bound ≤ 0xffff_ffff = rw e at h in absurd (omega (arith, k))
    by false e h = rw e

module _ (f : Fields Place) (src : List ℕ) (limit : ℕ) (out : List ℕ) (listed : decide f.key f.version ≡ layout f.key f.version) where
  abbrev row : Encoding
  row = write_row (row_of f.key f.version) src f.content

  decided : write_frame f src limit out ≡ write_encoded f.key f.version row limit out
  unfolding write_frame
  decided = rw listed

  pub fields_refused : (r : Refusal) → length_told (Err r) ≡ measured_from 4 row → unwritten (number_of r) out ≡ write_frame f src limit out
  fields_refused r m = rw decided (by row m)
    where
      by : (e : Encoding) → length_told (Err r) ≡ measured_from 4 e → unwritten (number_of r) out ≡ write_encoded f.key f.version e limit out
      by (refuse n) i = let k : number_of r ≡ n = cc in rw k
      by (wrote b) i = cc

  module _ (size : ℕ) where
    pub record Sized : Type 0 where
      pub content : List ℕ
      pub is : row ≡ wrote content
      pub counted : size ≡ capped (4 + length content)

    pub sized : length_told (Ok size) ≡ measured_from 4 row → Sized
    sized m = by row refl m
      where
        by : (e : Encoding) → row ≡ e → length_told (Ok size) ≡ measured_from 4 e → Sized
        by (refuse n) e i = cc
        by (wrote b) e i = record { content = b; is = e; counted = cc }

    module _ (s : Sized) where
      encoded : write_frame f src limit out ≡ write_encoded f.key f.version (wrote s.content) limit out
      encoded = decided ∙ ap (λ (e : Encoding). write_encoded f.key f.version e limit out) s.is

      size_over : 0xffff_ffff < size → unwritten frame_too_large out ≡ write_frame f src limit out
      size_over h =
          let k : 0xffff_ffff < 4 + length s.content = omega (arith, h, s.counted, capped_least (4 + length s.content)) in
          rw (encoded, lt-ltb 0xffff_ffff (4 + length s.content) k)

      module _ (h : size ≤ 0xffff_ffff) where
        exact : size ≡ 4 + length s.content
        exact = let k : capped (4 + length s.content) ≤ 0xffff_ffff = rw (← s.counted) h in s.counted ∙ capped_exact (4 + length s.content) k

        fits : 4 + length s.content ≤ 0xffff_ffff
        fits = rw (← exact) h

        limit_over : over_limit limit size ≡ true → unwritten frame_too_large out ≡ write_frame f src limit out
        limit_over l =
            let k : over_limit limit (4 + length s.content) ≡ true = rw exact at l in
            rw (encoded, le-ltb 0xffff_ffff (4 + length s.content) fits, k)

        module _ (l : over_limit limit size ≡ false) where
          within : over_limit limit (4 + length s.content) ≡ false
          within = rw exact at l

          no_room_lem : length out < size + 4 → unwritten no_room out ≡ write_frame f src limit out
          no_room_lem r =
              let k : length out < 8 + length s.content = omega (arith, r, exact) in
              rw (encoded, le-ltb 0xffff_ffff (4 + length s.content) fits, within, lt-ltb (length out) (8 + length s.content) k)

          -- What is put, behind the head.
          module _ (room : size + 4 ≤ length out) (o1 o2 : List ℕ) (next place : ℕ) (put_head : holds o1 next ≡ behind (digits 2 f.version) (behind (digits 2 f.key) (behind (digits 4 size) (holds out 0)))) (put : holds o2 place ≡ put_row (row_of f.key f.version) src f.content (holds o1 next)) where
            front : List ℕ
            front = head size f.key f.version

            wide : 8 + length s.content ≤ length out
            wide = omega (arith, room, exact)

            front_long : length front ≡ 8
            unfolding front
            front_long = head_length size f.key f.version

            front_put : holds o1 next ≡ holds (splice out 0 front) (0 + length front)
            unfolding front
            front_put =
                put_head
                ∙ put_pieces (digits 4 size) (digits 2 f.key ∷ digits 2 f.version ∷ []) (head size f.key f.version) 0 out refl (omega (arith, front_long, wide))

            behind_front : o2 ≡ splice out 0 (front ++ s.content)
            behind_front =
                let j : 0 + length front ≤ length out = omega (arith, front_long, wide) in
                let k : 0 + length front + length s.content ≤ length out = omega (arith, front_long, wide) in
                let r : 0 + length front + length s.content ≤ length (splice out 0 front) = rw (length_splice out front 0 j) k in
                ap (λ (x : Holds). x.bytes) (put ∙ ap (put_row (row_of f.key f.version) src f.content) front_put ∙ row_puts (row_of f.key f.version) src f.content s.content (0 + length front) (splice out 0 front) s.is r)
                ∙ splice_splice out front s.content 0 k

            all_bytes : o2 ≡ splice out 0 (digits 4 (4 + length s.content) ++ (digits 2 f.key ++ (digits 2 f.version ++ s.content)))
            unfolding front
            all_bytes =
                behind_front
                ∙ ap (λ (x : List ℕ). splice out 0 x) (append_assoc (digits 4 size) (digits 2 f.key ++ digits 2 f.version) s.content ∙ ap (λ (x : List ℕ). digits 4 size ++ x) (append_assoc (digits 2 f.key) (digits 2 f.version) s.content))
                ∙ ap (λ (x : ℕ). splice out 0 (digits 4 x ++ (digits 2 f.key ++ (digits 2 f.version ++ s.content)))) exact

            pub frame_put : record { answer = rules.length (size + 4); out = o2 } ≡ write_frame f src limit out
            frame_put =
                let k : size + 4 ≡ 8 + length s.content = omega (arith, exact) in
                rw (encoded, le-ltb 0xffff_ffff (4 + length s.content) fits, within, le-ltb (length out) (8 + length s.content) wide, all_bytes, k)

      pub size_refused : (n : ℕ) → n ≡ size_refusal limit size (length out) → (n ≡ 0 → ⊥) → unwritten n out ≡ write_frame f src limit out
      unfolding size_refusal
      size_refused n e z = by (ltb 0xffff_ffff size) refl (over_limit limit size) refl (ltb (length out) (size + 4)) refl e
        where
          by : (a : Bool) → ltb 0xffff_ffff size ≡ a → (b : Bool) → over_limit limit size ≡ b → (c : Bool) → ltb (length out) (size + 4) ≡ c → n ≡ cond (a || b) frame_too_large (cond c no_room 0) → unwritten n out ≡ write_frame f src limit out
          by true i b j c k m = rw m (size_over (ltb-true _ _ i))
          by false i true j c k m = rw m (limit_over (ltb-false _ _ i) j)
          by false i false j true k m = rw m (no_room_lem (ltb-false _ _ i) j (ltb-true _ _ k))
          by false i false j false k m = absurd (z m)
