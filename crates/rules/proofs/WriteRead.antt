-- A frame that is written is well formed, so reading the output gives the same fields: every check of the writer is one
-- of the grammar's or of the frame limit, and what it writes is what the fields encode to. Assumes nothing.
use mathlib.Core.Path.{◌≡◌, refl, sym, ap, ap₂, subst, ◌∙◌}
use mathlib.Core.Bool.{Bool, true, false, cond, ◌||◌}
use mathlib.Core.List.{List, ◌++◌}
use Prim.Native.Nat.{ℕ, ◌+◌, ◌^◌, ◌≤◌, ◌<◌}
use native.Mathlib.Omega.{arith}
use lib.Dec.{ltb}
use lib.ListN.{length as len, take, drop}
use lib.Seq.{drop_at}
use borrow.Author.Tests.{ltb-false}
use Rattle.wire.specs.Buffer.{splice}
use Rattle.wire.specs.Integers.{Bytes, digits}
use Rattle.wire.proofs.Splice.{length_splice}
use Rattle.protocol.specs.Decision.{Decision, layout, unlisted_key, unlisted_version, decide}
use Rattle.protocol.specs.Fields.{Fields, values_in, PlacesEndBy}
use Rattle.protocol.specs.Frames.{fields_of, OfRow}
use Rattle.protocol.specs.Refusals.{frame_too_large, no_room, unknown_key, unknown_version}
use Rattle.protocol.specs.Table.{row_of}
use Rattle.protocol.specs.declared.place.Place.{Place}
use Rattle.protocol.proofs.FrameRows.{of_table}
use Rattle.rules.specs.Exactness.{Starts, frame_length}
use Rattle.rules.specs.Grammar.{size_of, encode_frame, ValidFrame}
use Rattle.rules.specs.Reading.{over_limit}
use Rattle.rules.specs.RoundTrips.{WroteAndReads, WriteThenRead, RefusedWriteTouchesNothing}
use Rattle.rules.specs.Writing.{Encoding, wrote, refuse, length, refusal, Writing, unwritten, write_row, write_encoded, write_decided, write_frame}
use Rattle.rules.proofs.Complete.{complete}
use Rattle.rules.proofs.Listed.{itself, wide_row_lem}
use Rattle.rules.proofs.ReadWrite.{splice_start, size_read, encoded_length, encoded_bytes}
use Rattle.rules.proofs.WriteField.{neither, written_row}

-- What an encoded content passed, and what the output then holds.
record Passed (k v limit : ℕ) (out c : List ℕ) (n : ℕ) (w : Writing) : Type 0 where
  size : 4 + len c < 256 ^ 4
  within : over_limit limit (4 + len c) ≡ false
  answer : n ≡ 8 + len c
  room : 8 + len c ≤ len out
  holds : w.out ≡ splice out 0 (digits 4 (4 + len c) ++ (digits 2 k ++ (digits 2 v ++ c)))

-- Two lengths are the same answer only if they are the same.
same_length : (n m : ℕ) → length m ≡ length n → n ≡ m
same_length n m e = cc

no_length : (m n : ℕ) → refusal m ≡ length n → ⊥
no_length m n e = let z : ◌≡◌ {A = ℕ} 0 1 = cc in omega arith

-- A refusal behind the fields leaves the output as it was.
refused_encoding : (k v : ℕ) (x : Encoding) (limit : ℕ) (out : List ℕ) (n : ℕ) → (write_encoded k v x limit out).answer ≡ refusal n → (write_encoded k v x limit out).out ≡ out
refused_encoding k v (refuse m) limit out n e = refl
refused_encoding k v (wrote c) limit out n e = by (ltb 0xffff_ffff (4 + len c) || over_limit limit (4 + len c)) (ltb (len out) (8 + len c)) e
  where
    w : Writing
    w = record { answer = length (8 + len c); out = splice out 0 (digits 4 (4 + len c) ++ (digits 2 k ++ (digits 2 v ++ c))) }

    by : (t u : Bool) → (cond t (unwritten frame_too_large out) (cond u (unwritten no_room out) w)).answer ≡ refusal n → (cond t (unwritten frame_too_large out) (cond u (unwritten no_room out) w)).out ≡ out
    by true u e = refl
    by false true e = refl
    by false false e = absurd (no_length n (8 + len c) (sym e))

encoded_passed : (k v limit : ℕ) (out c : List ℕ) (n : ℕ) → (write_encoded k v (wrote c) limit out).answer ≡ length n → Passed k v limit out c n (write_encoded k v (wrote c) limit out)
encoded_passed k v limit out c n = by (ltb 0xffff_ffff (4 + len c) || over_limit limit (4 + len c)) refl (ltb (len out) (8 + len c)) refl
  where
    w : Writing
    w = record { answer = length (8 + len c); out = splice out 0 (digits 4 (4 + len c) ++ (digits 2 k ++ (digits 2 v ++ c))) }

    by : (t : Bool) → (ltb 0xffff_ffff (4 + len c) || over_limit limit (4 + len c)) ≡ t → (u : Bool) → ltb (len out) (8 + len c) ≡ u → (cond t (unwritten frame_too_large out) (cond u (unwritten no_room out) w)).answer ≡ length n → Passed k v limit out c n (cond t (unwritten frame_too_large out) (cond u (unwritten no_room out) w))
    by true p u q e = absurd (no_length frame_too_large n e)
    by false p true q e = absurd (no_length no_room n e)
    by false p false q e =
        let r = neither (ltb 0xffff_ffff (4 + len c)) (over_limit limit (4 + len c)) p in
        let s : 4 + len c ≤ 0xffff_ffff = ltb-false 0xffff_ffff (4 + len c) r.0 in
        record { size = omega (arith, s); within = r.1; answer = same_length n (8 + len c) e; room = ltb-false (len out) (8 + len c) q; holds = refl }

module _ (f : Fields Place) (src : List ℕ) (limit : ℕ) (out : List ℕ) where
  -- What a frame that was written passed, and what the output then holds.
  pub record WrittenFrame (n : ℕ) (after : List ℕ) : Type 0 where
    pub valid : ValidFrame (values_in src f)
    pub places : PlacesEndBy (len src) f.content
    pub within : over_limit limit (size_of (values_in src f)) ≡ false
    pub answer : n ≡ 4 + size_of (values_in src f)
    pub room : n ≤ len out
    pub holds : after ≡ splice out 0 (encode_frame (values_in src f))

  content_written : (n : ℕ) (x : Encoding) → Bytes src → OfRow (row_of f.key f.version) f.content → decide f.key f.version ≡ layout f.key f.version → write_row (row_of f.key f.version) src f.content ≡ x → (write_encoded f.key f.version x limit out).answer ≡ length n → WrittenFrame n (write_encoded f.key f.version x limit out).out
  content_written n (refuse m) b g d h e = absurd (no_length m n e)
  content_written n (wrote c) b g d h e =
      let r = written_row (row_of f.key f.version) src b f.content c (wide_row_lem f.key f.version) g h in
      let p = encoded_passed f.key f.version limit out c n e in
      let q : 4 + len c ≡ size_of (values_in src f) = ap (λ t. 4 + len t) r.2 in
      record {
        valid = record { listed = d; content = r.1; size = subst (λ m. m < 256 ^ 4) q p.size };
        places = r.0;
        within = subst (λ m. over_limit limit m ≡ false) q p.within;
        answer = p.answer ∙ omega (arith, q);
        room = omega (arith, p.answer, p.room);
        holds = p.holds ∙ ap (λ t. splice out 0 (digits 4 (4 + len t) ++ (digits 2 f.key ++ (digits 2 f.version ++ t)))) r.2;
      }

  pub written_frame : (n : ℕ) → Bytes src → OfRow (row_of f.key f.version) f.content → (write_frame f src limit out).answer ≡ length n → WrittenFrame n (write_frame f src limit out).out
  unfolding write_frame
  written_frame n b g = by (decide f.key f.version) refl
    where
      by : (d : Decision) → decide f.key f.version ≡ d → (write_decided d f src limit out).answer ≡ length n → WrittenFrame n (write_decided d f src limit out).out
      by (layout k v) p e =
          let t = itself f.key f.version k v p in
          let o : layout f.key f.version ≡ layout k v = sym (ap₂ layout t.0 t.1) in
          subst (λ d. (write_decided d f src limit out).answer ≡ length n → WrittenFrame n (write_decided d f src limit out).out) o
          (content_written n (write_row (row_of f.key f.version) src f.content) b g (p ∙ sym o) refl)
          e
      by unlisted_key p e = absurd (no_length unknown_key n e)
      by unlisted_version p e = absurd (no_length unknown_version n e)

-- The output starts with the frame's encoding, so completeness says how it is read.
module _ (f : Fields Place) (src : List ℕ) (limit : ℕ) (out : List ℕ) (n : ℕ) (after : List ℕ) (w : WrittenFrame f src limit out n after) where
  abbrev encoded : List ℕ
  encoded = encode_frame (values_in src f)

  whole : after ≡ encoded ++ drop (len encoded) out
  whole = w.holds ∙ splice_start out encoded

  starts : Starts after limit (values_in src f)
  starts = record { valid = w.valid; within = w.within; rest = drop (len encoded) out; whole = whole }

  same : n ≡ frame_length after
  same = omega (arith, w.answer, size_read after limit (values_in src f) starts)

  long : len encoded ≡ n
  long = encoded_length after limit (values_in src f) starts ∙ sym same

  pub reads_back : WroteAndReads f src limit out n after
  reads_back =
      record {
        answer = same;
        room = w.room;
        inside = w.places;
        bytes = ap (λ m. take m after) same ∙ encoded_bytes after limit (values_in src f) starts;
        untouched = ap (drop n) whole ∙ (drop_at encoded (drop (len encoded) out) n long ∙ ap (λ m. drop m out) long);
        as_long = ap len w.holds ∙ length_splice out encoded 0 (omega (arith, long, w.room));
        back = complete after limit (values_in src f) starts;
      }

pub write_then_read : WriteThenRead
write_then_read f src limit out n b e =
    reads_back (fields_of f) src limit out n _ (written_frame (fields_of f) src limit out n b (of_table f) e)

pub refused_write_touches_nothing : RefusedWriteTouchesNothing
unfolding write_frame
refused_write_touches_nothing f src limit out n = by (decide f.key f.version)
  where
    by : (d : Decision) → (write_decided d f src limit out).answer ≡ refusal n → (write_decided d f src limit out).out ≡ out
    by (layout k v) e = refused_encoding k v (write_row (row_of k v) src f.content) limit out n e
    by unlisted_key e = refl
    by unlisted_version e = refl
