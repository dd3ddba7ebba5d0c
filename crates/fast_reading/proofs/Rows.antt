-- Fields are read one after another. Where the last one ends with the content, the frame is read, and where one is refused,
-- so is the content. A number is read where its bytes are there, and a list that is not refused up to its end. Assumes nothing.
use mathlib.Core.Path.{◌≡◌, refl, ◌∙◌, sym, ap}
use mathlib.Core.List.{List, [], ◌∷◌, map}
use Prim.Native.Nat.{ℕ, suc, ◌+◌, ◌-◌, ◌^◌, ◌<◌, ◌≤◌}
use native.Mathlib.Omega.{arith}
use lib.ListN.{length}
use borrow.Author.Tests.{le-ltb}
use Rattle.wire.specs.Integers.{Bytes, big_endian}
use Rattle.wire.proofs.Widths.{integers, or_zero_lem}
use Rattle.protocol.specs.Fields.{Field, number, elements, place, over_places, further}
use Rattle.protocol.specs.Fields as F
use Rattle.protocol.specs.Kinds.{Kind, Row, end, ◌·◌, unsigned, u8, list, plain, spec}
use Rattle.protocol.specs.Table.{row_of}
use Rattle.protocol.specs.declared.offset.OffsetSpecification.TheVariants.{Offset}
use Rattle.protocol.specs.declared.place.Place.{Place}
use Rattle.rules.specs.Outcome.{Outcome, got, refused}
use Rattle.rules.specs.Reading.{read_typed, read_offset, read_specification, read_field, read_row, read_content, read_layout}
use Rattle.rules.proofs.Numbers.{number_there, whole_width}
use Rattle.byte_strings.specs.Stops.{stop, stop_at, told}
use Rattle.byte_strings.specs.Stops.{Stop}
use Rattle.number_lists.proofs.Lists.{list_whole}
use Rattle.std.specs.Prelude.{Result, Some, Ok, Err}
use Rattle.std.specs.Result.{result_ok}
use Rattle.protocol.specs.Refusals.{number_of}
use Rattle.slots.specs.Flat.{flat_row, flat_frame, padded}
use Rattle.fast_reading.specs.Answer.{Answers}
use Rattle.byte_strings.specs.declared.fault.Fault.{Fault}

-- ---- A row that is read

pub data Got (s : List ℕ) : Row → ℕ → List (Field Place) → ℕ → Type 0 where
  done : {at : ℕ} → Got s end at [] at
  link : {k : Kind} {row : Row} {at next last : ℕ} {f : Field Place} {fs : List (Field Place)} → read_field k s at ≡ got f next → Got s row next fs last → Got s (k · row) at (f ∷ fs) last

row_read : {s : List ℕ} {row : Row} {at last : ℕ} {fs : List (Field Place)} → Got s row at fs last → read_row row s at ≡ got fs last
unfolding read_row
row_read done = refl
row_read (link p q) = rw (p, row_read q)

pub reads : {s : List ℕ} {row : Row} {last : ℕ} {fs : List (Field Place)} (k v : ℕ) (old new : List ℕ) → row_of k v ≡ row → Got s row 0 fs last → last ≡ length s → new ≡ padded 24 (k ∷ v ∷ flat_row row (map (over_places (further 8)) fs)) → Answers (read_layout k v s) old (Some (Ok tt)) new
unfolding read_layout read_content flat_frame
reads {s} {row} {last} {fs} k v old new i g h j =
    (record { key = k; version = v; content = map (over_places (further 8)) fs }, (rw (i, row_read g, le-ltb last (length s) (omega arith)), j ∙ ap (λ (r : Row). padded 24 (k ∷ v ∷ flat_row r (map (over_places (further 8)) fs))) (sym i)))

-- ---- A row that is refused

pub data Refuses (s : List ℕ) : Row → ℕ → ℕ → ℕ → Type 0 where
  here : {k : Kind} {row : Row} {at n p : ℕ} → read_field k s at ≡ refused n p → Refuses s (k · row) at n p
  later : {k : Kind} {row : Row} {at next n p : ℕ} {f : Field Place} → read_field k s at ≡ got f next → Refuses s row next n p → Refuses s (k · row) at n p

row_refused : {s : List ℕ} {row : Row} {at n p : ℕ} → Refuses s row at n p → read_row row s at ≡ refused n p
unfolding read_row
row_refused (here i) = rw i
row_refused (later i q) = rw (i, row_refused q)

pub refuses : {s : List ℕ} {row : Row} (fault : Fault) (k v : ℕ) (old : List ℕ) → row_of k v ≡ row → Refuses s row 0 (number_of fault.refusal) fault.at → Answers (read_layout k v s) old (Some (Err fault)) old
unfolding read_layout read_content
refuses fault k v old i g = (rw (i, row_refused g), refl)

-- ---- Numbers

pub below : (n : ℕ) (s : List ℕ) (at x : ℕ) → Bytes s → x ≡ big_endian n s at → x < 256 ^ n
below n s at x b i = rw i ((integers n).range s at b)

module _ (s : List ℕ) (b : Bytes s) where
  pub unsigned_read : (n most at next : ℕ) → 256 ^ n ≡ suc most → at + n ≡ next → next ≤ length s → read_field (unsigned n most) s at ≡ got (number (big_endian n s at)) next
  unfolding read_field
  unsigned_read n most at next e f h = rw (whole_width n s at most e b, number_there n s at (omega arith), f)

-- ---- An offset specification of type 4

pub offset_read : (s : List ℕ) (at : ℕ) → at + 10 ≤ length s → big_endian 2 s at ≡ 4 → read_field spec s at ≡ got (F.offset (Offset (big_endian 8 s (at + 2)))) (at + 10)
unfolding read_field read_specification read_typed read_offset
offset_read s at h e =
    let f : at + 2 + 8 ≡ at + 10 = omega arith in
    rw (number_there 2 s at (omega arith), e, number_there 8 s (at + 2) (omega arith), f)

-- ---- A list that ends with the content

-- What `ok` leaves of an answer is the end.
pub ended_at : {A : Type 0} (o : Outcome A) (r : Result ℕ Fault) (last : ℕ) → Some last ≡ result_ok r → told r ≡ stop o → stop_at last 0 ≡ stop o
ended_at o (Ok n) last e i = let j : last ≡ n = cc in rw j i
ended_at o (Err fault) last e i = cc

module _ (row : Row) (s : List ℕ) (e : Stop) (z : e.refused ≡ 0) (y : e.at ≡ length s) where
  pub list_read : (at from count : ℕ) → e ≡ stop (read_field (list plain row) s at) → at + 4 ≡ from → count ≡ big_endian 4 s at → read_field (list plain row) s at ≡ got (elements count (place from (length s - from))) (length s)
  list_read at from count i f c =
      let w = list_whole plain row s at e i z in
      rw (← f, ← y, c ∙ sym (or_zero_lem 4 s at w.0)) w.1

  -- A byte and such a list.
  pub byte_and_list : (k : ℕ) (old : List ℕ) (a n : ℕ) → row_of k 1 ≡ u8 · list plain row · end → Bytes s → 5 ≤ length s → a ≡ big_endian 1 s 0 → n ≡ big_endian 4 s 1 → e ≡ stop (read_field (list plain row) s 1) → Answers (read_layout k 1 s) old (Some (Ok tt)) (padded 24 (k ∷ 1 ∷ a ∷ n ∷ 13 ∷ (length s - 5) ∷ []))
  byte_and_list k old a n i b l f g h =
      reads k 1 old _ i
      (link (unsigned_read s b 1 0xff 0 1 refl refl (omega arith))
      (link (list_read 1 5 n h refl g) done))
      refl
      (rw f)
