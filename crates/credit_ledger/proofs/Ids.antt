-- The id of a Deliver that is read is below 256: it is the first field of its row, a number of one byte, and a value
-- above 255 would be refused. Assumes nothing.
use Prim.Native.Nat.{ℕ, ◌+◌, ◌-◌, ◌≤◌, ◌<◌}
use mathlib.Core.Path.{◌≡◌, refl, sym, subst}
use mathlib.Core.Bool.{Bool, true, false, cond}
use mathlib.Core.List.{List, [], ◌∷◌, map}
use mathlib.Core.Option.{none, some}
use native.Mathlib.Omega.{arith}
use borrow.Author.Tests.{ltb-false, eqb-true}
use lib.Dec.{eqb, ltb}
use lib.ListN.{length, take, drop}
use Rattle.wire.specs.Integers.{big_endian}
use Rattle.protocol.specs.Decision.{Decision, layout, unlisted_key, unlisted_version, decide}
use Rattle.protocol.specs.Fields.{Field, Fields, number, over_places, further}
use Rattle.protocol.specs.Kinds.{Row, end, ◌·◌, u8, u64, chunk}
use Rattle.protocol.specs.Refusals.{frame_too_large, frame_too_small, field_cut, value_not_admitted, bytes_left}
use Rattle.protocol.specs.Table.{table, row_in, row_of}
use Rattle.protocol.specs.declared.place.Place.{Place}
use Rattle.rules.specs.Outcome.{Outcome, got, refused, then, refuse_if}
use Rattle.rules.specs.Reading.{read_number, read_unsigned, read_field, read_row, read_content, read_layout, read_decided, read_sized, read_frame, reading_of, frame, short, refusal, over_limit}
use Rattle.rules.specs.Reading as rules
use Rattle.ledger.specs.History.{Within}
use Rattle.credit_ledger.specs.Calls.{first_number}
use Rattle.credit_ledger.specs.Demand3.{frame_purpose, read_purpose}

-- The first field of what was read is a number below 256.
abbrev Byte : Outcome (List (Field Place)) → Type 0
Byte (got fs behind) = first_number fs < 256
Byte (refused n at) = Unit

checked : (t : Bool) (n at : ℕ) (o : Outcome (List (Field Place))) → Byte o → Byte (refuse_if t n at o)
checked true n at o h = tt
checked false n at o h = h

-- A row that begins with a number of one byte.
begins : (row : Row) (s : List ℕ) → Byte (read_row (u8 · row) s 0)
unfolding read_row read_field read_unsigned read_number
begins row s = by (ltb (length s) 1)
  where
    rest : (x : ℕ) → x < 256 → (o : Outcome (List (Field Place))) → Byte (then o (λ fs behind. got (number x ∷ fs) behind))
    rest x h (got fs behind) = h
    rest x h (refused n at) = tt

    test : (x next : ℕ) (t : Bool) → ltb 255 x ≡ t
        → Byte (then (refuse_if t value_not_admitted 0 (got (number x) next)) (λ f next. then (read_row row s next) (λ fs behind. got (f ∷ fs) behind)))
    test x next true e = tt
    test x next false e = let h : x ≤ 255 = ltb-false 255 x e in rest x (omega (arith, h)) (read_row row s next)

    by : (t : Bool)
        → Byte (then (then (refuse_if t field_cut 0 (got (big_endian 1 s 0) 1)) (λ x next. refuse_if (ltb 255 x) value_not_admitted 0 (got (number x) next))) (λ f next. then (read_row row s next) (λ fs behind. got (f ∷ fs) behind)))
    by true = tt
    by false = test (big_endian 1 s 0) 1 (ltb 255 (big_endian 1 s 0)) refl

content_byte : (row : Row) (s : List ℕ) → Byte (read_row row s 0) → Byte (read_content row s)
unfolding read_content
content_byte row s h = by (read_row row s 0) h
  where
    by : (o : Outcome (List (Field Place))) → Byte o → Byte (then o (λ fs last. refuse_if (ltb last (length s)) bytes_left last (got fs last)))
    by (got fs last) k = checked (ltb last (length s)) bytes_left last (got fs last) k
    by (refused n at) k = tt

-- The two layouts of key 8; a version that the table has not has no field.
deliver_rows : (version : ℕ) (s : List ℕ) → Byte (read_row (row_of 8 version) s 0)
unfolding table row_in read_row
deliver_rows version s = by (eqb version 1) (eqb version 2)
  where
    by : (t u : Bool) → Byte (read_row (cond t (u8 · chunk · end) (cond u (u8 · u64 · chunk · end) end)) s 0)
    by true u = begins (chunk · end) s
    by false true = begins (u64 · chunk · end) s
    by false false = omega arith

pub first_moved : (fs : List (Field Place)) → first_number (map (over_places (further 8)) fs) ≡ first_number fs
first_moved [] = refl
first_moved (f ∷ fs) = refl

abbrev Small : rules.Reading → Type 0
Small r = Within (read_purpose r)

small_frame : (f : Fields Place) → (f.key ≡ 8 → first_number f.content < 256) → Small (frame f)
small_frame f h = by (eqb f.key 8) refl
  where
    by : (t : Bool) → eqb f.key 8 ≡ t → Within (frame_purpose (cond t (some (first_number f.content)) none))
    by true e = h (eqb-true f.key 8 e)
    by false e = tt

small_layout : (key version : ℕ) (s : List ℕ) → Small (read_layout key version s)
unfolding read_layout
small_layout key version s = by (read_content (row_of key version) s) refl
  where
    by : (o : Outcome (List (Field Place))) → read_content (row_of key version) s ≡ o → Within (read_purpose (reading_of key version o))
    by (got fs behind) e =
        small_frame (record { key = key; version = version; content = map (over_places (further 8)) fs })
        (λ k.
        let b : Byte (read_content (row_of key version) s) = subst (λ (m : ℕ). Byte (read_content (row_of m version) s)) (sym k) (content_byte (row_of 8 version) s (deliver_rows version s)) in
        rw (first_moved fs) (subst Byte e b))
    by (refused n at) e = tt

small_cond : (t : Bool) (a b : rules.Reading) → Small a → Small b → Small (cond t a b)
small_cond true a b h k = h
small_cond false a b h k = k

small_decided : (d : Decision) (s : List ℕ) → Small (read_decided d s)
unfolding read_decided
small_decided (layout key version) s = small_layout key version s
small_decided unlisted_key s = tt
small_decided unlisted_version s = tt

small_sized : (s : List ℕ) (limit size : ℕ) → Small (read_sized s limit size)
unfolding read_sized
small_sized s limit size =
    small_cond (over_limit limit size) (refusal frame_too_large 0) (within size) tt
    (small_cond (ltb size 4) (refusal frame_too_small 0) (whole size) tt
    (small_cond (ltb (length s) (size + 4)) (short (size + 4)) (decided size) tt
    (small_decided (decide (big_endian 2 s 4) (big_endian 2 s 6)) (take (size - 4) (drop 8 s)))))
  where
    decided : ℕ → rules.Reading
    decided n = read_decided (decide (big_endian 2 s 4) (big_endian 2 s 6)) (take (n - 4) (drop 8 s))

    whole : ℕ → rules.Reading
    whole n = cond (ltb (length s) (n + 4)) (short (n + 4)) (decided n)

    within : ℕ → rules.Reading
    within n = cond (ltb n 4) (refusal frame_too_small 0) (whole n)

pub small_frame_id : (s : List ℕ) (limit : ℕ) → Within (read_purpose (read_frame s limit))
unfolding read_frame
small_frame_id s limit = small_cond (ltb (length s) 4) (short 4) (read_sized s limit (big_endian 4 s 0)) tt (small_sized s limit (big_endian 4 s 0))
