-- The fields of a layout are written one after another, each from the slots behind those of the fields in front of it. Assumes nothing.
use mathlib.Core.Path.{◌≡◌, refl, ◌∙◌, sym, ap}
use mathlib.Core.Bool.{Bool, true, false, cond}
use mathlib.Core.List.{List, ◌++◌}
use Prim.Native.Nat.{ℕ, ◌+◌, ◌<◌, ◌≤◌, min}
use native.Mathlib.Omega.{arith}
use lib.Dec.{ltb}
use lib.ListN.{length, drop, length-append}
use borrow.Author.Tests.{le-ltb, ltb-true, ltb-false}
use Rattle.std.specs.Prelude.{Ok, Err}
use Rattle.wire.specs.Buffer.{Holds}
use Rattle.protocol.specs.Kinds.{Kind, Row, end, ◌·◌}
use Rattle.protocol.specs.Refusals.{number_of}
use Rattle.protocol.specs.declared.refusal.Refusal.{Refusal}
use Rattle.rules.specs.Writing.{Encoding, wrote, refuse, followed, write_field, write_row}
use Rattle.byte_strings.specs.Stops.{Stop, stop_at}
use Rattle.fields.specs.Passes.{length_told, measured, measured_from, measured_row, bound, capped, measured_then, put_field, put_row}
use Rattle.slots.specs.Unflat.{slots_of, unflat_field, unflat_row}

abbrev pub write_slots : Row → List ℕ → List ℕ → Encoding
write_slots row src s = write_row row src (unflat_row row s)

abbrev pub measure_slots : ℕ → Row → List ℕ → List ℕ → Stop
measure_slots at row src s = measured_row at row src (unflat_row row s)

abbrev pub put_slots : Row → List ℕ → List ℕ → Holds → Holds
put_slots row src s h = put_row row src (unflat_row row s) h

-- ---- Measured lengths

capped_exact : (n : ℕ) → n ≤ bound → capped n ≡ n
unfolding capped
capped_exact n h = rw (le-ltb _ _ h)

capped_over : (n : ℕ) → bound ≤ n → capped n ≡ bound
unfolding capped
capped_over n h = by (ltb bound n) refl
  where
    by : (t : Bool) → ltb bound n ≡ t → cond (ltb bound n) bound n ≡ bound
    by true e = rw e
    by false e = let l : n ≤ bound = ltb-false _ _ e in rw e (omega (arith, l))

pub capped_min : (n : ℕ) → min n 0xffff_ffff_ffff_ffff ≡ capped n
unfolding capped
capped_min n = by (ltb bound n) refl
  where
    by : (t : Bool) → ltb bound n ≡ t → min n 0xffff_ffff_ffff_ffff ≡ cond (ltb bound n) bound n
    by true e = let l : bound < n = ltb-true _ _ e in rw e (omega (arith, l))
    by false e = let l : n ≤ bound = ltb-false _ _ e in rw e (omega (arith, l))

-- A length behind one that counts up to the bound.
counted_twice : (size n m k : ℕ) → m ≡ capped (size + n) → capped (m + k) ≡ capped (size + (n + k))
counted_twice size n m k e = by (ltb bound (size + n)) refl
  where
    by : (t : Bool) → ltb bound (size + n) ≡ t → capped (m + k) ≡ capped (size + (n + k))
    by true i =
        let l : bound < size + n = ltb-true _ _ i in
        let f : m ≡ bound = e ∙ capped_over (size + n) (omega (arith, l)) in
        capped_over (m + k) (omega (arith, f)) ∙ sym (capped_over (size + (n + k)) (omega (arith, l)))
    by false i =
        let l : size + n ≤ bound = ltb-false _ _ i in
        let f : m ≡ size + n = e ∙ capped_exact (size + n) l in
        let g : m + k ≡ size + (n + k) = omega (arith, f) in
        ap capped g

-- What measuring one field says of all that begin with it.
module _ (e rest : Encoding) (size : ℕ) where
  first_counted : (n m : ℕ) → length_told (Ok n) ≡ measured e → m ≡ capped (size + n) → measured_from m rest ≡ measured_from size (followed e rest)
  first_counted n m i j = by e rest i
    where
      by : (e rest : Encoding) → length_told (Ok n) ≡ measured e → measured_from m rest ≡ measured_from size (followed e rest)
      by (wrote b) (wrote c) i =
          let l : n ≡ length b = cc in
          let k : length (b ++ c) ≡ n + length c = omega (arith, length-append b c, l) in
          rw (k, counted_twice size n m (length c) j)
      by (wrote b) (refuse k) i = refl
      by (refuse k) rest i = cc

  first_refused : (r : Refusal) → length_told (Err r) ≡ measured e → length_told (Err r) ≡ measured_from size (followed e rest)
  first_refused r i = by e i
    where
      by : (e : Encoding) → length_told (Err r) ≡ measured e → length_told (Err r) ≡ measured_from size (followed e rest)
      by (wrote b) i = cc
      by (refuse k) i = i

-- What measuring one field says of where measuring the row stops.
next_counted : (e : Encoding) (size n m : ℕ) (rest : ℕ → Stop) → length_told (Ok n) ≡ measured e → m ≡ capped (size + n) → rest m ≡ measured_then size e rest
next_counted (wrote b) size n m rest i j = let l : n ≡ length b = cc in ap rest (j ∙ ap (λ k. capped (size + k)) l)
next_counted (refuse k) size n m rest i j = cc

stops_there : (e : Encoding) (size : ℕ) (r : Refusal) (rest : ℕ → Stop) → length_told (Err r) ≡ measured e → stop_at size (number_of r) ≡ measured_then size e rest
stops_there (wrote b) size r rest i = cc
stops_there (refuse k) size r rest i = let l : number_of r ≡ k = cc in ap (stop_at size) l

-- ---- Rows

-- What is left of a row, whose slots these are.
module _ (left : Row) (src s : List ℕ) where
  module _ (kind : Kind) (row : Row) (e : left ≡ kind · row) where
    module _ (size n m : ℕ) (o : length_told (Ok n) ≡ measured (write_field kind src (unflat_field kind s))) (j : m ≡ capped (size + n)) where
      pub measures_next : measured_from m (write_slots row src (drop (slots_of kind) s)) ≡ measured_from size (write_slots left src s)
      measures_next = rw e (first_counted (write_field kind src (unflat_field kind s)) (write_slots row src (drop (slots_of kind) s)) size n m o j)

      pub stops_next : measure_slots m row src (drop (slots_of kind) s) ≡ measure_slots size left src s
      unfolding measured_row
      stops_next = rw e (next_counted (write_field kind src (unflat_field kind s)) size n m (λ at. measure_slots at row src (drop (slots_of kind) s)) o j)

    module _ (size : ℕ) (r : Refusal) (o : length_told (Err r) ≡ measured (write_field kind src (unflat_field kind s))) where
      pub measure_refused : length_told (Err r) ≡ measured_from size (write_slots left src s)
      measure_refused = rw e (first_refused (write_field kind src (unflat_field kind s)) (write_slots row src (drop (slots_of kind) s)) size r o)

      pub stops_here : stop_at size (number_of r) ≡ measure_slots size left src s
      unfolding measured_row
      stops_here = rw e (stops_there (write_field kind src (unflat_field kind s)) size r (λ at. measure_slots at row src (drop (slots_of kind) s)) o)

    pub puts_next : (g h : Holds) → h ≡ put_field kind src (unflat_field kind s) g → put_slots row src (drop (slots_of kind) s) h ≡ put_slots left src s g
    unfolding put_row
    puts_next g h p = rw (e, p)

  module _ (e : left ≡ end) where
    pub all_measured : (size : ℕ) → size ≤ bound → length_told (Ok size) ≡ measured_from size (write_slots left src s)
    all_measured size l = let z : size + 0 ≡ size = omega arith in rw (e, z, capped_exact size l)

    pub all_stops : (size : ℕ) → stop_at size 0 ≡ measure_slots size left src s
    unfolding measured_row
    all_stops size = rw e

    pub all_put : (g : Holds) → put_slots left src s g ≡ g
    unfolding put_row
    all_put g = rw e
