-- Every place that reading hands out lies within what was read, for a place is handed out only behind the check that its
-- bytes are there. Assumes nothing.
use mathlib.Core.Path.{◌≡◌, subst}
use mathlib.Core.Bool.{Bool, not, cond}
use mathlib.Core.List.{List, [], ◌∷◌, map}
use mathlib.Core.Option
use mathlib.Core.Option.{Option, none, some}
use Prim.Native.Nat.{ℕ, zero, suc, ◌+◌, ◌-◌, ◌≤◌}
use native.Mathlib.Omega.{arith}
use lib.Dec.{eqb, ltb}
use lib.IntN.{ℤ, pos, negsuc}
use lib.ListN.{length, take, drop}
use borrow.Author.Tests.{ltb-false}
use Rattle.wire.specs.Integers.{big_endian}
use Rattle.wire.specs.Signed as two's
use Rattle.protocol.specs.Fields.{Field, Fields, over_places, further, EndsBy, PlacesEndBy}
use Rattle.protocol.specs.Kinds.{length_width, Kind, unsigned, signed, string, specification, list, chunk, Row, end, ◌·◌}
use Rattle.protocol.specs.Table.{row_of}
use Rattle.protocol.specs.declared.chunk.ChunkHeader.{ChunkHeader}
use Rattle.protocol.specs.declared.kind.Form.{Form}
use Rattle.protocol.specs.declared.place.Place.{Place}
use Rattle.rules.specs.Outcome.{Outcome, got, refused, refuse_if, repeated}
use Rattle.rules.specs.Reading.{read_unsigned, read_signed, read_body, read_string, read_offset, read_timestamp, read_typed, read_specification, read_count, read_list, header_at, has_entries, is_chunk_type, too_long, is_text, read_entries, read_data, read_headed, read_chunk, read_field, read_row, read_content, Reading, frame, short, refusal, reading_of, read_layout, read_frame}
use Rattle.rules.specs.Exactness.{frame_length}
use Rattle.rules.proofs.Bounds.{Bounded, bounded_repeated, bounded_row, inside_count}
use Rattle.rules.proofs.Gives.{Gives, check, choice, after, after_number, frame_cases}
use Rattle.rules.proofs.Parts.{length_part}

module _ (s : List ℕ) where
  abbrev Ends : Field Place → ℕ → Type 0
  Ends f next = EndsBy (length s) f.octets

  inside_body : (form : Form) (nullable : Bool) (at : ℕ) (z : ℤ) (next : ℕ) → Gives Ends (read_body form nullable s at z next)
  unfolding read_body
  inside_body form nullable at (pos n) next =
      check Ends (too_long form n) 9 at _ (λ _.
      check Ends (ltb (length s) (next + n)) 6 at _ (λ e.
      check Ends (not (is_text form (take n (drop next s)))) 8 at _ (λ _. ltb-false _ _ e)))
  inside_body form nullable at (negsuc zero) next = check Ends (not nullable) 7 at _ (λ _. tt)
  inside_body form nullable at (negsuc (suc k)) next = tt

  inside_typed : (admits_none : Bool) (at type next : ℕ) → Gives Ends (read_typed admits_none s at type next)
  unfolding read_typed read_offset read_timestamp
  inside_typed admits_none at type next =
      choice (Gives Ends) (eqb type 0) _ _ (λ _. check Ends (not admits_none) 10 at _ (λ _. tt)) (λ _.
      choice (Gives Ends) (eqb type 1) _ _ (λ _. tt) (λ _.
      choice (Gives Ends) (eqb type 2) _ _ (λ _. tt) (λ _.
      choice (Gives Ends) (eqb type 3) _ _ (λ _. tt) (λ _.
      choice (Gives Ends) (eqb type 4) _ _ (λ _. after_number Ends 8 s next _ (λ _. tt)) (λ _.
      choice (Gives Ends) (eqb type 5) _ _ (λ _. after_number Ends 8 s next _ (λ _. tt)) (λ _. tt))))))

  -- What is bounded and began within s ends within it.
  from_bounds : {A : Type 0} (at : ℕ) (o : Outcome A) → at ≤ length s → Bounded s at o → Gives (λ _ next. (at ≤ next) × (next ≤ length s)) o
  from_bounds at (got a next) h k = (k.0, k.1 h)
  from_bounds at (refused n p) h k = tt

  inside_list : (element : List ℕ → ℕ → Outcome (List (Field Place))) → ((at : ℕ) → Bounded s at (element s at)) → (at : ℕ) → Gives Ends (read_list element s at)
  unfolding read_list
  inside_list element b at =
      after Ends (λ _ next. next ≤ length s) (read_count s at) _ (inside_count s at) (λ n next h.
      after Ends (λ _ last. (next ≤ last) × (last ≤ length s)) (repeated element n s next) _ (from_bounds next (repeated element n s next) h (bounded_repeated s element b n next)) (λ _ last k.
      sum next last k.0 k.1))
    where
      sum : (next last : ℕ) → next ≤ last → last ≤ length s → next + (last - next) ≤ length s
      sum next last h k = omega (arith, h, k)

  abbrev Fits : ℕ → ℕ → Unit {0} → ℕ → Type 0
  Fits at len _ _ = at + 48 + len ≤ length s

  inside_data : (type : ℤ) (entries records len at : ℕ) → Gives (Fits at len) (read_data type entries records len s at)
  unfolding read_data
  inside_data type entries records len at =
      check (Fits at len) (not (is_chunk_type type)) 10 (at + 1) _ (λ _.
      check (Fits at len) (ltb (length s) (at + 48 + len)) 6 (at + 48) _ (λ e.
      always (refuse_if (ltb (at + 48 + len) (length s)) 11 (at + 48 + len) (cond (has_entries type) (read_entries entries records s at) (got tt (length s)))) (ltb-false _ _ e)))
    where
      always : (o : Outcome Unit) → at + 48 + len ≤ length s → Gives (Fits at len) o
      always (got a next) h = h
      always (refused n p) h = tt

  inside_headed : (h : ChunkHeader) (at : ℕ) → Gives Ends (read_headed h s at)
  inside_headed h at =
      after Ends (Fits at h.data_length) (read_data h.chunk_type h.entries h.records h.data_length s at) _
      (inside_data h.chunk_type h.entries h.records h.data_length at) (λ _ last l. l)

  inside_chunk : (at : ℕ) → Gives Ends (read_chunk s at)
  unfolding read_chunk
  inside_chunk at = check Ends (ltb (length s) (at + 48)) 6 at _ (λ _. inside_headed (header_at s at) at)

  pub inside_field : (k : Kind) (at : ℕ) → Gives Ends (read_field k s at)
  unfolding read_field read_unsigned read_signed read_string read_specification
  inside_field (unsigned n most) at = after_number Ends n s at _ (λ _. check Ends (ltb most (big_endian n s at)) 10 at _ (λ _. tt))
  inside_field (signed n) at = after_number Ends n s at _ (λ _. tt)
  inside_field (string form nullable) at = after_number Ends (length_width form) s at _ (λ _. inside_body form nullable at (two's.signed (length_width form) (big_endian (length_width form) s at)) (at + length_width form))
  inside_field (specification admits_none) at = after_number Ends 2 s at _ (λ _. inside_typed admits_none at (big_endian 2 s at) (at + 2))
  inside_field (list rule row) at = inside_list (λ t from. read_row row t from) (λ from. bounded_row row s from) at
  inside_field chunk at = inside_chunk at

  abbrev AllEnd : List (Field Place) → ℕ → Type 0
  AllEnd fs next = PlacesEndBy (length s) fs

  pub inside_row : (row : Row) (at : ℕ) → Gives AllEnd (read_row row s at)
  unfolding read_row
  inside_row end at = tt
  inside_row (k · row) at =
      after AllEnd Ends (read_field k s at) _ (inside_field k at) (λ f next h.
      after AllEnd AllEnd (read_row row s next) _ (inside_row row next) (λ fs last g. (h, g)))

  pub inside_content : (row : Row) → Gives AllEnd (read_content row s)
  unfolding read_content
  inside_content row =
      after AllEnd AllEnd (read_row row s 0) _ (inside_row row 0) (λ fs last h.
      check AllEnd (ltb last (length s)) 11 last _ (λ _. h))

-- Places in a part, as places in what the part begins in at a place.
pub moved : (base n m : ℕ) (fs : List (Field Place)) → base + n ≤ m → PlacesEndBy n fs → PlacesEndBy m (map (over_places (further base)) fs)
moved base n m [] l h = tt
moved base n m (f ∷ fs) l h = (one f.octets h.0, moved base n m fs l h.1)
  where
    one : (o : Option Place) → EndsBy n o → EndsBy m (Option.map (further base) o)
    one none h = tt
    one (some p) h = sum p.at p.len h
      where
        sum : (a b : ℕ) → a + b ≤ n → base + a + b ≤ m
        sum a b h = omega (arith, h, l)

abbrev InFrame : ℕ → Reading → Type 0
InFrame n (frame f) = PlacesEndBy n f.content
InFrame n (short m) = Unit
InFrame n (refusal m p) = Unit

inside_reading : (n m k v : ℕ) (o : Outcome (List (Field Place))) → 8 + n ≤ m → Gives (λ fs _. PlacesEndBy n fs) o → InFrame m (reading_of k v o)
inside_reading n m k v (got fs last) l h = moved 8 n m fs l h
inside_reading n m k v (refused r p) l h = tt

inside_layout : (m k v : ℕ) (c : List ℕ) → 8 + length c ≤ m → InFrame m (read_layout k v c)
unfolding read_layout
inside_layout m k v c l = inside_reading (length c) m k v (read_content (row_of k v) c) l (inside_content c (row_of k v))

pub inside : (s : List ℕ) (limit : ℕ) (f : Fields Place) → read_frame s limit ≡ frame f → PlacesEndBy (frame_length s) f.content
inside s limit f e =
    subst (InFrame (frame_length s)) e
    (frame_cases (InFrame (frame_length s)) (λ _. tt) (λ _ _. tt) s limit (λ _ l w k v _.
    inside_layout (big_endian 4 s 0 + 4) k v (take (big_endian 4 s 0 - 4) (drop 8 s)) (room (big_endian 4 s 0) l w)))
  where
    room : (size : ℕ) → 4 ≤ size → size + 4 ≤ length s → 8 + length (take (size - 4) (drop 8 s)) ≤ size + 4
    room size l w =
        let g : 8 + (size - 4) ≤ length s = omega (arith, l, w) in
        omega (arith, length_part (size - 4) 8 s g, l)

-- Places that end by n end by what is no less.
pub ends_later : (n m : ℕ) (fs : List (Field Place)) → n ≤ m → PlacesEndBy n fs → PlacesEndBy m fs
ends_later n m [] l h = tt
ends_later n m (f ∷ fs) l h = (one f.octets h.0, ends_later n m fs l h.1)
  where
    one : (o : Option Place) → EndsBy n o → EndsBy m o
    one none h = tt
    one (some p) h = sum p.at p.len h
      where
        sum : (a b : ℕ) → a + b ≤ n → a + b ≤ m
        sum a b h = omega (arith, h, l)
