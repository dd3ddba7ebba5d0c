-- A row whose fields are put one after another has its slots where the first one's are. A content and an element are rows that are
-- put into slots which are 0. Assumes nothing.
use mathlib.Core.Path.{◌≡◌, refl, ◌∙◌, sym, ap}
use mathlib.Core.Bool.{Bool, true, false}
use mathlib.Core.List.{List, [], ◌∷◌, map}
use Prim.Native.Nat.{ℕ, ◌+◌, ◌-◌, ◌^◌, ◌<◌, ◌≤◌}
use Rattle.std.specs.Prelude.{min}
use native.Mathlib.Omega.{arith}
use lib.Dec.{leb, lit≤}
use lib.ListN.{length, length-append}
use lib.Seq.{take_all}
use borrow.Author.Tests.{leb-true, leb-false, lt-ltb, le-ltb}
use Rattle.protocol.specs.Fields.{Field, bytes_at, further, outside, over_places}
use Rattle.protocol.specs.Kinds.{Kind, Row, end, ◌·◌, element_row}
use Rattle.protocol.specs.Refusals.{bytes_left, field_cut}
use Rattle.std.specs.Prelude.{Ok, Err}
use Rattle.protocol.specs.declared.kind.Element.{Element}
use Rattle.protocol.specs.declared.kind.Element.TheVariants.{Message, FilteredMessage, PublishingId, PublishingError, Property, Name, CommandVersions, Broker, StreamMetadata, Statistic, BrokerReference}
use Rattle.protocol.specs.declared.place.Place.{Place}
use Rattle.rules.specs.Outcome.{Outcome, got, refused, then}
use Rattle.rules.specs.Reading.{read_content, read_field, read_row}
use Rattle.rules.proofs.Bounds.{numbered_field, numbered_row}
use Rattle.byte_strings.specs.Stops.{Stop, stop, stop_at, told}
use Rattle.byte_strings.specs.declared.fault.Fault.{Fault}
use Rattle.byte_strings.proofs.Stops.{read_to, refused_at}
use Rattle.slots.specs.Flat.{flat_element, flat_field, flat_row, overlaid, padded}
use Rattle.slots.specs.Unflat.{slots_in, slots_of}
use Rattle.slots.proofs.Overlaid.{none_fits, overlaid_length, overlaid_none, overlaid_padded, overlaid_twice, padded_length}
use Rattle.slots.proofs.Padding.{field_slots_lem}
use Rattle.slot_reading.specs.Reading.{Filled, content_slots, element_in, element_slots, field_slots}

-- ---- A row, field by field

module _ (base : ℕ) (s : List ℕ) where
  -- What is left of a row, once its slots are put, fills those of the row.
  abbrev pub Continues : Row → ℕ → List ℕ → ℕ → Row → ℕ → List ℕ → ℕ → Type 0
  Continues rest at now slot row start old first = (new : List ℕ) → Filled base rest (read_row rest s at) now slot new → Filled base row (read_row row s start) old first new

  -- Behind the last slot one place is as another.
  fills_behind : (row : Row) (o : Outcome (List (Field Place))) (now : List ℕ) (a b : ℕ) (new : List ℕ) → length now ≤ a → length now ≤ b → Filled base row o now a new → Filled base row o now b new
  fills_behind row (got fs last) now a b new h k f = f ∙ none_fits now a (flat_row row (map (over_places (further base)) fs)) h ∙ sym (none_fits now b (flat_row row (map (over_places (further base)) fs)) k)
  fills_behind row (refused n p) now a b new h k f = tt

  module _ (kind : Kind) (row : Row) (at next : ℕ) (i : told (Ok next) ≡ stop (read_field kind s at)) where
    field : (f : Field Place) × (read_field kind s at ≡ got f next)
    field = read_to (read_field kind s at) next (numbered_field kind s at) i

    -- One field more does not change where a row stops.
    pub row_stops : stop (read_row row s next) ≡ stop (read_row (kind · row) s at)
    unfolding read_row
    row_stops = rw field.1 (by (read_row row s next))
      where
        by : (o : Outcome (List (Field Place))) → stop o ≡ stop (then o (λ fs last. got (field.0 ∷ fs) last))
        by (got fs last) = refl
        by (refused n p) = refl

    pub row_fills : (now new : List ℕ) (slot n : ℕ) → new ≡ field_slots base kind (read_field kind s at) now slot → n ≡ slots_of kind → Continues row next new (slot + n) (kind · row) at now slot
    unfolding read_row
    row_fills now new slot n j m more f =
        rw field.1 (by field.0 (read_row row s next) (j ∙ ap (λ (o : Outcome (Field Place)). field_slots base kind o now slot) field.1) f)
      where
        by : (g : Field Place) (o : Outcome (List (Field Place))) → new ≡ overlaid now slot (flat_field kind (over_places (further base) g)) → Filled base row o new (slot + n) more → Filled base (kind · row) (then o (λ gs last. got (g ∷ gs) last)) now slot more
        by g (got gs last) put f =
            let first = flat_field kind (over_places (further base) g) in
            let long : slot + n ≡ slot + length first = ap (λ (x : ℕ). slot + x) (m ∙ sym (field_slots_lem kind (over_places (further base) g))) in
            f ∙ rw (put, long) (overlaid_twice now first (flat_row row (map (over_places (further base)) gs)) slot)
        by g (refused p q) put f = tt

  -- A field that is refused is its row's refusal.
  pub row_refused : (kind : Kind) (row : Row) (at : ℕ) (fault : Fault) → told (Err fault) ≡ stop (read_field kind s at) → told (Err fault) ≡ stop (read_row (kind · row) s at)
  unfolding read_row
  row_refused kind row at fault i = rw (refused_at (read_field kind s at) fault i)

-- A loop over the kinds of a row: what is left of it, from a place on.
module _ (base : ℕ) (s : List ℕ) (left : Row) (at : ℕ) where
  module _ (kind : Kind) (row : Row) (e : left ≡ kind · row) where
    pub one_refused : (fault : Fault) → told (Err fault) ≡ stop (read_field kind s at) → told (Err fault) ≡ stop (read_row left s at)
    one_refused fault r = rw e (row_refused base s kind row at fault r)

    module _ (next : ℕ) (r : told (Ok next) ≡ stop (read_field kind s at)) where
      pub one_stops : stop (read_row row s next) ≡ stop (read_row left s at)
      one_stops = rw e (row_stops base s kind row at next r)

      -- The slots after the field are those of what is left, or lie behind the last one.
      pub one_fills : (now new : List ℕ) (slot n after : ℕ) → new ≡ field_slots base kind (read_field kind s at) now slot → n ≡ slots_of kind → after ≡ min (slot + n) (2 ^ 64 - 1) → length new < 0x1_0000_0000_0000_0000 → Continues base s row next new after left at now slot
      one_fills now new slot n after p m q short more f =
          rw e (row_fills base s kind row at next r now new slot n p m more (by (leb (slot + n) 0xffff_ffff_ffff_ffff) refl))
        where
          by : (t : Bool) → leb (slot + n) 0xffff_ffff_ffff_ffff ≡ t → Filled base row (read_row row s next) new (slot + n) more
          by true h = let k : after ≡ slot + n = omega (arith, q, leb-true _ _ h) in rw (← k) f
          by false h = let g = leb-false _ _ h in fills_behind base s row (read_row row s next) new after (slot + n) more (omega (arith, q, g, short)) (omega (arith, g, short)) f

  module _ (e : left ≡ end) where
    pub none_stops : told (Ok at) ≡ stop (read_row left s at)
    unfolding read_row
    none_stops = rw e

    pub none_fills : (now : List ℕ) (slot : ℕ) → Filled base left (read_row left s at) now slot now
    unfolding read_row
    none_fills now slot = rw e (sym (overlaid_none now slot))

-- Of a row that is refused nothing is said.
pub refused_filled : (base : ℕ) (row : Row) (s : List ℕ) (start : ℕ) (fault : Fault) (old : List ℕ) (first : ℕ) (new : List ℕ) → told (Err fault) ≡ stop (read_row row s start) → Filled base row (read_row row s start) old first new
refused_filled base row s start fault old first new i = rw (refused_at (read_row row s start) fault i) tt

-- The slots stay as many.
pub field_length : (base : ℕ) (kind : Kind) (o : Outcome (Field Place)) (old : List ℕ) (slot : ℕ) → length (field_slots base kind o old slot) ≡ length old
field_length base kind (got f next) old slot = overlaid_length old slot (flat_field kind (over_places (further base) f))
field_length base kind (refused n p) old slot = refl

-- ---- A content

module _ (key version : ℕ) (row : Row) (s : List ℕ) where
  -- An answer, and the slots before and after.
  abbrev pub Content : Stop → List ℕ → List ℕ → Type 0
  Content e old new = (e ≡ stop (read_content row s)) × (new ≡ content_slots key version row (read_content row s) old)

  pub content_refused : (old : List ℕ) (fault : Fault) → told (Err fault) ≡ stop (read_row row s 0) → Content (told (Err fault)) old old
  unfolding read_content
  content_refused old fault i = rw (refused_at (read_row row s 0) fault i) (refl, refl)

  module _ (last : ℕ) (i : told (Ok last) ≡ stop (read_row row s 0)) where
    fields : (fs : List (Field Place)) × (read_row row s 0 ≡ got fs last)
    fields = read_to (read_row row s 0) last (numbered_row row s 0) i

    pub content_left : (old : List ℕ) → last < length s → Content (stop_at last bytes_left) old old
    unfolding read_content
    content_left old l = rw (fields.1, lt-ltb _ _ l) (refl, refl)

    pub content_read : (old new : List ℕ) → length s ≤ last → Filled 8 row (read_row row s 0) (padded 24 (key ∷ version ∷ [])) 2 new → Content (told (Ok last)) old new
    unfolding read_content
    content_read old new l f =
        let filled : Filled 8 row (got fields.0 last) (padded 24 (key ∷ version ∷ [])) 2 new = rw fields.1 at f in
        rw (fields.1, le-ltb _ _ l) (refl, filled ∙ overlaid_padded 24 (key ∷ version ∷ []) (flat_row row (map (over_places (further 8)) fields.0)) (lit≤ tt))

-- ---- An element

-- Fewer fields than the row has take fewer slots.
pub row_slots : (row : Row) (fs : List (Field Place)) → length (flat_row row fs) ≤ slots_in row
row_slots end fs = omega arith
row_slots (k · row) [] = omega arith
row_slots (k · row) (f ∷ fs) = simp length-append (omega (arith, field_slots_lem k f, row_slots row fs))

-- The slots of an element have room.
element_fits : (kind : Element) → slots_in (element_row kind) ≤ 8
element_fits Message = lit≤ tt
element_fits FilteredMessage = lit≤ tt
element_fits PublishingId = lit≤ tt
element_fits PublishingError = lit≤ tt
element_fits Property = lit≤ tt
element_fits Name = lit≤ tt
element_fits CommandVersions = lit≤ tt
element_fits Broker = lit≤ tt
element_fits StreamMetadata = lit≤ tt
element_fits Statistic = lit≤ tt
element_fits BrokerReference = lit≤ tt

module _ (kind : Element) (s : List ℕ) (p : Place) (at : ℕ) where
  abbrev row : Row
  row = element_row kind

  -- An answer, and the slots before and after.
  abbrev pub ElementRead : Stop → List ℕ → List ℕ → Type 0
  ElementRead e old new = (e ≡ stop (element_in row s p at)) × (new ≡ element_slots row (element_in row s p at) old)

  pub element_outside : (old : List ℕ) → outside p s ≡ true → ElementRead (stop_at at field_cut) old old
  unfolding element_in
  element_outside old o = rw o (refl, refl)

  module _ (o : outside p s ≡ false) where
    pub element_refused : (old : List ℕ) (fault : Fault) → told (Err fault) ≡ stop (read_row row (bytes_at s p) at) → ElementRead (told (Err fault)) old old
    unfolding element_in
    element_refused old fault i = rw (o, refused_at (read_row row (bytes_at s p) at) fault i) (refl, refl)

    pub element_read : (last : ℕ) → told (Ok last) ≡ stop (read_row row (bytes_at s p) at) → (old new : List ℕ) → Filled p.at row (read_row row (bytes_at s p) at) (padded 8 []) 0 new → ElementRead (told (Ok last)) old new
    unfolding element_in flat_element
    element_read last i old new f =
        let r = read_to (read_row row (bytes_at s p) at) last (numbered_row row (bytes_at s p) at) i in
        let fs = map (over_places (further p.at)) r.0 in
        let filled : Filled p.at row (got r.0 last) (padded 8 []) 0 new = rw r.1 at f in
        let fits : length (flat_row row fs) ≤ 8 = omega (arith, row_slots row fs, element_fits kind) in
        rw (o, r.1) (refl, filled ∙ overlaid_padded 8 [] (flat_row row fs) (lit≤ tt) ∙ take_all 8 (padded 8 (flat_row row fs)) (omega (arith, padded_length 8 (flat_row row fs) fits)))
