-- What is read tells its slots: of each kind of field, what a reader that did not refuse it has found at its place. Assumes nothing.
use mathlib.Core.Path.{◌≡◌, refl, ◌∙◌, sym, ap}
use mathlib.Core.Bool.{Bool, true, false, cond, not, ◌&&◌}
use mathlib.Core.List.{List, [], ◌∷◌, ◌++◌}
use mathlib.Core.Option.{none, some}
use Prim.Native.Nat.{ℕ, zero, suc, ◌+◌, ◌-◌, ◌/◌, ◌^◌, ◌<◌, ◌≤◌}
use native.Mathlib.Omega.{arith}
use lib.Dec.{eqb, ltb, lit≤}
use lib.ListN.{length}
use borrow.Author.Tests.{eq-eqb, ne_eqb, eqb-true, eqb-false, ltb-true, ltb-false}
use Rattle.wire.specs.Integers.{Bytes, big_endian, number_or_zero}
use Rattle.wire.specs.Signed.{signed}
use Rattle.wire.proofs.TwosComplement.{twos_complement}
use Rattle.wire.proofs.Widths.{integers, or_zero_lem}
use Rattle.protocol.specs.Fields.{Field, further, over_places, place}
use Rattle.protocol.specs.Fields as F
use Rattle.protocol.specs.Kinds.{Kind, Row, i64, length_width, list, specification, string}
use Rattle.protocol.specs.Kinds as K
use Rattle.std.specs.Prelude.{Ok, Err}
use Rattle.protocol.specs.Refusals.{value_not_admitted}
use Rattle.protocol.specs.declared.kind.Form.{Form}
use Rattle.protocol.specs.declared.kind.Form.TheVariants.{Text, Reference, Bytes as Raw}
use Rattle.protocol.specs.declared.kind.ListRule.{ListRule}
use Rattle.protocol.specs.declared.offset.OffsetSpecification.TheVariants.{Offset, Timestamp}
use Rattle.protocol.specs.declared.place.Place.{Place}
use Rattle.rules.specs.Outcome.{Outcome, got, then, mapped, refuse_if}
use Rattle.rules.specs.Reading.{header_at, read_field, read_offset, read_signed, read_specification, read_string, read_timestamp, read_typed, read_unsigned}
use Rattle.rules.specs.Writing.{write_string}
use Rattle.rules.proofs.Bounds.{numbered_field}
use Rattle.rules.proofs.Gives.{Gives, after_number, check, weaker}
use Rattle.rules.proofs.Numbers.{number_cases, whole_width}
use Rattle.byte_strings.specs.Stops.{Stop, stop, told, refusal_of}
use Rattle.byte_strings.specs.declared.fault.Fault.{Fault}
use Rattle.byte_strings.proofs.Stops.{read_to, refused_at}
use Rattle.byte_strings.proofs.StringFields.{admitted, length_cut, string_found, string_null, string_refused}
use Rattle.number_lists.proofs.Lists.{Listed, listed}
use Rattle.chunks.proofs.Chunks.{Whole}
use Rattle.slots.specs.Flat.{bits, flat_field, flat_header, flat_octets, flat_offset, flat_place, null_length, overlaid}
use Rattle.slot_reading.specs.Reading.{field_slots}

module _ (kind : Kind) (s : List ℕ) (at : ℕ) where
  -- A refusal leaves the slots as they are.
  pub slots_stay : (base : ℕ) (old : List ℕ) (slot : ℕ) (fault : Fault) → told (Err fault) ≡ stop (read_field kind s at) → old ≡ field_slots base kind (read_field kind s at) old slot
  slots_stay base old slot fault i = rw (refused_at (read_field kind s at) fault i)

  module _ (last : ℕ) (i : told (Ok last) ≡ stop (read_field kind s at)) where
    -- What was found, and where it ends.
    pub found : (P : Field Place → ℕ → Type 0) → Gives P (read_field kind s at) → (f : Field Place) × (read_field kind s at ≡ got f last) × P f last
    found P g =
        let r = read_to (read_field kind s at) last (numbered_field kind s at) i in
        (r.0, r.1, rw r.1 at g)

    pub slots_put : (base : ℕ) (old new values : List ℕ) (slot : ℕ) → new ≡ overlaid old slot values → Gives (λ f next. next ≡ last → values ≡ flat_field kind (over_places (further base) f)) (read_field kind s at) → new ≡ field_slots base kind (read_field kind s at) old slot
    slots_put base old new values slot p g =
        let r = found (λ f next. next ≡ last → values ≡ flat_field kind (over_places (further base) f)) g in
        rw r.1 (p ∙ ap (overlaid old slot) (r.2 refl))

module _ (s : List ℕ) (at base : ℕ) where
  -- ---- Numbers

  pub unsigned_slots : (n most v last : ℕ) → v ≡ number_or_zero n s at → Gives (λ f next. next ≡ last → v ∷ [] ≡ flat_field (K.unsigned n most) (over_places (further base) f)) (read_field (K.unsigned n most) s at)
  unfolding read_field read_unsigned
  unsigned_slots n most v last e =
      after_number Told n s at (λ x next. refuse_if (ltb most x) value_not_admitted at (got (F.number x) next)) (λ h.
      check Told (ltb most (big_endian n s at)) value_not_admitted at (got (F.number (big_endian n s at)) (at + n)) (λ _ _.
      ap (λ (x : ℕ). x ∷ []) (e ∙ or_zero_lem n s at h)))
    where
      Told : Field Place → ℕ → Type 0
      Told f next = next ≡ last → v ∷ [] ≡ flat_field (K.unsigned n most) (over_places (further base) f)

  -- A signed number of eight bytes is read as its bits are.
  pub signed_read : (e : Stop) (old new : List ℕ) (slot : ℕ) → Bytes s → e ≡ stop (read_field K.u64 s at) → new ≡ field_slots base K.u64 (read_field K.u64 s at) old slot → (e ≡ stop (read_field i64 s at)) × (new ≡ field_slots base i64 (read_field i64 s at) old slot)
  unfolding read_field read_signed
  signed_read e old new slot b =
      rw (whole_width 8 s at 0xffff_ffff_ffff_ffff refl b)
      (number_cases 8 s at (λ o. e ≡ stop (mapped number o) → new ≡ field_slots base K.u64 (mapped number o) old slot → (e ≡ stop (then o integer)) × (new ≡ field_slots base i64 (then o integer) old slot))
      (λ _ i j. (i, j ∙ ap (λ (x : ℕ). overlaid old slot (x ∷ [])) (sym ((twos_complement 7).unsigned_signed (big_endian 8 s at) ((integers 8).range s at b)))))
      (λ _ i j. (i, j)))
    where
      number : ℕ → Field Place
      number x = F.number x

      integer : ℕ → ℕ → Outcome (Field Place)
      integer x next = got (F.integer (signed 8 x)) next

  -- ---- Texts and byte strings

  module _ (form : Form) (nullable : Bool) where
    abbrev body : ℕ
    body = at + length_width form

    abbrev length_bits : ℕ
    length_bits = number_or_zero (length_width form) s at

    abbrev null_bits : ℕ
    null_bits = 256 ^ length_width form - 1

    abbrev Told : List ℕ → ℕ → Field Place → ℕ → Type 0
    Told values last f next = next ≡ last → values ≡ flat_octets nullable (over_places (further base) f).octets

    -- By whether the length is there; it is cut, and the string is refused, where it is not.
    with_length : (P : Field Place → ℕ → Type 0) → (body ≤ length s → Gives P (read_string form nullable s at)) → Gives P (read_string form nullable s at)
    with_length P f = by (ltb (length s) body) refl
      where
        by : (t : Bool) → ltb (length s) body ≡ t → Gives P (read_string form nullable s at)
        by true i = rw (length_cut form nullable s at (ltb-true _ _ i)) tt
        by false i = f (ltb-false _ _ i)

    -- The number that its bytes are refused with.
    abbrev refusal : ℕ
    refusal = refusal_of (write_string form false s (some (place body length_bits)))

    pub null_slots : (last : ℕ) → Bytes s → length_bits ≡ null_bits → Gives (Told (0 ∷ null_length ∷ []) last) (read_field (string form nullable) s at)
    unfolding read_field
    null_slots last b e = with_length (Told (0 ∷ null_length ∷ []) last) (λ there. by nullable there)
      where
        -- The length -1 is no length.
        too_large : (form : Form) (n : ℕ) → n ≡ 256 ^ length_width form - 1 → n < 256 ^ length_width form / 2 → ⊥
        too_large Text n i l = omega (arith, i, l)
        too_large Reference n i l = omega (arith, i, l)
        too_large Raw n i l = omega (arith, i, l)

        by : (t : Bool) → body ≤ length s → Gives (λ f next. next ≡ last → 0 ∷ null_length ∷ [] ≡ flat_octets t (over_places (further base) f).octets) (read_string form t s at)
        by true there = rw (string_null form s at there length_bits refl true (eq-eqb _ _ e)) (λ _. refl)
        by false there = rw (string_refused form s at there length_bits refl false b refl refusal refl (λ z. too_large form length_bits e (admitted form s body length_bits z).short)) tt

    -- Its bytes stand after the length.
    pub record Body (f : Field Place) (next : ℕ) : Type 0 where
      pub after : body ≤ next
      pub within : next ≤ length s
      pub field : f ≡ F.string (some (place body (next - body)))

    pub body_found : Bytes s → (length_bits ≡ null_bits → ⊥) → Gives Body (read_field (string form nullable) s at)
    unfolding read_field
    body_found b e = with_length Body (λ there. by there (eqb refusal 0) refl)
      where
        not_null : (t : Bool) → (t && eqb length_bits null_bits) ≡ false
        not_null true = ne_eqb _ _ e
        not_null false = refl

        by : body ≤ length s → (t : Bool) → eqb refusal 0 ≡ t → Gives Body (read_string form nullable s at)
        by there true i =
            let r = eqb-true refusal 0 i in
            let k : body + length_bits - body ≡ length_bits = omega arith in
            let a = admitted form s body length_bits r in
            rw (string_found form s at there length_bits refl nullable b (not_null nullable) refusal refl r)
            (record { after = omega arith; within = a.inside; field = ap (λ (n : ℕ). F.string (some (place body n))) (sym k) })
        by there false i = rw (string_refused form s at there length_bits refl nullable b (not_null nullable) refusal refl (eqb-false refusal 0 i)) tt

    -- It ends after its length, within s.
    pub string_ends : (last : ℕ) → told (Ok last) ≡ stop (read_field (string form nullable) s at) → Bytes s → (length_bits ≡ null_bits → ⊥) → (body ≤ last) × (last ≤ length s)
    string_ends last i b e = let f = (found (string form nullable) s at last i Body (body_found b e)).2 in (f.after, f.within)

    pub body_slots : (last : ℕ) → base + length s < 0x1_0000_0000_0000_0000 → Bytes s → (length_bits ≡ null_bits → ⊥) → Gives (Told ((base + body) ∷ (last - body) ∷ []) last) (read_field (string form nullable) s at)
    body_slots last fits b e =
        weaker Body (Told ((base + body) ∷ (last - body) ∷ []) last) (read_field (string form nullable) s at)
        (λ f next h i. rw (h.field, i) (flat nullable (omega (arith, h.within, i, wide form))))
        (body_found b e)
      where
        wide : (form : Form) → 2 ≤ length_width form
        wide Text = lit≤ tt
        wide Reference = lit≤ tt
        wide Raw = lit≤ tt

        -- No place is as long as the length that stands for null.
        flat : (t : Bool) → last - body < null_length → (base + body) ∷ (last - body) ∷ [] ≡ flat_octets t (some (place (base + body) (last - body)))
        flat true l = rw (ne_eqb (last - body) null_length (λ z. omega (arith, l, z)))
        flat false l = refl

  -- ---- Offset specifications

  -- Its type, and the number after the type, or 0 where it ends with the type.
  abbrev offset_values : ℕ → List ℕ
  offset_values last = number_or_zero 2 s at ∷ cond (eqb last (at + 2)) 0 (number_or_zero 8 s (at + 2)) ∷ []

  pub record Typed (f : Field Place) (next : ℕ) : Type 0 where
    pub there : at + 2 ≤ length s
    pub values : offset_values next ≡ flat_offset f.offset
    pub no_place : f.octets ≡ none

  pub typed : (admits_none : Bool) → Bytes s → Gives Typed (read_field (specification admits_none) s at)
  unfolding read_field read_specification read_typed read_offset read_timestamp
  typed admits_none b =
      after_number Typed 2 s at (λ type next. read_typed admits_none s at type next) (λ h. by h (big_endian 2 s at) (or_zero_lem 2 s at h))
    where
      -- Without a number.
      alone : (k : ℕ) → number_or_zero 2 s at ≡ k → offset_values (at + 2) ≡ k ∷ 0 ∷ []
      alone k e = rw (e, eq-eqb (at + 2) (at + 2) refl)

      -- With one.
      more : (k v : ℕ) → number_or_zero 2 s at ≡ k → at + 2 + 8 ≤ length s → big_endian 8 s (at + 2) ≡ v → offset_values (at + 2 + 8) ≡ k ∷ v ∷ []
      more k v e h i = rw (e, ne_eqb (at + 2 + 8) (at + 2) (λ z. omega (arith, z)), or_zero_lem 8 s (at + 2) h, i)

      other : (n k : ℕ) → k < n → eqb n k ≡ false
      other n k h = ne_eqb n k (λ z. omega (arith, h, z))

      by : at + 2 ≤ length s → (k : ℕ) → number_or_zero 2 s at ≡ k → Gives Typed (read_typed admits_none s at k (at + 2))
      by l zero e = check Typed (not admits_none) value_not_admitted at _ (λ _. record { there = l; values = alone 0 e; no_place = refl })
      by l (suc zero) e = record { there = l; values = alone 1 e; no_place = refl }
      by l (suc (suc zero)) e = record { there = l; values = alone 2 e; no_place = refl }
      by l (suc (suc (suc zero))) e = record { there = l; values = alone 3 e; no_place = refl }
      by l (suc (suc (suc (suc zero)))) e = after_number Typed 8 s (at + 2) (λ x next. got (F.offset (Offset x)) next) (λ h. record { there = l; values = more 4 (big_endian 8 s (at + 2)) e h refl; no_place = refl })
      by l (suc (suc (suc (suc (suc zero))))) e =
          let v = big_endian 8 s (at + 2) in
          after_number Typed 8 s (at + 2) (λ x next. got (F.offset (Timestamp (signed 8 x))) next) (λ h. record { there = l; values = more 5 (bits (signed 8 v)) e h (sym ((twos_complement 7).unsigned_signed v ((integers 8).range s (at + 2) b))); no_place = refl })
      by l (suc (suc (suc (suc (suc (suc k)))))) e =
          let n = suc (suc (suc (suc (suc (suc k))))) in
          rw (other n 0 (omega arith), other n 1 (omega arith), other n 2 (omega arith), other n 3 (omega arith), other n 4 (omega arith), other n 5 (omega arith)) tt

  -- Its slots, by where it ends.
  pub offset_slots : (admits_none : Bool) (v x last : ℕ) → Bytes s → v ≡ number_or_zero 2 s at → x ≡ cond (eqb last (at + 2)) 0 (number_or_zero 8 s (at + 2)) → Gives (λ f next. next ≡ last → v ∷ x ∷ [] ≡ flat_field (specification admits_none) (over_places (further base) f)) (read_field (specification admits_none) s at)
  offset_slots admits_none v x last b e i =
      weaker Typed (λ f next. next ≡ last → v ∷ x ∷ [] ≡ flat_field (specification admits_none) (over_places (further base) f)) (read_field (specification admits_none) s at)
      (λ f next h j. rw (e, i) (ap offset_values (sym j) ∙ h.values))
      (typed admits_none b)

  -- ---- Lists

  pub list_slots : (rule : ListRule) (row : Row) (v last : ℕ) → v ≡ number_or_zero 4 s at → Gives (λ f next. next ≡ last → v ∷ (base + (at + 4)) ∷ (last - (at + 4)) ∷ [] ≡ flat_field (list rule row) (over_places (further base) f)) (read_field (list rule row) s at)
  list_slots rule row v last e =
      weaker (Listed rule row s at) (λ f next. next ≡ last → v ∷ (base + (at + 4)) ∷ (last - (at + 4)) ∷ [] ≡ flat_field (list rule row) (over_places (further base) f)) (read_field (list rule row) s at)
      (λ f next h i. rw (h.field, e, i))
      (listed rule row s at)

  pub list_ends : (rule : ListRule) (row : Row) (last : ℕ) → told (Ok last) ≡ stop (read_field (list rule row) s at) → (at + 4 ≤ last) × (last ≤ length s)
  list_ends rule row last i = let f = (found (list rule row) s at last i (Listed rule row s at) (listed rule row s at)).2 in (f.after, f.within)

  -- ---- Chunks

  pub chunk_found : (t : Stop) (slot : ℕ) (old values new : List ℕ) → Whole s at t → values ≡ flat_header (header_at s at) ++ flat_place (place (base + (at + 48)) (header_at s at).data_length) → new ≡ overlaid old slot values → new ≡ field_slots base K.chunk (read_field K.chunk s at) old slot
  unfolding read_field
  chunk_found t slot old values new w e p = rw w.read (p ∙ ap (overlaid old slot) e)
