-- A frame that is read is well formed, and its bytes are what its fields encode to: the content field by field, Size, key
-- and version because they are numbers read from their places. Assumes nothing.
use mathlib.Core.Path.{◌≡◌, refl, sym, ap, ap₂, subst, ◌∙◌}
use mathlib.Core.Bool.{true, false}
use mathlib.Core.List.{List, [], ◌∷◌, map}
use mathlib.Core.Option
use mathlib.Core.Option.{Option, none, some}
use Prim.Native.Nat.{ℕ, zero, suc, ◌+◌, ◌-◌, ◌^◌, ◌≤◌, ◌<◌}
use native.Mathlib.Omega.{arith}
use lib.Dec.{ltb}
use lib.ListN.{length, take, drop}
use borrow.Author.Tests.{ltb-true, ltb-false}
use Rattle.wire.specs.Integers.{Bytes, digits, big_endian}
use Rattle.wire.proofs.Widths.{integers}
use Rattle.protocol.specs.Decision.{layout, decide}
use Rattle.protocol.specs.Fields.{Field, Fields, bytes_at, over_places, value_in, further, values_in, EndsBy, PlacesEndBy}
use Rattle.protocol.specs.Kinds.{Kind, unsigned, signed, string, specification, list, chunk, Row, end, ◌·◌}
use Rattle.protocol.specs.Table.{row_of}
use Rattle.protocol.specs.declared.place.Place.{Place}
use Rattle.rules.specs.Outcome.{Outcome, got, refused}
use Rattle.rules.specs.Grammar.{Value, encode, encode_row, encode_frame, ValidRow}
use Rattle.rules.specs.Reading.{read_field, read_row, read_content, Reading, frame, short, refusal, reading_of, read_layout, over_limit, read_frame}
use Rattle.rules.specs.Exactness.{Starts}
use Rattle.rules.proofs.Gives.{Gives, check, after, also, frame_cases}
use Rattle.rules.proofs.Inside.{inside_content}
use Rattle.rules.proofs.Listed.{itself, wide, wide_row, both, wide_row_lem}
use Rattle.rules.proofs.Parts.{Part, nothing, joined, there, to_the_end, number_part, length_part, part_of_part, bytes_part}
use Rattle.rules.proofs.SoundFields.{Sound, RowSound, sound_unsigned, sound_signed, sound_string, sound_specification, sound_list}
use Rattle.rules.proofs.SoundChunks.{sound_chunk}

mutual
  unfolding read_field read_row ValidRow

  pub sound_field : (k : Kind) (s : List ℕ) (b : Bytes s) (at : ℕ) → wide k ≡ true → Gives (Sound s b k at) (read_field k s at)
  sound_field (unsigned n most) s b at w = sound_unsigned s b n most at
  sound_field (signed zero) s b at w = absurd (let h : 0 < 0 = ltb-true 0 0 w in omega (arith, h))
  sound_field (signed (suc n)) s b at w = sound_signed s b n at
  sound_field (string form nullable) s b at w = sound_string s b form nullable at
  sound_field (specification admits_none) s b at w = sound_specification s b admits_none at
  sound_field (list rule row) s b at w = sound_list s b rule row (λ from h. sound_row row s b from w h) at
  sound_field chunk s b at w = sound_chunk s b at

  pub sound_row : (row : Row) (s : List ℕ) (b : Bytes s) (at : ℕ) → wide_row row ≡ true → at ≤ length s → Gives (RowSound s b row at) (read_row row s at)
  sound_row end s b at w h = (refl, nothing s at h)
  sound_row (k · row) s b at w h =
      let t = both (wide k) (wide_row row) w in
      after (RowSound s b (k · row) at) (Sound s b k at) (read_field k s at) _ (sound_field k s b at t.0) (λ f next p.
      after (RowSound s b (k · row) at) (RowSound s b row next) (read_row row s next) _ (sound_row row s b next t.1 p.1.within) (λ fs last q. (
        (value_in s f, map (value_in s) fs, refl, p.0, q.0),
        joined s at next last (encode k (value_in s f)) (encode_row row (map (value_in s) fs)) p.1 q.1,
      )))

-- A whole content.
abbrev ContentSound : List ℕ → Row → List (Field Place) → ℕ → Type 0
ContentSound c row fs _ = ValidRow row (map (value_in c) fs) × (c ≡ encode_row row (map (value_in c) fs))

sound_content : (row : Row) (c : List ℕ) → Bytes c → wide_row row ≡ true → Gives (ContentSound c row) (read_content row c)
unfolding read_content
sound_content row c b w =
    after (ContentSound c row) (RowSound c b row 0) (read_row row c 0) _ (sound_row row c b 0 w (omega arith)) (λ fs last p.
    check (ContentSound c row) (ltb last (length c)) 11 last _ (λ e. (p.0, to_the_end c (encode_row row (map (value_in c) fs)) last (ltb-false _ _ e) p.1)))

-- A value at a place in a part is the value further on in the whole.
module _ (s : List ℕ) (base m : ℕ) where
  further_on : (o : Option Place) → EndsBy m o → Option.map (bytes_at (take m (drop base s))) o ≡ Option.map (bytes_at s) (Option.map (further base) o)
  further_on none h = refl
  further_on (some p) h = ap some (part_of_part p.len p.at m base s h)

  pub values_further_on : (fs : List (Field Place)) → PlacesEndBy m fs → map (value_in (take m (drop base s))) fs ≡ map (value_in s) (map (over_places (further base)) fs)
  values_further_on [] h = refl
  values_further_on (f ∷ fs) h =
      ap (λ (o : Option (List ℕ)). record { number = f.number; integer = f.integer; octets = o; offset = f.offset; header = f.header } ∷ map (value_in (take m (drop base s))) fs) (further_on f.octets h.0)
      ∙ ap (λ (vs : List Value). value_in s (over_places (further base) f) ∷ vs) (values_further_on fs h.1)

-- The frame's first eight bytes, in front of a content that is well formed.
module _ (s : List ℕ) (limit : ℕ) (b : Bytes s) where
  starts : (size k v : ℕ) (vs : List Value) → size ≡ big_endian 4 s 0 → 4 ≤ size → size + 4 ≤ length s → over_limit limit size ≡ false → k ≡ big_endian 2 s 4 → v ≡ big_endian 2 s 6 → decide k v ≡ layout k v → ValidRow (row_of k v) vs → take (size - 4) (drop 8 s) ≡ encode_row (row_of k v) vs → Starts s limit (record { key = k; version = v; content = vs })
  starts size k v vs es l w o ek ev d r c =
      let g : 8 + (size - 4) ≤ length s = omega (arith, l, w) in
      let n : 4 + length (encode_row (row_of k v) vs) ≡ size = subst (λ (x : List ℕ). 4 + length x ≡ size) c (omega (arith, length_part (size - 4) 8 s g, l)) in
      let p0 : Part s 0 (digits 4 (4 + length (encode_row (row_of k v) vs))) 4 = subst (λ (x : ℕ). Part s 0 (digits 4 x) 4) (sym (n ∙ es)) (number_part s 4 0 b (omega (arith, w))) in
      let p4 : Part s 4 (digits 2 k) 6 = subst (λ (x : ℕ). Part s 4 (digits 2 x) 6) (sym ek) (number_part s 2 4 b (omega (arith, l, w))) in
      let p6 : Part s 6 (digits 2 v) 8 = subst (λ (x : ℕ). Part s 6 (digits 2 x) 8) (sym ev) (number_part s 2 6 b (omega (arith, l, w))) in
      let p8 : Part s 8 (encode_row (row_of k v) vs) (8 + (size - 4)) = subst (λ (x : List ℕ). Part s 8 x (8 + (size - 4))) c (there s (size - 4) 8 g) in
      let q : Part s 0 (encode_frame (record { key = k; version = v; content = vs })) (8 + (size - 4)) = joined s 0 4 (8 + (size - 4)) _ _ p0 (joined s 4 6 (8 + (size - 4)) _ _ p4 (joined s 6 8 (8 + (size - 4)) _ _ p6 p8)) in
      record {
        valid = record { listed = d; content = r; size = subst (λ (x : ℕ). x < 256 ^ 4) (sym (n ∙ es)) ((integers 4).range s 0 b) };
        within = subst (λ (x : ℕ). over_limit limit x ≡ false) (sym n) o;
        rest = drop (8 + (size - 4)) s;
        whole = q.bytes;
      }

  abbrev Begun : Reading → Type 0
  Begun (frame f) = Starts s limit (values_in s f)
  Begun (short n) = Unit
  Begun (refusal n p) = Unit

  sound_reading : (k v : ℕ) (P : List (Field Place) → ℕ → Type 0) (o : Outcome (List (Field Place))) → Gives P o → ((fs : List (Field Place)) (last : ℕ) → P fs last → Starts s limit (record { key = k; version = v; content = map (value_in s) (map (over_places (further 8)) fs) })) → Begun (reading_of k v o)
  sound_reading k v P (got fs last) h g = g fs last h
  sound_reading k v P (refused n p) h g = tt

  sound_layout : (size k v : ℕ) → size ≡ big_endian 4 s 0 → over_limit limit size ≡ false → 4 ≤ size → size + 4 ≤ length s → decide (big_endian 2 s 4) (big_endian 2 s 6) ≡ layout k v → Begun (read_layout k v (take (size - 4) (drop 8 s)))
  unfolding read_layout
  sound_layout size k v es o l w e =
      sound_reading k v (λ fs last. ContentSound c (row_of k v) fs last × PlacesEndBy (length c) fs) (read_content (row_of k v) c)
      (also (ContentSound c (row_of k v)) (λ fs _. PlacesEndBy (length c) fs) (read_content (row_of k v) c) (sound_content (row_of k v) c (bytes_part (size - 4) 8 s b) (wide_row_lem k v)) (inside_content c (row_of k v)))
      (λ fs last p.
      let m : PlacesEndBy (size - 4) fs = subst (λ (n : ℕ). PlacesEndBy n fs) (length_part (size - 4) 8 s (omega (arith, l, w))) p.1 in
      let f = values_further_on s 8 (size - 4) fs m in
      starts size k v _ es l w o i.0 i.1 (ap₂ decide i.0 i.1 ∙ e) (subst (ValidRow (row_of k v)) f p.0.0) (p.0.1 ∙ ap (encode_row (row_of k v)) f))
    where
      c : List ℕ
      c = take (size - 4) (drop 8 s)

      i : (k ≡ big_endian 2 s 4) × (v ≡ big_endian 2 s 6)
      i = let t = itself (big_endian 2 s 4) (big_endian 2 s 6) k v e in (t.0, t.1)

pub sound : (s : List ℕ) (limit : ℕ) (f : Fields Place) → Bytes s → read_frame s limit ≡ frame f → Starts s limit (values_in s f)
sound s limit f b e =
    subst (Begun s limit b) e
    (frame_cases (Begun s limit b) (λ _. tt) (λ _ _. tt) s limit (λ o l w k v d. sound_layout s limit b (big_endian 4 s 0) k v refl o l w d))
