-- Whatever is well formed is read, as it was encoded: by induction over kinds and rows, each read where its encoding
-- stands. A chunk is read to the end, so it has to stand last, as it does in the table. Assumes nothing.
use mathlib.Core.Path.{◌≡◌, refl, sym, ap, subst, ◌∙◌}
use mathlib.Core.Bool.{Bool, true, false, ◌&&◌}
use mathlib.Core.List.{List, [], ◌∷◌, ◌++◌, append-nil, map}
use Prim.Native.Nat.{ℕ, ◌+◌, ◌-◌, ◌^◌, ◌≤◌, ◌<◌}
use native.Mathlib.Omega.{arith}
use lib.ListN.{length, take, drop}
use borrow.Author.Tests.{le-ltb}
use Rattle.wire.specs.Integers.{digits, big_endian}
use Rattle.protocol.specs.Fields.{Field, Fields, over_places, value_in, values_in, further, PlacesEndBy}
use Rattle.protocol.specs.Kinds.{Kind, unsigned, signed, string, specification, list, chunk, Row, end, ◌·◌}
use Rattle.protocol.specs.Table.{row_of}
use Rattle.protocol.specs.declared.place.Place.{Place}
use Rattle.rules.specs.Exactness.{Starts, Exact}
use Rattle.rules.specs.Grammar.{Value, encode, encode_header, encode_row, size_of, encode_frame, Valid, ValidRow}
use Rattle.rules.specs.Outcome.{Outcome, got}
use Rattle.rules.specs.Reading.{read_chunk, read_field, read_row, read_content, frame, read_layout, read_decided, read_sized, read_frame}
use Rattle.rules.proofs.CompleteChunks.{chunk_read, next_number}
use Rattle.rules.proofs.CompleteFields.{Reads, PieceRead, unsigned_read, signed_read, string_read, specification_read, list_read}
use Rattle.rules.proofs.Gives.{Gives}
use Rattle.rules.proofs.Inside.{inside, inside_content}
use Rattle.rules.proofs.Listed.{both, differ, is_end, chunk_last, chunk_last_in, chunk_last_row, itself}
use Rattle.rules.proofs.Parts.{Part, first_part, second_part, starting, taken}
use Rattle.rules.proofs.Sound.{values_further_on, sound}
use Rattle.rules.proofs.SoundFields.{Element}

-- A row's fields are read up to a place.
abbrev pub ReadsRow : List ℕ → ℕ → List Value → Outcome (List (Field Place)) → Type 0
ReadsRow s next vs o = (fs : List (Field Place)) × (o ≡ got fs next) × (map (value_in s) fs ≡ vs)

-- Every encoding of a row is read where it stands, whatever follows.
abbrev RowRead : Row → List ℕ → Type 0
RowRead row s = (vs : List Value) (at next : ℕ) → ValidRow row vs → Part s at (encode_row row vs) next → ReadsRow s next vs (read_row row s at)

element_read : (row : Row) (s : List ℕ) → RowRead row s → PieceRead s (Element row) (read_row row)
element_read row s reading e at next (vs, v, h) p =
    let r = reading vs at next v (subst (λ t. Part s at t next) h p) in (r.0, r.1)

-- Behind the last field nothing stands.
nothing_behind : (s : List ℕ) (last : Bool) (row : Row) (vs : List Value) (at next : ℕ) → (last ≡ true → next ≡ length s) → Part s at (encode_row row vs) next → (last && is_end row) ≡ true → at ≡ length s
nothing_behind s last end vs at next h p e = let l : at ≡ next = omega (arith, p.long) in l ∙ h (both last true e).0
nothing_behind s last (k · row) vs at next h p e = absurd (differ (both last false e).1)

mutual
  unfolding read_field read_row Valid ValidRow

  field_read : (k : Kind) (s : List ℕ) (last : Bool) (v : Value) (at next : ℕ) → chunk_last last k ≡ true → (last ≡ true → next ≡ length s) → Valid k v → Part s at (encode k v) next → Reads s next v (read_field k s at)
  field_read (unsigned n most) s last v at next c r (e, m, l) p =
      subst (λ u. Reads s next u (read_field (unsigned n most) s at)) (sym e) (unsigned_read s n most v.number at next m l p)
  field_read (signed n) s last v at next c r (e, l) p =
      subst (λ u. Reads s next u (read_field (signed n) s at)) (sym e) (signed_read s n v.integer at next l p)
  field_read (string form nullable) s last v at next c r (e, l) p =
      subst (λ u. Reads s next u (read_field (string form nullable) s at)) (sym e) (string_read s form nullable v.octets at next l p)
  field_read (specification admits_none) s last v at next c r (e, l) p =
      subst (λ u. Reads s next u (read_field (specification admits_none) s at)) (sym e) (specification_read s admits_none v.offset at next l p)
  field_read (list rule row) s last v at next c r (b, e, l, pieces) p =
      subst (λ u. Reads s next u (read_field (list rule row) s at)) (sym e)
      (list_read s (Element row) (read_row row) (element_read row s (λ vs from to valid part. row_read row s false vs from to c (λ f. absurd (differ f)) valid part)) v.number b at next l pieces
      (subst (λ u. Part s at (encode (list rule row) u) next) e p))
  field_read chunk s last v at next c r (b, e, l) p =
      subst (λ n. Reads s n v (read_chunk s at)) (sym (r c))
      (subst (λ u. Reads s (length s) u (read_chunk s at)) (sym e)
      (chunk_read s v.header b at l
      (subst (λ n. Part s at (encode_header v.header ++ b) n) (r c) (subst (λ u. Part s at (encode chunk u) next) e p))))

  pub row_read : (row : Row) (s : List ℕ) (last : Bool) (vs : List Value) (at next : ℕ) → chunk_last_in last row ≡ true → (last ≡ true → next ≡ length s) → ValidRow row vs → Part s at (encode_row row vs) next → ReadsRow s next vs (read_row row s at)
  row_read end s last vs at next c r e p = ([], (let l : at ≡ next = omega (arith, p.long) in ap (got []) l), sym e)
  row_read (k · row) s last vs at next c r (v, ws, e, valid, more) p =
      subst (λ us. ReadsRow s next us (read_row (k · row) s at)) (sym e)
      (together
      (field_read k s (last && is_end row) v at mid tests.0 (nothing_behind s last row ws mid next r rest) valid (first_part s at mid next (encode k v) (encode_row row ws) refl whole))
      (row_read row s last ws mid next tests.1 r more rest))
    where
      mid : ℕ
      mid = at + length (encode k v)

      tests : (chunk_last (last && is_end row) k ≡ true) × (chunk_last_in last row ≡ true)
      tests = both (chunk_last (last && is_end row) k) (chunk_last_in last row) c

      whole : Part s at (encode k v ++ encode_row row ws) next
      whole = subst (λ us. Part s at (encode_row (k · row) us) next) e p

      rest : Part s mid (encode_row row ws) next
      rest = second_part s at mid next (encode k v) (encode_row row ws) refl whole

      together : Reads s mid v (read_field k s at) → ReadsRow s next ws (read_row row s mid) → ReadsRow s next (v ∷ ws) (read_row (k · row) s at)
      together (f, a, b) (fs, c, d) = (f ∷ fs, rw (a, c), rw (b, d))

-- An element's row has no chunk.
pub elements_read : (row : Row) (s : List ℕ) → chunk_last_in false row ≡ true → PieceRead s (Element row) (read_row row)
elements_read row s c = element_read row s (λ vs at next v p. row_read row s false vs at next c (λ f. absurd (differ f)) v p)

-- A whole content.
content_read : (row : Row) (vs : List Value) (s : List ℕ) → s ≡ encode_row row vs → chunk_last_in true row ≡ true → ValidRow row vs → (fs : List (Field Place)) × (read_content row s ≡ got fs (length s)) × (map (value_in s) fs ≡ vs)
unfolding read_content
content_read row vs s e c v =
    let w : Part s 0 s (length s) = starting s s [] (sym (append-nil s)) in
    let r = row_read row s true vs 0 (length s) c (λ _. refl) v (subst (λ t. Part s 0 t (length s)) e w) in
    (r.0, rw (r.1, le-ltb (length s) (length s) (omega arith)), r.2)

pub complete : (s : List ℕ) (limit : ℕ) (v : Fields (List ℕ)) → Starts s limit v → (f : Fields Place) × (read_frame s limit ≡ frame f) × (values_in s f ≡ v)
unfolding read_frame read_sized read_decided read_layout
complete s limit v h = (
  fields,
  rw (le-ltb (length s) 4 (omega (arith, enough)), first.0, h.within, le-ltb size 4 (omega arith), le-ltb (length s) (size + 4) enough, second.0, third.0, h.valid.listed, r.1),
  ap (λ vs. record { key = v.key; version = v.version; content = vs }) (sym (values_further_on s 8 (size - 4) r.0 in_content) ∙ r.2),
)
  where
    row : Row
    row = row_of v.key v.version

    size : ℕ
    size = size_of v

    small : (v.key ≡ v.key) × (v.version ≡ v.version) × (v.key < 256 ^ 2) × (v.version < 256 ^ 2)
    small = itself v.key v.version v.key v.version h.valid.listed

    -- The frame's own bytes, which Size, key and version stand in front of.
    last : ℕ
    last = length (encode_frame v)

    first : (big_endian 4 s 0 ≡ size) × Part s 4 (digits 2 v.key ++ (digits 2 v.version ++ encode_row row v.content)) last
    first = next_number s 4 size 0 4 last _ h.valid.size (omega arith) (starting s (encode_frame v) h.rest h.whole)

    second : (big_endian 2 s 4 ≡ v.key) × Part s 6 (digits 2 v.version ++ encode_row row v.content) last
    second = next_number s 2 v.key 4 6 last _ small.2 (omega arith) first.1

    third : (big_endian 2 s 6 ≡ v.version) × Part s 8 (encode_row row v.content) last
    third = next_number s 2 v.version 6 8 last _ small.3 (omega arith) second.1

    enough : size + 4 ≤ length s
    enough = omega (arith, third.1.long, third.1.within)

    content : List ℕ
    content = take (size - 4) (drop 8 s)

    same : content ≡ encode_row row v.content
    same = taken s 8 last (size - 4) (encode_row row v.content) third.1 (omega (arith, third.1.long))

    r : (fs : List (Field Place)) × (read_content row content ≡ got fs (length content)) × (map (value_in content) fs ≡ v.content)
    r = content_read row v.content content same (chunk_last_row v.key v.version) h.valid.content

    in_content : PlacesEndBy (size - 4) r.0
    in_content =
        let l : length content ≡ size - 4 = ap length same ∙ omega arith in
        subst (λ n. PlacesEndBy n r.0) l (subst (Gives (λ fs _. PlacesEndBy (length content) fs)) r.1 (inside_content content row))

    fields : Fields Place
    fields = record { key = v.key; version = v.version; content = map (over_places (further 8)) r.0 }

pub exact : Exact
exact = record { sound = sound; complete = complete; inside = inside }
