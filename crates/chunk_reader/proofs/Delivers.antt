-- The chunk of a Deliver that was read is well formed where it stands: what was read is the encoding of a chunk that is valid
-- (it is sound), and such an encoding is read wherever it stands (it is complete). Assumes nothing.
use mathlib.Core.Path.{◌≡◌, refl, sym, ◌∙◌, ap, subst}
use mathlib.Core.Bool.{Bool, true, false, not, cond}
use mathlib.Core.List.{List, [], ◌∷◌, ◌++◌, map, map-append, append-nil}
use mathlib.Core.Logic.{◌⊎◌, inl, inr}
use Prim.Native.Nat.{ℕ, zero, suc, ◌+◌, ◌-◌, ◌≤◌}
use native.Mathlib.Omega.{arith}
use lib.Dec.{ltb, eqb}
use lib.ListN.{length, take, drop, drop_of_length-le}
use lib.Seq.{drop-drop, get_or-drop}
use borrow.Author.Tests.{ltb-false}
use Rattle.wire.specs.Integers.{Bytes, big_endian}
use Rattle.protocol.specs.Decision.{versions_in, layout, unlisted_version, of_version, decide}
use Rattle.protocol.specs.Fields.{Field, Fields, place, value_in, over_places, further}
use Rattle.protocol.specs.Fields as F
use Rattle.protocol.specs.Kinds as K
use Rattle.protocol.specs.Kinds.{Row, end, ◌·◌}
use Rattle.protocol.specs.Table.{table, row_in, row_of}
use Rattle.protocol.specs.declared.chunk.ChunkHeader.{ChunkHeader}
use Rattle.protocol.specs.declared.place.Place.{Place}
use Rattle.rules.specs.Grammar.{Value, encode, encode_header, Valid, ValidChunk}
use Rattle.rules.specs.Outcome.{Outcome, got, refused}
use Rattle.rules.specs.Reading.{header_at, is_chunk_type, has_entries, read_data, read_chunk, read_unsigned, read_field, read_row, read_content, read_layout, Reading, frame, short, refusal, reading_of, read_frame}
use Rattle.rules.proofs.CompleteChunks.{chunk_read}
use Rattle.rules.proofs.Gives.{Gives, check, after, after_number, also, weaker, frame_cases}
use Rattle.rules.proofs.Listed.{itself}
use Rattle.rules.proofs.Parts.{Part, drop_take, length_part, starting, bytes_part}
use Rattle.rules.proofs.SoundChunks.{sound_chunk}
use Rattle.chunk_reader.specs.Messages.{chunk_at}
use Rattle.chunk_reader.specs.Run.{Good, WellFormed}

-- The encoding of a valid chunk is a well-formed chunk.
encoded : (t : List ℕ) (h : ChunkHeader) (e : List ℕ) → ValidChunk h e → t ≡ encode_header h ++ e → WellFormed t
encoded t h e v q =
    let p : Part t 0 (encode_header h ++ e) (length t) = subst (λ (n : ℕ). Part t 0 (encode_header h ++ e) n) (sym (ap length q)) (starting t (encode_header h ++ e) [] (q ∙ sym (append-nil (encode_header h ++ e)))) in
    subst Good (sym (chunk_read t h e 0 v p).1) tt

-- A chunk's header and data stand together before and at a place.
pub record ChunkStands (s : List ℕ) (h : ChunkHeader) (p : Place) : Type 0 where
  pub room : 48 ≤ p.at
  pub inside : p.at + p.len ≤ length s
  pub whole : WellFormed (chunk_at s p)
  pub same : header_at (chunk_at s p) 0 ≡ h

-- A frame's last field is a chunk, which stands at its place.
pub record EndsInAChunk (s : List ℕ) (f : Fields Place) (front : List (Field Place)) : Type 0 where
  pub header : ChunkHeader
  pub octets : Place
  pub fields : f.content ≡ front ++ (F.chunk header octets ∷ [])
  pub stands : ChunkStands s header octets

big_drop : (n at k : ℕ) (c : List ℕ) → big_endian n (drop at c) k ≡ big_endian n c (at + k)
unfolding big_endian
big_drop zero at k c = refl
big_drop (suc n) at k c = let e : at + (k + n) ≡ at + k + n = omega arith in rw (big_drop n at k c, get_or-drop at c (k + n) 0, e)

header_drop : (at : ℕ) (c : List ℕ) → header_at (drop at c) 0 ≡ header_at c at
header_drop at c =
    let z : at + 0 ≡ at = omega arith in
    rw (
      big_drop 1 at 0 c,
      z,
      big_drop 1 at 1 c,
      big_drop 2 at 2 c,
      big_drop 4 at 4 c,
      big_drop 8 at 8 c,
      big_drop 8 at 16 c,
      big_drop 8 at 24 c,
      big_drop 4 at 32 c,
      big_drop 4 at 36 c,
      big_drop 4 at 40 c,
      big_drop 1 at 44 c,
      big_drop 3 at 45 c,
    )

-- A chunk that was read from a place to the end of the bytes c: it is well formed by itself, and its data is all that
-- stands after its header.
module _ (c : List ℕ) (b : Bytes c) where
  abbrev chunk_field : ℕ → Field Place
  chunk_field at = F.chunk (header_at c at) (place (at + 48) (header_at c at).data_length)

  abbrev Alone : ℕ → Field Place → ℕ → Type 0
  Alone at f next = length c ≤ next → WellFormed (drop at c)

  alone : (at : ℕ) → Gives (Alone at) (read_chunk c at)
  unfolding Valid
  alone at = weaker _ (Alone at) (read_chunk c at) by (sound_chunk c b at)
    where
      by : (f : Field Place) (next : ℕ) → Valid K.chunk (value_in c f) × Part c at (encode K.chunk (value_in c f)) next → Alone at f next
      by f next (v, p) l =
          let h = f.header in
          let q : drop at c ≡ (encode_header h ++ v.0) ++ drop next c = subst (λ (x : Value). drop at c ≡ encode K.chunk x ++ drop next c) v.1 p.bytes in
          encoded (drop at c) h v.0 v.2 (q ∙ rw (drop_of_length-le c {i = next} l) (append-nil (encode_header h ++ v.0)))

  abbrev Placed : ℕ → Field Place → ℕ → Type 0
  Placed at f next = (f ≡ chunk_field at) × (at + 48 + (header_at c at).data_length ≡ length c)

  placed : (at : ℕ) → Gives (Placed at) (read_chunk c at)
  unfolding read_chunk read_data
  placed at =
      let h = header_at c at in
      let n = at + 48 + h.data_length in
      check (Placed at) (ltb (length c) (at + 48)) 6 at _ (λ _.
      after (Placed at) Long (read_data h.chunk_type h.entries h.records h.data_length c at) _
      (check Long (not (is_chunk_type h.chunk_type)) 10 (at + 1) _ (λ _.
      check Long (ltb (length c) n) 6 (at + 48) _ (λ cut.
      check Long (ltb n (length c)) 11 n _ (λ longer.
      always (cond (has_entries h.chunk_type) _ _) (equal n (length c) (ltb-false _ _ cut) (ltb-false _ _ longer))))))
      (λ _ next e. (refl, e)))
    where
      Long : Unit {0} → ℕ → Type 0
      Long _ _ = at + 48 + (header_at c at).data_length ≡ length c

      equal : (m n : ℕ) → m ≤ n → n ≤ m → m ≡ n
      equal m n p q = omega (arith, p, q)

      always : (o : Outcome Unit) → at + 48 + (header_at c at).data_length ≡ length c → Gives Long o
      always (got a next) e = e
      always (refused m p) e = tt

  -- A content that ends in a chunk at a place, after other fields.
  record Ends (at : ℕ) (front fs : List (Field Place)) : Type 0 where
    pub fields : fs ≡ front ++ (chunk_field at ∷ [])
    pub long : at + 48 + (header_at c at).data_length ≡ length c
    pub whole : WellFormed (drop at c)

  abbrev Last : ℕ → List (Field Place) → ℕ → Type 0
  Last at fs next = length c ≤ next → Ends at [] fs

  chunk_last : (at : ℕ) → Gives (Last at) (read_row (K.chunk · end) c at)
  unfolding read_row read_field
  chunk_last at =
      after (Last at) (λ f next. Placed at f next × Alone at f next) (read_chunk c at) _
      (also (Placed at) (Alone at) (read_chunk c at) (placed at) (alone at))
      (λ f next p l. record { fields = ap (λ (g : Field Place). g ∷ []) p.0.0; long = p.0.1; whole = p.1 l })

  further_front : (at : ℕ) (front fs : List (Field Place)) (f : Field Place) → Ends at front fs → Ends at (f ∷ front) (f ∷ fs)
  further_front at front fs f e = record { fields = ap (λ (gs : List (Field Place)). f ∷ gs) e.fields; long = e.long; whole = e.whole }

  -- A number in front of other fields.
  after_unsigned : (n most at : ℕ) (row : Row) (P Q : List (Field Place) → ℕ → Type 0) → Gives Q (read_row row c (at + n)) → ((f : Field Place) (fs : List (Field Place)) (last : ℕ) → Q fs last → P (f ∷ fs) last) → Gives P (read_row (K.unsigned n most · row) c at)
  unfolding read_row read_field read_unsigned
  after_unsigned n most at row P Q g h =
      after P (λ f next. next ≡ at + n) (read_unsigned n most c at) _
      (after_number (λ f next. next ≡ at + n) n c at _ (λ _.
      check (λ f next. next ≡ at + n) (ltb most (big_endian n c at)) 10 at _ (λ _. refl)))
      (λ f next e. rw e (after P Q (read_row row c (at + n)) _ g (λ fs last q. h f fs last q)))

  -- The contents of a Deliver: the chunk stands after the subscription id, and in version 2 after the committed chunk id.
  abbrev Version1 : List (Field Place) → ℕ → Type 0
  Version1 fs _ = (x : Field Place) × Ends 1 (x ∷ []) fs

  abbrev Version2 : List (Field Place) → ℕ → Type 0
  Version2 fs _ = (x : Field Place) × (y : Field Place) × Ends 9 (x ∷ y ∷ []) fs

  to_its_end : (row : Row) (P : List (Field Place) → ℕ → Type 0) → Gives (λ fs last. length c ≤ last → P fs last) (read_row row c 0) → Gives P (read_content row c)
  unfolding read_content
  to_its_end row P g =
      after P (λ fs last. length c ≤ last → P fs last) (read_row row c 0) _ g (λ fs last h.
      check P (ltb last (length c)) 11 last _ (λ e. h (ltb-false _ _ e)))

  version_1 : Gives Version1 (read_content (row_of 0x0008 1) c)
  unfolding row_in table
  version_1 =
      to_its_end (row_of 0x0008 1) Version1
      (after_unsigned 1 _ 0 (K.chunk · end) _ (Last 1) (chunk_last 1) (λ x fs last h l. (x, further_front 1 [] fs x (h l))))

  version_2 : Gives Version2 (read_content (row_of 0x0008 2) c)
  unfolding row_in table
  version_2 =
      to_its_end (row_of 0x0008 2) Version2
      (after_unsigned 1 _ 0 (K.unsigned 8 _ · K.chunk · end) _ (λ fs last. length c ≤ last → (y : Field Place) × Ends 9 (y ∷ []) fs)
      (after_unsigned 8 _ 1 (K.chunk · end) _ (Last 9) (chunk_last 9) (λ y fs last h l. (y, further_front 9 [] fs y (h l))))
      (λ x fs last h l. let e = h l in (x, e.0, further_front 9 (e.0 ∷ []) fs x e.1)))

last_or : {A : Type 0} → A → List A → A
last_or d [] = d
last_or d (x ∷ xs) = last_or x xs

last_snoc : {A : Type 0} (xs : List A) (d a : A) → last_or d (xs ++ (a ∷ [])) ≡ a
unfolding last_or
last_snoc [] d a = refl
last_snoc (x ∷ xs) d a = last_snoc xs x a

snoc_last : {A : Type 0} (xs ys : List A) (a b : A) → xs ++ (a ∷ []) ≡ ys ++ (b ∷ []) → a ≡ b
snoc_last xs ys a b e = sym (last_snoc xs a a) ∙ (ap (last_or a) e ∙ last_snoc ys a b)

-- A content of m bytes after the first eight of a frame.
module _ (s : List ℕ) (m : ℕ) (w : 8 + m ≤ length s) where
  abbrev content : List ℕ
  content = take m (drop 8 s)

  abbrev fields_of : ℕ → ℕ → List (Field Place) → Fields Place
  fields_of k v fs = record { key = k; version = v; content = map (over_places (further 8)) fs }

  module _ (b : Bytes content) (at : ℕ) (front fs : List (Field Place)) (e : Ends content b at front fs) where
    abbrev len : ℕ
    len = (header_at content at).data_length

    long : at + 48 + len ≡ m
    long = e.long ∙ length_part m 8 s w

    same : drop at content ≡ chunk_at s (place (8 + (at + 48)) len)
    same =
        let f : 8 + (at + 48) - 48 ≡ 8 + at = omega arith in
        let g : at + (48 + len) ≡ m = omega (arith, long) in
        rw (f, drop_take at (48 + len) m (drop 8 s) g, drop-drop at 8 s)

    stands : ChunkStands s (header_at content at) (place (8 + (at + 48)) len)
    stands =
        record {
          room = omega arith;
          inside = omega (arith, long);
          whole = subst WellFormed same e.whole;
          same = ap (λ (t : List ℕ). header_at t 0) (sym same) ∙ header_drop at content;
        }

    -- The chunk is the frame's last field.
    ends : (k v : ℕ) → EndsInAChunk s (fields_of k v fs) (map (over_places (further 8)) front)
    ends k v = record { header = _; octets = _; fields = ap (map (over_places (further 8))) e.fields ∙ map-append (over_places (further 8)) front (chunk_field content b at ∷ []); stands = stands }

-- The two versions of a Deliver.
pub versions : (v k w : ℕ) → decide 0x0008 v ≡ layout k w → (w ≡ 1) ⊎ (w ≡ 2)
unfolding decide versions_in of_version table
versions v k w = by (eqb v 1) (eqb v 2)
  where
    by : (a b : Bool) → cond a (layout 0x0008 1) (cond b (layout 0x0008 2) unlisted_version) ≡ layout k w → (w ≡ 1) ⊎ (w ≡ 2)
    by true b e = inl (cc)
    by false true e = inr (cc)
    by false false e = absurd (let z : ◌≡◌ {A = ℕ} 0 1 = cc in omega arith)

-- What is known of a Deliver: its chunk is the last field, after one or two others.
pub record Delivered (s : List ℕ) (f : Fields Place) : Type 0 where
  pub version : (f.version ≡ 1) ⊎ (f.version ≡ 2)
  pub first : f.version ≡ 1 → (x : Field Place) × EndsInAChunk s f (x ∷ [])
  pub second : f.version ≡ 2 → (x : Field Place) × (y : Field Place) × EndsInAChunk s f (x ∷ y ∷ [])

module _ (s : List ℕ) (b : Bytes s) where
  abbrev Opened : Reading → Type 0
  Opened (frame f) = f.key ≡ 0x0008 → Delivered s f
  Opened (short n) = Unit
  Opened (refusal n p) = Unit

  of_layout : (size k v : ℕ) → 4 ≤ size → size + 4 ≤ length s → decide (big_endian 2 s 4) (big_endian 2 s 6) ≡ layout k v → Opened (read_layout k v (take (size - 4) (drop 8 s)))
  unfolding read_layout
  of_layout size k v l h d =
      by (read_content (row_of k v) c)
      (λ ek ev. rw (ek, ev) (version_1 c bc)) (λ ek ev. rw (ek, ev) (version_2 c bc))
    where
      c : List ℕ
      c = take (size - 4) (drop 8 s)

      bc : Bytes c
      bc = bytes_part (size - 4) 8 s b

      w : 8 + (size - 4) ≤ length s
      w = omega (arith, l, h)

      which : k ≡ 0x0008 → (v ≡ 1) ⊎ (v ≡ 2)
      which ek = versions (big_endian 2 s 6) k v (ap (λ (x : ℕ). decide x (big_endian 2 s 6)) (sym ek ∙ (itself (big_endian 2 s 4) (big_endian 2 s 6) k v d).0) ∙ d)

      by : (o : Outcome (List (Field Place))) → (k ≡ 0x0008 → v ≡ 1 → Gives (Version1 c bc) o) → (k ≡ 0x0008 → v ≡ 2 → Gives (Version2 c bc) o) → Opened (reading_of k v o)
      by (refused n p) g1 g2 = tt
      by (got fs last) g1 g2 =
          λ ek.
          record {
            version = which ek;
            first = λ ev. let (x, e) = g1 ek ev in (_, ends s (size - 4) w bc 1 (x ∷ []) fs e k v);
            second = λ ev. let (x, y, e) = g2 ek ev in (_, _, ends s (size - 4) w bc 9 (x ∷ y ∷ []) fs e k v);
          }

pub delivered : (s : List ℕ) (limit : ℕ) (f : Fields Place) → Bytes s → read_frame s limit ≡ frame f → f.key ≡ 0x0008 → Delivered s f
delivered s limit f b e =
    subst (Opened s b) e
    (frame_cases (Opened s b) (λ _. tt) (λ _ _. tt) s limit (λ _ l h k v d. of_layout s b (big_endian 4 s 0) k v l h d))

-- A chunk that is the last field is the one that stands there.
last_stands : (s : List ℕ) (f : Fields Place) (front before : List (Field Place)) (h : ChunkHeader) (p : Place) → EndsInAChunk s f front → f.content ≡ before ++ (F.chunk h p ∷ []) → ChunkStands s h p
last_stands s f front before h p c i =
    let last : F.chunk c.header c.octets ≡ F.chunk h p = snoc_last front before _ _ (sym c.fields ∙ i) in
    let header : c.header ≡ h = ap (λ (g : Field Place). g.header) last in
    let where_at : c.octets ≡ p = cc (ap (λ (g : Field Place). g.octets) last) in
    subst (λ (k : ChunkHeader). ChunkStands s k p) header (subst (ChunkStands s c.header) where_at c.stands)

pub chunk_stands : (s : List ℕ) (limit : ℕ) (f : Fields Place) → Bytes s → read_frame s limit ≡ frame f → f.key ≡ 0x0008 → (before : List (Field Place)) (h : ChunkHeader) (p : Place) → f.content ≡ before ++ (F.chunk h p ∷ []) → ChunkStands s h p
chunk_stands s limit f b e k before h p i = by d.version
  where
    d : Delivered s f
    d = delivered s limit f b e k

    by : (f.version ≡ 1) ⊎ (f.version ≡ 2) → ChunkStands s h p
    by (inl v) = let (x, c) = d.first v in last_stands s f (x ∷ []) before h p c i
    by (inr v) = let (x, y, c) = d.second v in last_stands s f (x ∷ y ∷ []) before h p c i
