-- What was read is well formed: a list's bytes are as many pieces as its count says, each the encoding of an element, and a chunk's
-- data is entries in the same way. Each piece is read where it stands, so the question for an index passes those before it and finds
-- its own piece, and the pieces found are the whole. Assumes nothing.
use mathlib.Core.Path.{◌≡◌, refl, sym, ap, ap₂, subst, ◌∙◌}
use mathlib.Core.Bool.{Bool, true, false, ◌&&◌}
use mathlib.Core.List.{List, [], ◌∷◌, ◌++◌, append-nil, map, head-eq_of_cons-eq, tail-eq_of_cons-eq}
use mathlib.Core.Option
use mathlib.Core.Option.{Option, none, some}
use Prim.Native.Nat.{ℕ, zero, suc, ◌+◌, ◌≤◌, ◌<◌}
use native.Mathlib.Omega.{arith}
use lib.IntN.{ℤ, pos, negsuc}
use lib.ListN.{length, get_or, length-map}
use borrow.Author.Tests.{le-ltb, lt-leb, le-leb, eqb-true}
use Rattle.wire.specs.Integers.{digits}
use Rattle.protocol.specs.Fields.{Field, place, bytes_at, outside, over_places, value_in, further, EndsBy, PlacesEndBy}
use Rattle.protocol.specs.Kinds.{Kind, unsigned, signed, string, specification, list, chunk, Row, end, ◌·◌}
use Rattle.protocol.specs.Refusals.{value_not_admitted}
use Rattle.protocol.specs.Table.{row_of}
use Rattle.protocol.specs.declared.chunk.ChunkHeader.{ChunkHeader}
use Rattle.protocol.specs.declared.place.Place.{Place}
use Rattle.rules.specs.Grammar.{encode_row, Pieces, Entry, Valid, ValidRow}
use Rattle.rules.specs.Outcome.{Outcome, got, then, repeated, mapped}
use Rattle.rules.specs.Reading.{has_entries, read_entry, read_row}
use Rattle.rules.specs.Writing.{place_of}
use Rattle.rules.proofs.Complete.{row_read}
use Rattle.rules.proofs.CompleteChunks.{message_read}
use Rattle.rules.proofs.Gives.{Gives}
use Rattle.rules.proofs.Inside.{inside_row, moved}
use Rattle.rules.proofs.Listed.{both, differ, is_end, chunk_last, chunk_last_in, chunk_last_row}
use Rattle.rules.proofs.Parts.{Part, first_part, second_part, starting, length_part, part_of_part}
use Rattle.rules.proofs.Sound.{values_further_on, sound}
use Rattle.rules.proofs.SoundFields.{Element}
use Rattle.rules.proofs.WriteField.{placed}
use Rattle.parts.specs.Parts.{text_of}
use Rattle.parts.proofs.Parts.{part_inside, places_there}
use Rattle.questions.specs.Found.{Each, encode_elements, octets_of, AllElements, encode_entries, message_count, AllMessages, FieldFound, RowFound, EverythingIsFound}
use Rattle.questions.specs.Questions.{found, refusal, asked, read_nth, element_at, message_at, message_of, octets_in, place_in, field_part, message_part}
use Rattle.questions.proofs.Questions.{entry_inside, element_inside, message_inside}

-- ---- Pieces, one after another

module _ {A : Type 0} (part : List ℕ) (read : List ℕ → ℕ → Outcome A) (encoded : A → List ℕ) (Good : A → Type 0) (none_there : A) where
  -- The encodings of what was found, one after another.
  abbrev pub all_encoded : List A → List ℕ
  all_encoded [] = []
  all_encoded (a ∷ more) = encoded a ++ all_encoded more

  -- What is found from a place on: as many as there are pieces, each at its index, and together they are the pieces.
  record Finds (n at : ℕ) (e : List ℕ) : Type 0 where
    all : List A
    as_many : length all ≡ n
    nth : (i : ℕ) → i < n → (next : ℕ) × (then (repeated read i part at) (λ _ from. read part from) ≡ got (get_or all i none_there) next)
    bytes : all_encoded all ≡ e
    each : Each Good all

  module _ (P : List ℕ → Type 0) (one : (e : List ℕ) (at next : ℕ) → P e → Part part at e next → (a : A) × (read part at ≡ got a next) × (encoded a ≡ e) × Good a) where
    finds : (n at : ℕ) (e : List ℕ) (next : ℕ) → Pieces P n e → Part part at e next → Finds n at e
    unfolding repeated
    finds zero at e next h p = record { all = []; as_many = refl; nth = λ i l. absurd (omega (arith, l)); bytes = sym h; each = tt }
    finds (suc n) at e next (a, c, q, h, more) p =
        let r : Part part at (a ++ c) next = subst (λ t. Part part at t next) h p in
        let mid : ℕ = at + length a in
        let first = one a at mid q (first_part part at mid next a c refl r) in
        let rest = finds n mid c next more (second_part part at mid next a c refl r) in
        record {
          all = first.0 ∷ rest.all;
          as_many = ap suc rest.as_many;
          nth = nth_of at mid first.0 first.1 rest;
          bytes = ap₂ (λ x y. x ++ y) first.2 rest.bytes ∙ sym h;
          each = (first.3, rest.each);
        }
      where
        nth_of : (at mid : ℕ) (x : A) → read part at ≡ got x mid → (rest : Finds n mid c) → (i : ℕ) → i < suc n → (k : ℕ) × (then (repeated read i part at) (λ _ from. read part from) ≡ got (get_or (x ∷ rest.all) i none_there) k)
        nth_of at mid x is rest zero l = (mid, is)
        nth_of at mid x is rest (suc i) l = let t = rest.nth i (omega (arith, l)) in (t.0, rw is t.1)

get_d_map : {A B : Type 0} (f : A → B) (l : List A) (i : ℕ) (d : A) (e : B) → i < length l → f (get_or l i d) ≡ get_or (map f l) i e
get_d_map f [] i d e h = absurd (omega (arith, h))
get_d_map f (a ∷ l) zero d e h = refl
get_d_map f (a ∷ l) (suc i) d e h = get_d_map f l i d e (omega (arith, h))

each_of : {A : Type 0} (P Q : A → Type 0) → ((a : A) → P a → Q a) → (l : List A) → Each P l → Each Q l
each_of P Q g [] h = tt
each_of P Q g (a ∷ l) h = (g a h.0, each_of P Q g l h.1)

each_map : {A B : Type 0} (f : A → B) (P : A → Type 0) (Q : B → Type 0) → ((a : A) → P a → Q (f a)) → (l : List A) → Each P l → Each Q (map f l)
each_map f P Q g [] h = tt
each_map f P Q g (a ∷ l) h = (g a h.0, each_map f P Q g l h.1)

-- What was found, as the answer to a question.
asked_got : {A B : Type 0} (f : A → B) (o : Outcome A) (a : A) (next : ℕ) → o ≡ got a next → asked (mapped f o) ≡ found (f a)
asked_got f o a next e = ap (λ x. asked (mapped f x)) e

-- ---- Parts of what was found

-- What is found lies within the source, so its part is its bytes.
module _ (s : List ℕ) where
  octets_there : (n : ℕ) (fs : List (Field Place)) → PlacesEndBy (length s) fs → octets_in s (place_in n fs) ≡ octets_of n (map (value_in s) fs)
  octets_there n [] h = refl
  octets_there zero (f ∷ fs) h = by f.octets h.0
    where
      by : (o : Option Place) → EndsBy (length s) o → octets_in s o ≡ text_of (Option.map (bytes_at s) o)
      by none h = refl
      by (some p) h = part_inside s p h
  octets_there (suc n) (f ∷ fs) h = octets_there n fs h.1

  element_part : (row : Row) (count : ℕ) (p : Place) (n i : ℕ) (fs : List (Field Place)) → element_at row s count p i ≡ found fs → field_part n s (element_at row s count p i) ≡ octets_of n (map (value_in s) fs)
  element_part row count p n i fs e = ap (field_part n s) e ∙ octets_there n fs (element_inside s p i row count fs e)

  message_part_lem : (h : ChunkHeader) (p : Place) (i : ℕ) (q : Place) → message_at s h p i ≡ found q → message_part s (message_at s h p i) ≡ bytes_at s q
  message_part_lem h p i q e = ap (message_part s) e ∙ part_inside s q (message_inside s p i h.chunk_type h.entries q e)

module _ (s : List ℕ) (p : Place) (there : EndsBy (length s) (some p)) where
  abbrev part : List ℕ
  part = bytes_at s p

  long : length part ≡ p.len
  long = length_part p.len p.at s there

  within : outside p s ≡ false
  within = le-ltb (length s) (p.at + p.len) there

  whole : Part part 0 part (length part)
  whole = starting part part [] (sym (append-nil part))

  -- ---- The elements of a list

  module _ (row : Row) (plain : chunk_last_in false row ≡ true) where
    abbrev Read : List (Field Place) → Type 0
    Read fs = ValidRow row (map (value_in part) fs) × PlacesEndBy (length part) fs

    element : (e : List ℕ) (at next : ℕ) → Element row e → Part part at e next → (fs : List (Field Place)) × (read_row row part at ≡ got fs next) × (encode_row row (map (value_in part) fs) ≡ e) × Read fs
    element e at next (vs, v, h) q =
        let r = row_read row part false vs at next plain (λ f. absurd (differ f)) v (subst (λ t. Part part at t next) h q) in
        (r.0, r.1, ap (encode_row row) r.2 ∙ sym h, (subst (ValidRow row) (sym r.2) v, subst (Gives (λ fs _. PlacesEndBy (length part) fs)) r.1 (inside_row part row at)))

    -- An element in the source.
    abbrev at_place : List (Field Place) → List (Field Place)
    at_place = map (over_places (further p.at))

    same_values : (fs : List (Field Place)) → PlacesEndBy (length part) fs → map (value_in part) fs ≡ map (value_in s) (at_place fs)
    same_values fs h = values_further_on s p.at p.len fs (subst (λ n. PlacesEndBy n fs) long h)

    same_bytes : (all : List (List (Field Place))) → Each Read all → encode_elements row s (map at_place all) ≡ all_encoded part (read_row row) (λ fs. encode_row row (map (value_in part) fs)) Read [] all
    same_bytes [] h = refl
    same_bytes (fs ∷ all) h = ap₂ (λ x y. encode_row row x ++ y) (sym (same_values fs h.0.1)) (same_bytes all h.1)

    -- What is known of an element that was found.
    abbrev pub Known : List (Field Place) → Type 0
    Known fs = ValidRow row (map (value_in s) fs) × PlacesEndBy (length s) fs

    known : (fs : List (Field Place)) → Read fs → Known (at_place fs)
    known fs h = (subst (ValidRow row) (same_values fs h.1) h.0, moved p.at (length part) (length s) fs (omega (arith, long, there)) h.1)

    element_there : (count : ℕ) (all : List (List (Field Place))) → length all ≡ count → (i : ℕ) → i < count → (next : ℕ) × (read_nth (read_row row) i part ≡ got (get_or all i []) next) → element_at row s count p i ≡ found (get_or (map at_place all) i [])
    unfolding element_at
    element_there count all n i l (next, e) = rw (within, lt-leb count i l) (asked_got at_place _ (get_or all i []) next e ∙ ap found (get_d_map at_place all i [] [] (omega (arith, l, n))))

    element_beyond : (count i : ℕ) → count ≤ i → element_at row s count p i ≡ refusal value_not_admitted
    unfolding element_at
    element_beyond count i l = rw (within, le-leb count i l)

    all_elements : (count : ℕ) → Pieces (Element row) count part → (all : AllElements s row count p) × Each Known all.elements
    unfolding read_nth
    all_elements count pieces =
        let f = finds part (read_row row) (λ fs. encode_row row (map (value_in part) fs)) Read [] (Element row) element count 0 part (length part) pieces whole in
        let each = each_map at_place Read Known known f.all f.each in
        let there_at : (i : ℕ) → i < count → element_at row s count p i ≡ found (get_or (map at_place f.all) i []) = λ i l. element_there count f.all f.as_many i l (f.nth i l) in (
          record {
            elements = map at_place f.all;
            as_many = length-map f.all at_place ∙ f.as_many;
            found_at = there_at;
            no_other = element_beyond count;
            valid = each_of Known (λ fs. ValidRow row (map (value_in s) fs)) (λ _ h. h.0) (map at_place f.all) each;
            bytes = same_bytes f.all f.each ∙ f.bytes;
            parts = λ n i l. element_part s row count p n i _ (there_at i l);
            no_part = λ n i l. ap (field_part n s) (element_beyond count i l);
          },
          each,
        )

  -- ---- The messages of a chunk

  entry : (e : List ℕ) (at next : ℕ) → Entry e → Part part at e next → (q : Place) × (read_entry part at ≡ got q next) × (digits 4 q.len ++ bytes_at part q ≡ e) × EndsBy (length part) (some q)
  entry e at next (b, l, h) r =
      let t = message_read part b at next l (subst (λ x. Part part at x next) h r) in
      (place (at + 4) (length b), t.0, ap (λ m. digits 4 (length b) ++ m) t.1 ∙ sym h, subst (Gives (λ q _. EndsBy (length part) (some q))) t.0 (entry_inside part at))

  same_message : (q : Place) → EndsBy (length part) (some q) → bytes_at s (further p.at q) ≡ bytes_at part q
  same_message q h = sym (part_of_part q.len q.at p.len p.at s (subst (λ n. q.at + q.len ≤ n) long h))

  same_entries : (all : List Place) → Each (λ q. EndsBy (length part) (some q)) all → encode_entries (map (bytes_at s) (map (further p.at) all)) ≡ all_encoded part read_entry (λ q. digits 4 q.len ++ bytes_at part q) (λ q. EndsBy (length part) (some q)) (place 0 0) all
  same_entries [] h = refl
  same_entries (q ∷ all) h =
      let m = same_message q h.0 in
      let n : length (bytes_at part q) ≡ q.len = length_part q.len q.at part h.0 in
      ap₂ (λ x y. x ++ y) (ap (λ b. digits 4 (length b) ++ b) m ∙ ap (λ k. digits 4 k ++ bytes_at part q) n) (same_entries all h.1)

  message_there : (h : ChunkHeader) → has_entries h.chunk_type ≡ true → (all : List Place) → length all ≡ h.entries → (i : ℕ) → i < h.entries → (next : ℕ) × (read_nth read_entry i part ≡ got (get_or all i (place 0 0)) next) → message_at s h p i ≡ found (get_or (map (further p.at) all) i (place 0 0))
  unfolding message_of
  message_there h z all n i l (next, e) = rw (within, z, lt-leb h.entries i l) (asked_got (further p.at) _ (get_or all i (place 0 0)) next e ∙ ap found (get_d_map (further p.at) all i (place 0 0) (place 0 0) (omega (arith, l, n))))

  message_beyond : (h : ChunkHeader) (i : ℕ) → message_count h ≤ i → message_at s h p i ≡ refusal value_not_admitted
  unfolding message_of
  message_beyond h i l = by (has_entries h.chunk_type) refl
    where
      by : (t : Bool) → has_entries h.chunk_type ≡ t → message_at s h p i ≡ refusal value_not_admitted
      by false e = rw (within, e)
      by true e = let k : h.entries ≤ i = rw e at l in rw (within, e, le-leb h.entries i k)

  all_messages : (h : ChunkHeader) → (has_entries h.chunk_type ≡ true → Pieces Entry h.entries part) → AllMessages s h p
  unfolding read_nth
  all_messages h pieces = by (has_entries h.chunk_type) refl
    where
      by : (t : Bool) → has_entries h.chunk_type ≡ t → AllMessages s h p
      by false e =
          record {
            messages = [];
            as_many = rw e;
            found_at = λ i l. absurd (let z : i < 0 = rw e at l in omega (arith, z));
            no_other = message_beyond h;
            bytes = λ z. absurd (differ (sym e ∙ z));
            parts = λ i l. absurd (let z : i < 0 = rw e at l in omega (arith, z));
            no_part = λ i l. ap (message_part s) (message_beyond h i l);
          }
      by true e =
          let f = finds part read_entry (λ q. digits 4 q.len ++ bytes_at part q) (λ q. EndsBy (length part) (some q)) (place 0 0) Entry entry h.entries 0 part (length part) (pieces e) whole in
          let there_at : (i : ℕ) → i < message_count h → message_at s h p i ≡ found (get_or (map (further p.at) f.all) i (place 0 0)) = λ i l. let k : i < h.entries = rw e at l in message_there h e f.all f.as_many i k (f.nth i k) in
          record {
            messages = map (further p.at) f.all;
            as_many = length-map f.all (further p.at) ∙ (f.as_many ∙ rw e);
            found_at = there_at;
            no_other = message_beyond h;
            bytes = λ _. same_entries f.all f.each ∙ f.bytes;
            parts = λ i l. message_part_lem s h p i _ (there_at i l);
            no_part = λ i l. ap (message_part s) (message_beyond h i l);
          }

-- ---- Fields and frames

zero_type : (z : ℤ) → has_entries z ≡ true → z ≡ pos 0
zero_type (pos n) e = ap pos (eqb-true n 0 e)
zero_type (negsuc k) e = absurd (differ e)

module _ (s : List ℕ) where
  mutual
    unfolding FieldFound RowFound Valid ValidRow

    field_found : (kind : Kind) (last : Bool) (f : Field Place) → chunk_last last kind ≡ true → Valid kind (value_in s f) → EndsBy (length s) f.octets → FieldFound s kind f
    field_found (unsigned n most) last f c v i = tt
    field_found (signed n) last f c v i = tt
    field_found (string form nullable) last f c v i = tt
    field_found (specification admits_none) last f c v i = tt
    field_found (list rule row) last f c (b, e, l, pieces) i =
        let at = placed s f.octets b (ap (λ v. v.octets) e) i in
        let r = all_elements s (place_of f.octets) at.1 row c f.number (subst (Pieces (Element row) f.number) (sym at.0) pieces) in
        (r.0, each_of (Known s (place_of f.octets) at.1 row c) (λ fs. RowFound s row fs) (λ fs k. row_found row false fs c k.0 k.1) r.0.elements r.1)
    field_found chunk last f c (b, e, v) i =
        let at = placed s f.octets b (ap (λ v. v.octets) e) i in
        all_messages s (place_of f.octets) at.1 f.header (λ z. subst (Pieces Entry f.header.entries) (sym at.0) (v.entries (zero_type f.header.chunk_type z)).1)

    row_found : (row : Row) (last : Bool) (fs : List (Field Place)) → chunk_last_in last row ≡ true → ValidRow row (map (value_in s) fs) → PlacesEndBy (length s) fs → RowFound s row fs
    row_found end last fs c v i = tt
    row_found (kind · row) last [] c v i = tt
    row_found (kind · row) last (f ∷ fs) c (w, ws, e, v, vs) i =
        let t = both (chunk_last (last && is_end row) kind) (chunk_last_in last row) c in
        (field_found kind (last && is_end row) f t.0 (subst (Valid kind) (sym (head-eq_of_cons-eq e)) v) i.0, row_found row last fs t.1 (subst (ValidRow row) (sym (tail-eq_of_cons-eq e)) vs) i.1)

pub everything_is_found : EverythingIsFound
everything_is_found s limit f b e =
    row_found s (row_of f.key f.version) true f.content (chunk_last_row f.key f.version) (sound s limit f b e).valid.content (places_there s limit f e)
