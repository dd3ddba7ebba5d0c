-- The data of a chunk is read alike by itself and after its header: every entry is read 48 bytes further on. So what a question for
-- an index finds is what stands at that index among the reader's messages. Assumes nothing.
use mathlib.Core.Path.{◌≡◌, refl, sym, ◌∙◌, ap, ap₂, subst, subst₂}
use mathlib.Core.Bool.{Bool, true, false, cond}
use mathlib.Core.List.{List, [], ◌∷◌, ◌++◌}
use mathlib.Core.Logic.{◌⊎◌, inl, inr}
use Prim.Native.Nat.{ℕ, zero, suc, ◌+◌, ◌-◌, ◌<◌}
use native.Mathlib.Omega.{arith}
use lib.Dec.{ltb, leb}
use lib.ListN.{length, get_or, take, drop, length-append, take-append-drop}
use lib.Seq.{get_or-append-add, drop-drop, length-take-le}
use borrow.Author.Tests.{lt-ltb, le-ltb, lt-leb, ltb-true, ltb-false}
use Rattle.wire.specs.Integers.{big_endian}
use Rattle.protocol.specs.Decision.{layout, decide}
use Rattle.protocol.specs.Fields.{Field, values_in, place, bytes_at, outside, further}
use Rattle.protocol.specs.Fields as F
use Rattle.protocol.specs.Frames.{OfRow}
use Rattle.protocol.specs.Table.{table, row_in, row_of}
use Rattle.protocol.specs.declared.chunk.ChunkHeader.{ChunkHeader}
use Rattle.protocol.specs.declared.place.Place.{Place}
use Rattle.rules.specs.Outcome.{Outcome, got, refused, then, refuse_if, repeated, mapped}
use Rattle.rules.specs.Grammar.{ValidFrame}
use Rattle.rules.specs.Reading.{has_entries, read_number, read_entry}
use Rattle.rules.proofs.Parts.{length_part, drop_take}
use Rattle.rules.proofs.Sound.{sound}
use Rattle.questions.specs.Found.{message_count, AllMessages, FieldFound, RowFound}
use Rattle.questions.specs.Questions.{found, asked, read_nth, message_at, message_of}
use Rattle.questions.proofs.Found.{everything_is_found}
use Rattle.slots.proofs.Fields.{plain_table, of_row}
use Rattle.chunk_reader.specs.Asked.{AskedAsRead, MessagesAreTheReaders}
use Rattle.chunk_reader.specs.Messages.{with_next, messages_at, message_no, chunk_at}
use Rattle.chunk_reader.proofs.Delivers.{ChunkStands, chunk_stands, versions}
use Rattle.chunk_reader.proofs.Runs.{as_many}

-- ---- Further on

module _ (pre part : List ℕ) where
  abbrev t : List ℕ
  t = pre ++ part

  abbrev n : ℕ
  n = length pre

  big_further : (k at : ℕ) → big_endian k t (n + at) ≡ big_endian k part at
  unfolding big_endian
  big_further zero at = refl
  big_further (suc k) at =
      let e : n + at + k ≡ n + (at + k) = omega arith in
      rw (big_further k at, e, get_or-append-add pre part (at + k) 0)

  -- A length test n bytes further on is the same test.
  same_test : (at : ℕ) → ltb (length t) (n + at) ≡ ltb (length part) at
  same_test at = by (ltb (length part) at) refl
    where
      l : length t ≡ n + length part
      l = length-append pre part

      by : (b : Bool) → ltb (length part) at ≡ b → ltb (length t) (n + at) ≡ b
      by true e = let h = ltb-true (length part) at e in lt-ltb (length t) (n + at) (omega (arith, l, h))
      by false e = let h = ltb-false (length part) at e in le-ltb (length t) (n + at) (omega (arith, l, h))

  -- What was read, so much further on.
  abbrev moved : {A : Type 0} → (A → A) → Outcome A → Outcome A
  moved f (got a next) = got (f a) (n + next)
  moved f (refused m at) = refused m (n + at)

  entry_further : (at : ℕ) → read_entry t (n + at) ≡ moved (further n) (read_entry part at)
  unfolding read_entry read_number
  entry_further at = by (ltb (length part) (at + 4)) refl
    where
      four : n + at + 4 ≡ n + (at + 4)
      four = omega arith

      both : (x : ℕ) (b c : Bool) → refuse_if b 10 (n + at) (refuse_if c 6 (n + at) (got (place (n + (at + 4)) x) (n + (at + 4 + x)))) ≡ moved (further n) (refuse_if b 10 at (refuse_if c 6 at (got (place (at + 4) x) (at + 4 + x))))
      both x true c = refl
      both x false true = refl
      both x false false = refl

      by : (b : Bool) → ltb (length part) (at + 4) ≡ b → read_entry t (n + at) ≡ moved (further n) (read_entry part at)
      by true e = rw (four, same_test (at + 4), e)
      by false e =
          let x : ℕ = big_endian 4 part at in
          let all : n + (at + 4) + x ≡ n + (at + 4 + x) = omega arith in
          rw (four, same_test (at + 4), e, big_further 4 at, all, same_test (at + 4 + x)) (both x (leb 0x8000_0000 x) (ltb (length part) (at + 4 + x)))

  entries_further : (i at : ℕ) → repeated read_entry i t (n + at) ≡ moved (λ u. u) (repeated read_entry i part at)
  unfolding repeated
  entries_further zero at = refl
  entries_further (suc i) at = rw (entry_further at) (by (read_entry part at) (λ next. entries_further i next))
    where
      by : (o : Outcome Place) → ((next : ℕ) → repeated read_entry i t (n + next) ≡ moved (λ u. u) (repeated read_entry i part next)) → then (moved (further n) o) (λ a next. repeated read_entry i t next) ≡ moved (λ u. u) (then o (λ a next. repeated read_entry i part next))
      by (got q next) more = more next
      by (refused m p) more = refl

  nth_further : (i : ℕ) (q : Place) (next : ℕ) → then (repeated read_entry i part 0) (λ _ at. read_entry part at) ≡ got q next → then (repeated read_entry i t n) (λ _ at. read_entry t at) ≡ got (further n q) (n + next)
  nth_further i q next e =
      let z : n ≡ n + 0 = omega arith in
      ap (λ (m : ℕ). then (repeated read_entry i t m) (λ _ at. read_entry t at)) z ∙ rw (entries_further i 0) (by (repeated read_entry i part 0) e)
    where
      by : (o : Outcome Unit) → then o (λ _ at. read_entry part at) ≡ got q next → then (moved (λ u. u) o) (λ _ at. read_entry t at) ≡ got (further n q) (n + next)
      by (got _ at) e = entry_further at ∙ ap (moved (further n)) e
      by (refused m p) e = absurd (let z : ◌≡◌ {A = ℕ} 0 1 = cc in omega arith)

-- ---- Among the messages

-- Messages one after another, by the index.
nth_message : (t : List ℕ) (k i at : ℕ) (q : Place) (next : ℕ) → i < k → then (repeated read_entry i t at) (λ _ from. read_entry t from) ≡ got q next → get_or (messages_at k t at) i (place 0 0) ≡ q
unfolding messages_at repeated
nth_message t zero i at q next l e = absurd (omega (arith, l))
nth_message t (suc k) zero at q next l e = rw e
nth_message t (suc k) (suc i) at q next l e = by (read_entry t at) (λ from f. nth_message t k i from q next (omega (arith, l)) f) e
  where
    by : (o : Outcome Place) → ((from : ℕ) → then (repeated read_entry i t from) (λ _ at. read_entry t at) ≡ got q next → get_or (messages_at k t from) i (place 0 0) ≡ q) → then (then o (λ a from. repeated read_entry i t from)) (λ _ from. read_entry t from) ≡ got q next → get_or (with_next o (λ from. messages_at k t from)) (suc i) (place 0 0) ≡ q
    by (got m from) more e = more from e
    by (refused m p) more e = absurd (let z : ◌≡◌ {A = ℕ} 0 1 = cc in omega arith)

-- ---- The chunk of a frame

-- What was found by a question was read.
asked_read : {A B : Type 0} (f : A → B) (o : Outcome A) (b : B) → asked (mapped f o) ≡ found b → (a : A) × (next : ℕ) × (o ≡ got a next) × (b ≡ f a)
asked_read f (got a next) b e = (a, next, refl, cc)
asked_read f (refused m p) b e = absurd (let z : ◌≡◌ {A = ℕ} 0 1 = cc in omega arith)

-- Its bytes are the header's and the data's.
module _ (s : List ℕ) (h : ChunkHeader) (p : Place) (stands : ChunkStands s h p) where
  abbrev bytes : List ℕ
  bytes = chunk_at s p

  long : length bytes ≡ 48 + p.len
  long = length_part (48 + p.len) (p.at - 48) s (omega (arith, stands.room, stands.inside))

  header_and_data : bytes ≡ take 48 bytes ++ bytes_at s p
  header_and_data =
      let e : p.at - 48 + 48 ≡ p.at = omega (arith, stands.room) in
      sym (take-append-drop 48 bytes)
      ∙ ap (λ (x : List ℕ). take 48 bytes ++ x) (drop_take 48 p.len (48 + p.len) (drop (p.at - 48) s) refl ∙ (ap (take p.len) (drop-drop 48 (p.at - 48) s) ∙ ap (λ (k : ℕ). take p.len (drop k s)) e))

  front : length (take 48 bytes) ≡ 48
  front = length-take-le 48 bytes (omega (arith, long))

  within : outside p s ≡ false
  within = le-ltb (length s) (p.at + p.len) stands.inside

  -- What the question reads is what the reader reads 48 bytes further on.
  same_message : (i : ℕ) (q : Place) (next : ℕ) → i < message_count h → read_nth read_entry i (bytes_at s p) ≡ got q next → message_no bytes i ≡ further 48 q
  unfolding read_nth
  same_message i q next l e =
      let read = nth_further (take 48 bytes) (bytes_at s p) i q next e in
      let there : then (repeated read_entry i bytes 48) (λ _ at. read_entry bytes at) ≡ got (further 48 q) (48 + next) = subst (λ (k : ℕ). then (repeated read_entry i bytes k) (λ _ at. read_entry bytes at) ≡ got (further k q) (k + next)) front (subst (λ (x : List ℕ). then (repeated read_entry i x (length (take 48 bytes))) (λ _ at. read_entry x at) ≡ got (further (length (take 48 bytes)) q) (length (take 48 bytes) + next)) (sym header_and_data) read) in
      ap (λ (g : ChunkHeader). get_or (messages_at (message_count g) bytes 48) i (place 0 0)) stands.same
      ∙ nth_message bytes (message_count h) i 48 (further 48 q) (48 + next) l there

  asked_for : AllMessages s h p → (i : ℕ) → i < message_count h → message_at s h p i ≡ found (further (p.at - 48) (message_no bytes i))
  unfolding message_of
  asked_for all i l = by (has_entries h.chunk_type) refl l
    where
      by : (t : Bool) → has_entries h.chunk_type ≡ t → i < cond t h.entries 0 → message_at s h p i ≡ found (further (p.at - 48) (message_no bytes i))
      by false e k = absurd (omega (arith, k))
      by true e k =
          let answer = asked (mapped (further p.at) (read_nth read_entry i (bytes_at s p))) in
          let is : message_at s h p i ≡ answer = rw (within, e, lt-leb h.entries i k) in
          let r = asked_read (further p.at) (read_nth read_entry i (bytes_at s p)) (get_or all.messages i (place 0 0)) (sym is ∙ all.found_at i l) in
          let same : message_no bytes i ≡ further 48 r.0 = same_message i r.0 r.1 l r.2 in
          let back : p.at - 48 + (48 + r.0.at) ≡ p.at + r.0.at = omega (arith, stands.room) in
          all.found_at i l ∙ ap found (r.3 ∙ (ap (λ (k : ℕ). place k r.0.len) (sym back) ∙ sym (ap (further (p.at - 48)) same)))

  asked_as_read : AllMessages s h p → AskedAsRead s h p
  asked_as_read all =
      record {
        whole = stands.whole;
        header = stands.same;
        as_many = as_many bytes stands.whole ∙ ap message_count stands.same;
        message = asked_for all;
      }

-- All messages of the chunk that is a Deliver's last field are found.
module _ (s : List ℕ) (h : ChunkHeader) (p : Place) where
  abbrev ending : List (Field Place) → List (Field Place)
  ending before = before ++ (F.chunk h p ∷ [])

  found_1 : (before : List (Field Place)) → OfRow (row_of 0x0008 1) (ending before) → RowFound s (row_of 0x0008 1) (ending before) → AllMessages s h p
  unfolding table row_in RowFound FieldFound
  found_1 [] o r = absurd o.1
  found_1 (x ∷ []) o r = r.1.0
  found_1 (x ∷ y ∷ []) o r = absurd o.1.1
  found_1 (x ∷ y ∷ z ∷ more) o r = absurd o.1.1

  found_2 : (before : List (Field Place)) → OfRow (row_of 0x0008 2) (ending before) → RowFound s (row_of 0x0008 2) (ending before) → AllMessages s h p
  unfolding table row_in RowFound FieldFound
  found_2 [] o r = absurd o.1
  found_2 (x ∷ []) o r = absurd o.1.1
  found_2 (x ∷ y ∷ []) o r = r.1.1.0
  found_2 (x ∷ y ∷ z ∷ []) o r = absurd o.1.1.1
  found_2 (x ∷ y ∷ z ∷ w ∷ more) o r = absurd o.1.1.1

pub messages_are_the_readers : MessagesAreTheReaders
messages_are_the_readers s limit f b e k before h p i = asked_as_read s h p (chunk_stands s limit f b e k before h p i) (by (versions f.version f.key f.version listed))
  where
    valid : ValidFrame (values_in s f)
    valid = (sound s limit f b e).valid

    listed : decide 0x0008 f.version ≡ layout f.key f.version
    listed = ap (λ (x : ℕ). decide x f.version) (sym k) ∙ valid.listed

    row : (v : ℕ) → f.version ≡ v → row_of f.key f.version ≡ row_of 0x0008 v
    row v e = ap₂ row_of k e

    fields : OfRow (row_of f.key f.version) f.content
    fields = (of_row s (row_of f.key f.version) f.content (plain_table f.key f.version) valid.content).0

    found_all : RowFound s (row_of f.key f.version) f.content
    found_all = everything_is_found s limit f b e

    by : (f.version ≡ 1) ⊎ (f.version ≡ 2) → AllMessages s h p
    by (inl v) = found_1 s h p before (subst₂ OfRow (row 1 v) i fields) (subst₂ (RowFound s) (row 1 v) i found_all)
    by (inr v) = found_2 s h p before (subst₂ OfRow (row 2 v) i fields) (subst₂ (RowFound s) (row 2 v) i found_all)
