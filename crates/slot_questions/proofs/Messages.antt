-- A Deliver's slots say of its chunk what its fields say, and every message of the chunk is found by them. Assumes nothing.
use mathlib.Core.Bool.{Bool, cond}
use mathlib.Core.Path.{◌≡◌, refl, sym, ◌∙◌, ap, ap₂, subst}
use mathlib.Core.List.{List, [], ◌∷◌, ◌++◌, map}
use mathlib.Core.Logic.{◌⊎◌, inl, inr}
use Prim.Native.Nat.{ℕ, ◌<◌}
use native.Mathlib.Omega.{arith}
use borrow.Author.Tests.{le-ltb}
use Rattle.wire.specs.Signed as two's
use Rattle.wire.proofs.TwosComplement.{twos_complement}
use Rattle.protocol.specs.Decision.{layout, decide}
use Rattle.protocol.specs.Fields.{Field, Fields, value_in, values_in}
use Rattle.protocol.specs.Fields as F
use Rattle.protocol.specs.Frames.{OfRow}
use Rattle.protocol.specs.Kinds.{Row, end, ◌·◌}
use Rattle.protocol.specs.Kinds as K
use Rattle.protocol.specs.Table.{table, row_in, row_of}
use Rattle.protocol.specs.declared.chunk.ChunkHeader.{ChunkHeader}
use Rattle.protocol.specs.declared.place.Place.{Place}
use Rattle.rules.specs.Grammar.{ValidFrame, ValidRow, Valid}
use Rattle.rules.specs.Writing.{place_of}
use Rattle.rules.proofs.Sound.{sound}
use Rattle.questions.specs.Found.{AllMessages, FieldFound, RowFound}
use Rattle.questions.specs.Questions.{Asked, message_at, message_of}
use Rattle.questions.proofs.Found.{everything_is_found}
use Rattle.slots.specs.Flat.{bits, padded, flat_frame}
use Rattle.slots.specs.Inverse.{SignedRow}
use Rattle.slots.proofs.Fields.{plain_table, of_row, row_cases}
use Rattle.chunk_reader.proofs.Delivers.{versions}
use Rattle.slot_questions.specs.Asked.{asked_entries, flat_message, ask_message}
use Rattle.slot_questions.specs.Messages.{EveryMessage, EveryMessageIsFound}

-- What a question looks at in the header's slots is what the header says.
abbrev asked_of : List ℕ → ChunkHeader → Place → ℕ → Asked Place
asked_of s h p i = message_of s (two's.signed 8 (bits h.chunk_type)) (asked_entries h.entries) p i

-- The entries of a chunk that was read are those asked for.
all_asked : (n : ℕ) → n < 65536 → asked_entries n ≡ n
all_asked n l = ap (λ (t : Bool). cond t 0 n) (le-ltb _ n (omega (arith, l)))

same_header : (s : List ℕ) (h : ChunkHeader) (p : Place) (i : ℕ) → two's.Signed 8 h.chunk_type → h.entries < 65536 → asked_of s h p i ≡ message_at s h p i
same_header s h p i z e =
    rw ((twos_complement 7).signed_unsigned h.chunk_type z, all_asked h.entries e)

module _ (s : List ℕ) (h : ChunkHeader) (p : Place) where
  abbrev Asks : Fields Place → Type 0
  Asks f = (i : ℕ) → ask_message (flat_frame f) s i ≡ flat_message (asked_of s h p i)

  version_1 : (x : Field Place) → Asks (record { key = 0x0008; version = 1; content = x ∷ F.chunk h p ∷ [] })
  unfolding flat_frame padded table row_in
  version_1 x i = refl

  version_2 : (x y : Field Place) → Asks (record { key = 0x0008; version = 2; content = x ∷ y ∷ F.chunk h p ∷ [] })
  unfolding flat_frame padded table row_in
  version_2 x y i = refl

  -- So every message of the chunk that is a frame's last field is found.
  every : (f : Fields Place) (front : List (Field Place)) → f.content ≡ front ++ (F.chunk h p ∷ []) → Asks f → two's.Signed 8 h.chunk_type → h.entries < 65536 → AllMessages s h p → EveryMessage s f
  every f front c asks z e all =
      record {
        front = front;
        header = h;
        place = p;
        chunk = c;
        all = all;
        found_at = λ i l. asks i ∙ ap flat_message (same_header s h p i z e ∙ all.found_at i l);
        no_other = λ i l. asks i ∙ ap flat_message (same_header s h p i z e ∙ all.no_other i l);
      }

-- The contents of a Deliver: fields that are those of its row, and what is known of them.
module _ (s : List ℕ) where
  abbrev Known : Row → List (Field Place) → Type 0
  Known row fs = OfRow row fs × SignedRow row fs × ValidRow row (map (value_in s) fs) × RowFound s row fs

  -- A chunk at the end of a frame.
  at_the_end : (front : List (Field Place)) (f : Field Place → Fields Place) → ((x : Field Place) → (f x).content ≡ front ++ (x ∷ [])) → ((h : ChunkHeader) (p : Place) → Asks s h p (f (F.chunk h p))) → (fs : List (Field Place)) → Known (K.chunk · end) fs → (x : Field Place) × (fs ≡ x ∷ []) × EveryMessage s (f x)
  unfolding RowFound FieldFound Valid
  at_the_end front f content asks [] k = absurd k.0
  at_the_end front f content asks (x ∷ y ∷ more) k = absurd k.0.1
  at_the_end front f content asks (x ∷ []) (of, signed, valid, all) =
      let h = x.header in
      let p = of.0.0 in
      let is : x ≡ F.chunk h p = of.0.1 in
      let here : AllMessages s h p = subst (λ (y : Field Place). AllMessages s h (place_of y.octets)) is all.0 in
      let v = (row_cases s K.chunk end x [] valid).0.2 in
      (x, refl, subst (λ (y : Field Place). EveryMessage s (f y)) (sym is) (every s h p (f (F.chunk h p)) front (content (F.chunk h p)) (asks h p) signed.0.type v.header.entries here))

  deliver_1 : (fs : List (Field Place)) → Known (row_of 0x0008 1) fs → EveryMessage s (record { key = 0x0008; version = 1; content = fs })
  unfolding table row_in RowFound
  deliver_1 [] k = absurd k.0
  deliver_1 (x ∷ fs) (of, signed, valid, all) =
      let (y, e, every) = at_the_end (x ∷ []) (λ y. record { key = 0x0008; version = 1; content = x ∷ y ∷ [] }) (λ _. refl) (λ h p. version_1 s h p x) fs (of.1, signed.1, (row_cases s _ _ x fs valid).1, all.1) in
      rw e every

  deliver_2 : (fs : List (Field Place)) → Known (row_of 0x0008 2) fs → EveryMessage s (record { key = 0x0008; version = 2; content = fs })
  unfolding table row_in RowFound
  deliver_2 [] k = absurd k.0
  deliver_2 (x ∷ []) k = absurd k.0.1
  deliver_2 (x ∷ y ∷ fs) (of, signed, valid, all) =
      let more = (row_cases s _ _ x (y ∷ fs) valid).1 in
      let (z, e, every) = at_the_end (x ∷ y ∷ []) (λ z. record { key = 0x0008; version = 2; content = x ∷ y ∷ z ∷ [] }) (λ _. refl) (λ h p. version_2 s h p x y) fs (of.1.1, signed.1.1, (row_cases s _ _ y fs more).1, all.1.1) in
      rw e every

pub every_message_is_found : EveryMessageIsFound
every_message_is_found s limit f b e k = by (versions f.version f.key f.version listed)
  where
    valid : ValidFrame (values_in s f)
    valid = (sound s limit f b e).valid

    listed : decide 0x0008 f.version ≡ layout f.key f.version
    listed = ap (λ (x : ℕ). decide x f.version) (sym k) ∙ valid.listed

    known : Known s (row_of f.key f.version) f.content
    known =
        let of = of_row s (row_of f.key f.version) f.content (plain_table f.key f.version) valid.content in
        (of.0, of.1, valid.content, everything_is_found s limit f b e)

    of_version_lem : (v : ℕ) → f.version ≡ v → Known s (row_of 0x0008 v) f.content × (record { key = 0x0008; version = v; content = f.content } ≡ f)
    of_version_lem v w = (subst (λ (row : Row). Known s row f.content) (ap₂ row_of k w) known, rw (k, w))

    by : (f.version ≡ 1) ⊎ (f.version ≡ 2) → EveryMessage s f
    by (inl v) = let (known, is) = of_version_lem 1 v in subst (EveryMessage s) is (deliver_1 s f.content known)
    by (inr v) = let (known, is) = of_version_lem 2 v in subst (EveryMessage s) is (deliver_2 s f.content known)
