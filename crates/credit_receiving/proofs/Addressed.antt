-- What the first bytes of a frame tell of its subscription. A frame's key is the two bytes at 4; under key 8 the content
-- begins with a number of one byte, and the content begins at 8. So the id is that byte. Assumes nothing.
use Prim.Native.Nat.{ℕ, ◌+◌, ◌-◌, ◌≤◌, ◌<◌}
use mathlib.Core.Path.{◌≡◌, refl, sym, ap, ap₂, subst, ◌∙◌}
use mathlib.Core.Bool.{Bool, true, false, cond, ◌&&◌}
use mathlib.Core.List.{List, map}
use mathlib.Core.Option.{Option, none, some}
use native.Mathlib.Omega.{arith}
use borrow.Author.Tests.{lt-ltb, le-ltb, eq-eqb, ne_eqb, eqb-true, eqb-false}
use lib.Dec.{eqb, ltb}
use lib.ListN.{length, get_or, take, drop}
use lib.Seq.{get_or-take, get_or-drop}
use Rattle.wire.specs.Integers.{big_endian}
use Rattle.protocol.specs.Decision.{layout, unlisted_version, versions_in, of_version, decide}
use Rattle.protocol.specs.Fields.{Field, Fields, over_places, further}
use Rattle.protocol.specs.Kinds.{Row, end, ◌·◌, u8, u64, chunk}
use Rattle.protocol.specs.Table.{table, row_in, row_of}
use Rattle.protocol.specs.declared.place.Place.{Place}
use Rattle.rules.specs.Outcome.{Outcome, got, refused}
use Rattle.rules.specs.Reading.{read_unsigned, read_field, read_row, read_content, read_layout, read_frame, reading_of}
use Rattle.rules.specs.Reading as rules
use Rattle.rules.proofs.Gives.{Gives, check, after, after_number, frame_cases}
use Rattle.rules.proofs.Listed.{differ, itself}
use Rattle.rules.proofs.Parts.{length_part}
use Rattle.credit_ledger.specs.Calls.{first_number, deliver_id}
use Rattle.credit_ledger.proofs.Ids.{first_moved}
use Rattle.credit_receiving.specs.Subscription.{addressed}

-- ---- The bytes at 4 and 8

module _ (s : List ℕ) where
  pub too_short : length s < 9 → none ≡ addressed s
  too_short h = rw (le-ltb 8 (length s) (omega (arith, h)))

  pub other_key : (big_endian 2 s 4 ≡ 8 → ⊥) → none ≡ addressed s
  other_key h = by (ltb 8 (length s)) (eqb (big_endian 2 s 4) 8) (ne_eqb (big_endian 2 s 4) 8 h)
    where
      by : (t u : Bool) → u ≡ false → none ≡ cond (t && u) (some (get_or s 8 0)) none
      by true true e = absurd (differ (sym e))
      by true false e = refl
      by false u e = refl

  pub this_key : 8 < length s → big_endian 2 s 4 ≡ 8 → some (get_or s 8 0) ≡ addressed s
  this_key l e = rw (lt-ltb 8 (length s) l, eq-eqb (big_endian 2 s 4) 8 e)

-- ---- A content under key 8

-- The first field is the first byte, and it is there.
abbrev First : List ℕ → List (Field Place) → ℕ → Type 0
First c fs _ = (first_number fs ≡ get_or c 0 0) × (1 ≤ length c)

any : (o : Outcome (List (Field Place))) → Gives (λ _ _. Unit) o
any (got fs last) = tt
any (refused n p) = tt

module _ (c : List ℕ) where
  one_byte : big_endian 1 c 0 ≡ get_or c 0 0
  unfolding big_endian
  one_byte = omega arith

  abbrev Byte : Field Place → ℕ → Type 0
  Byte f _ = (f.number ≡ get_or c 0 0) × (1 ≤ length c)

  byte_field : Gives Byte (read_field u8 c 0)
  unfolding read_field read_unsigned
  byte_field = after_number Byte 1 c 0 _ (λ l. check Byte (ltb 255 (big_endian 1 c 0)) 10 0 _ (λ _. (one_byte, l)))

  begins : (row : Row) → Gives (First c) (read_content (u8 · row) c)
  unfolding read_content read_row
  begins row =
      after (First c) (First c) (read_row (u8 · row) c 0) _
      (after (First c) Byte (read_field u8 c 0) _ byte_field (λ f next h.
      after (First c) (λ _ _. Unit) (read_row row c next) _ (any (read_row row c next)) (λ fs last _. h)))
      (λ fs last h. check (First c) (ltb last (length c)) 11 last _ (λ _. h))

  -- A version that is decided on is 1 or 2.
  deliver_content : (v k' v' : ℕ) → decide 8 v ≡ layout k' v' → Gives (First c) (read_content (row_of 8 v) c)
  unfolding decide versions_in of_version table row_in
  deliver_content v k' v' e = by (eqb v 1) (eqb v 2) e
    where
      by : (t u : Bool) → cond t (layout 8 1) (cond u (layout 8 2) unlisted_version) ≡ layout k' v' → Gives (First c) (read_content (cond t (u8 · chunk · end) (cond u (u8 · u64 · chunk · end) end)) c)
      by true u e = begins (chunk · end)
      by false true e = begins (u64 · chunk · end)
      by false false e = absurd (let z : ◌≡◌ {A = ℕ} 0 1 = cc (e) in omega (arith, z))

-- ---- A frame that is read

abbrev Tells : Option ℕ → rules.Reading → Type 0
Tells o (rules.frame f) = deliver_id f ≡ o
Tells o (rules.short n) = Unit
Tells o (rules.refusal n p) = Unit

tells : (P : List (Field Place) → ℕ → Type 0) (k v : ℕ) (want : Option ℕ) (o : Outcome (List (Field Place))) → Gives P o
    → ((fs : List (Field Place)) (last : ℕ) → P fs last → cond (eqb k 8) (some (first_number (map (over_places (further 8)) fs))) none ≡ want)
    → Tells want (reading_of k v o)
tells P k v want (got fs last) h g = g fs last h
tells P k v want (refused n p) h g = tt

module _ (s : List ℕ) (size : ℕ) (l : 4 ≤ size) (w : size + 4 ≤ length s) where
  abbrev content : List ℕ
  content = take (size - 4) (drop 8 s)

  -- The content's first byte, if it has one, is the frame's byte 8.
  first_byte : 1 ≤ length content → (8 < length s) × (get_or content 0 0 ≡ get_or s 8 0)
  first_byte h =
      let g : 8 + (size - 4) ≤ length s = omega (arith, l, w) in
      let n : 1 ≤ size - 4 = subst (λ (m : ℕ). 1 ≤ m) (length_part (size - 4) 8 s g) h in
      (omega (arith, n, w), get_or-take (size - 4) (drop 8 s) 0 0 n ∙ get_or-drop 8 s 0 0)

  deliver_tells : (v k' v' : ℕ) → big_endian 2 s 4 ≡ 8 → decide 8 v ≡ layout k' v' → Tells (addressed s) (read_layout 8 v content)
  unfolding read_layout
  deliver_tells v k' v' key d =
      tells (First content) 8 v (addressed s) (read_content (row_of 8 v) content) (deliver_content content v k' v' d) (λ fs last h.
      let b = first_byte h.1 in
      ap some (first_moved fs ∙ h.0 ∙ b.1) ∙ this_key s b.0 key)

  layout_tells : (k v : ℕ) → k ≡ big_endian 2 s 4 → decide k v ≡ layout k v → Tells (addressed s) (read_layout k v content)
  unfolding read_layout
  layout_tells k v e d = by (eqb k 8) refl
    where
      other : (fs : List (Field Place)) → eqb k 8 ≡ false → cond (eqb k 8) (some (first_number (map (over_places (further 8)) fs))) none ≡ addressed s
      other fs q = ap (λ (t : Bool). cond t (some (first_number (map (over_places (further 8)) fs))) none) q ∙ other_key s (λ z. eqb-false k 8 q (e ∙ z))

      by : (t : Bool) → eqb k 8 ≡ t → Tells (addressed s) (read_layout k v content)
      by true q =
          let z : k ≡ 8 = eqb-true k 8 q in
          subst (λ (m : ℕ). Tells (addressed s) (read_layout m v content)) (sym z) (deliver_tells v k v (sym e ∙ z) (subst (λ (m : ℕ). decide m v ≡ layout k v) z d))
      by false q = tells (λ _ _. Unit) k v (addressed s) (read_content (row_of k v) content) (any (read_content (row_of k v) content)) (λ fs last _. other fs q)

-- The subscription that a frame's first bytes name is the one that the frame is for.
pub addressed_id : (s : List ℕ) (limit : ℕ) (f : Fields Place) → read_frame s limit ≡ rules.frame f → deliver_id f ≡ addressed s
addressed_id s limit f e =
    subst (Tells (addressed s)) e
    (frame_cases (Tells (addressed s)) (λ _. tt) (λ _ _. tt) s limit (λ _ l w k v d.
    let i = itself (big_endian 2 s 4) (big_endian 2 s 6) k v d in
    layout_tells s (big_endian 4 s 0) l w k v i.0 (ap₂ decide i.0 i.1 ∙ d)))
