-- Where reading can end: what is read ends no earlier than it begins and no later than the part, and a refusal has a
-- number from 6 to 11 and a place in the part or at its end. So 0 can say that there is no refusal. Each check names
-- its number and its place, and what is read one behind another has the first refusal. Assumes nothing.
use mathlib.Core.Path.{◌≡◌, refl}
use mathlib.Core.Bool.{Bool, true, false, not, cond, ◌&&◌}
use mathlib.Core.List.{List}
use Prim.Native.Nat.{ℕ, zero, suc, ◌+◌, ◌≤◌, ◌<◌}
use native.Mathlib.Omega.{arith}
use lib.Dec.{T, eqb, ltb, leb, leb→le}
use lib.IntN.{ℤ, pos, negsuc}
use lib.ListN.{length, take, drop}
use borrow.Author.Tests.{ltb-false, ltb-true}
use Rattle.wire.specs.Integers.{big_endian}
use Rattle.wire.specs.Signed as two's
use Rattle.protocol.specs.Fields.{Field, place}
use Rattle.protocol.specs.Kinds.{length_width, Kind, unsigned, signed, string, specification, list, chunk, Row, end, ◌·◌}
use Rattle.protocol.proofs.Unlisted.{both as and_true}
use Rattle.protocol.specs.declared.kind.Form.{Form}
use Rattle.protocol.specs.declared.place.Place.{Place}
use Rattle.rules.proofs.Gives.{Gives, after_number}
use Rattle.rules.specs.Outcome.{Outcome, got, refused, then, refuse_if, repeated}
use Rattle.rules.specs.Reading.{read_number, read_unsigned, read_signed, read_body, read_string, read_offset, read_timestamp, read_typed, read_specification, count_of, read_count, read_list, header_at, has_entries, is_chunk_type, too_long, is_text, read_entry, read_entries, read_data, read_chunk, read_field, read_row, read_content}

-- A refusal has a number.
abbrev pub Numbered : {A : Type 0} → Outcome A → Type 0
Numbered (got a next) = Unit
Numbered (refused n p) = n ≡ 0 → ⊥

pub numbered_repeated : {A : Type 0} (read : List ℕ → ℕ → Outcome A) → ((s : List ℕ) (at : ℕ) → Numbered (read s at)) → (n : ℕ) (s : List ℕ) (at : ℕ) → Numbered (repeated read n s at)
unfolding repeated
numbered_repeated read h zero s at = tt
numbered_repeated {A} read h (suc n) s at = by (read s at) (h s at) (λ next. numbered_repeated read h n s next)
  where
    by : (o : Outcome A) → Numbered o → ((next : ℕ) → Numbered (repeated read n s next)) → Numbered (then o (λ a next. repeated read n s next))
    by (got a next) k more = more next
    by (refused m p) k more = k

-- The numbers that a field can be refused with.
abbrev pub FieldNumber : ℕ → Type 0
FieldNumber n = (6 ≤ n) × (n ≤ 11)

abbrev pub FieldNumbered : {A : Type 0} → Outcome A → Type 0
FieldNumbered (got a next) = Unit
FieldNumbered (refused n p) = FieldNumber n

abbrev pub is_field_number : ℕ → Bool
is_field_number n = leb 6 n && leb n 11

pub named : (n : ℕ) → T (is_field_number n) → FieldNumber n
named n t = let r = and_true (leb 6 n) (leb n 11) t in (leb→le 6 n r.0, leb→le n 11 r.1)

module _ (s : List ℕ) where
  -- Reading that began at a place.
  abbrev pub Bounded : {A : Type 0} → ℕ → Outcome A → Type 0
  Bounded at (got a next) = (at ≤ next) × (at ≤ length s → next ≤ length s)
  Bounded at (refused n p) = FieldNumber n × (at ≤ length s → p ≤ length s)

  pub numbered : {A : Type 0} (at : ℕ) (o : Outcome A) → Bounded at o → Numbered o
  numbered at (got a next) h = tt
  numbered at (refused n p) h = λ e. omega (arith, h.0.0, e)

  check : {A : Type 0} (at : ℕ) (t : Bool) (n p : ℕ) (o : Outcome A) → T (is_field_number n) → (t ≡ true → at ≤ length s → p ≤ length s) → (t ≡ false → Bounded at o) → Bounded at (refuse_if t n p o)
  check at true n p o f g h = (named n f, g refl)
  check at false n p o f g h = h refl

  -- A check whose place is where reading began.
  check_here : {A : Type 0} (at : ℕ) (t : Bool) (n : ℕ) (o : Outcome A) → T (is_field_number n) → (t ≡ false → Bounded at o) → Bounded at (refuse_if t n at o)
  check_here at t n o f h = check at t n at o f (λ _ l. l) h

  -- What began later began here too.
  earlier : {A : Type 0} (at next : ℕ) (o : Outcome A) → at ≤ next → (at ≤ length s → next ≤ length s) → Bounded next o → Bounded at o
  earlier at next (got a last) h i k = (omega (arith, h, k.0), λ l. k.1 (i l))
  earlier at next (refused n p) h i k = (k.0, λ l. k.1 (i l))

  both : {A B : Type 0} (at : ℕ) (o : Outcome A) (f : A → ℕ → Outcome B) → Bounded at o → ((a : A) (next : ℕ) → Bounded next (f a next)) → Bounded at (then o f)
  both at (got a next) f h g = earlier at next (f a next) h.0 h.1 (g a next)
  both at (refused n p) f h g = h

  choice : {A : Type 0} (at : ℕ) (t : Bool) (o p : Outcome A) → Bounded at o → Bounded at p → Bounded at (cond t o p)
  choice at true o p h g = h
  choice at false o p h g = g

  stay : (at : ℕ) → (at ≤ at) × (at ≤ length s → at ≤ length s)
  stay at = (omega arith, λ l. l)

  pub bounded_repeated : {A : Type 0} (read : List ℕ → ℕ → Outcome A) → ((at : ℕ) → Bounded at (read s at)) → (n at : ℕ) → Bounded at (repeated read n s at)
  unfolding repeated
  bounded_repeated read h zero at = stay at
  bounded_repeated read h (suc n) at =
      both at (read s at) (λ a next. repeated read n s next) (h at) (λ a next. bounded_repeated read h n next)

  pub bounded_number : (n at : ℕ) → Bounded at (read_number n s at)
  unfolding read_number
  bounded_number n at =
      check_here at (ltb (length s) (at + n)) 6 (got (big_endian n s at) (at + n)) tt (λ e. let l = ltb-false _ _ e in (omega arith, λ k. l))

  -- A number and then more, whose refusals may be at the number.
  behind : {A : Type 0} (n at : ℕ) (f : ℕ → ℕ → Outcome A) → ((x next : ℕ) → at ≤ next → (at ≤ length s → next ≤ length s) → Bounded at (f x next)) → Bounded at (then (read_number n s at) f)
  behind n at f h = by (read_number n s at) (bounded_number n at)
    where
      by : (o : Outcome ℕ) → Bounded at o → Bounded at (then o f)
      by (got x next) k = h x next k.0 k.1
      by (refused m p) k = k

  bounded_body : (form : Form) (nullable : Bool) (at : ℕ) (z : ℤ) (next : ℕ) → at ≤ next → (at ≤ length s → next ≤ length s) → Bounded at (read_body form nullable s at z next)
  unfolding read_body
  bounded_body form nullable at (pos n) next h i =
      check_here at (too_long form n) 9 _ tt (λ _.
      check_here at (ltb (length s) (next + n)) 6 _ tt (λ e.
      check_here at (not (is_text form (take n (drop next s)))) 8 _ tt (λ _.
      let l = ltb-false _ _ e in (omega (arith, h), λ k. l))))
  bounded_body form nullable at (negsuc zero) next h i = check_here at (not nullable) 7 _ tt (λ _. (h, i))
  bounded_body form nullable at (negsuc (suc k)) next h i = (named 7 tt, λ l. l)

  bounded_offset : (at : ℕ) → Bounded at (read_offset s at)
  unfolding read_offset
  bounded_offset at = behind 8 at _ (λ x next h i. (h, i))

  bounded_timestamp : (at : ℕ) → Bounded at (read_timestamp s at)
  unfolding read_timestamp
  bounded_timestamp at = behind 8 at _ (λ x next h i. (h, i))

  bounded_typed : (admits_none : Bool) (at type next : ℕ) → at ≤ next → (at ≤ length s → next ≤ length s) → Bounded at (read_typed admits_none s at type next)
  unfolding read_typed
  bounded_typed admits_none at type next h i =
      choice at (eqb type 0) _ _ (check_here at (not admits_none) 10 _ tt (λ _. (h, i)))
      (choice at (eqb type 1) _ _ (h, i)
      (choice at (eqb type 2) _ _ (h, i)
      (choice at (eqb type 3) _ _ (h, i)
      (choice at (eqb type 4) _ _ (earlier at next (read_offset s next) h i (bounded_offset next))
      (choice at (eqb type 5) _ _ (earlier at next (read_timestamp s next) h i (bounded_timestamp next)) (named 10 tt, λ l. l))))))

  bounded_sign : (at : ℕ) (z : ℤ) (next : ℕ) → at ≤ next → (at ≤ length s → next ≤ length s) → Bounded at (count_of at z next)
  bounded_sign at (pos n) next h i = (h, i)
  bounded_sign at (negsuc k) next h i = (named 7 tt, λ l. l)

  pub bounded_count : (at : ℕ) → Bounded at (read_count s at)
  unfolding read_count
  bounded_count at = behind 4 at _ (λ x next h i. bounded_sign at (two's.signed 4 x) next h i)

  bounded_list : (element : List ℕ → ℕ → Outcome (List (Field Place))) → ((at : ℕ) → Bounded at (element s at)) → (at : ℕ) → Bounded at (read_list element s at)
  unfolding read_list
  bounded_list element h at =
      both at (read_count s at) _ (bounded_count at)
      (λ n next. both next (repeated element n s next) _ (bounded_repeated element h n next) (λ a last. stay last))

  pub bounded_entry : (at : ℕ) → Bounded at (read_entry s at)
  unfolding read_entry
  bounded_entry at =
      behind 4 at _ (λ x next h i.
      check_here at (leb 0x8000_0000 x) 10 _ tt (λ _.
      check_here at (ltb (length s) (next + x)) 6 (got (place next x) (next + x)) tt (λ e.
      let l = ltb-false _ _ e in (omega (arith, h), λ k. l))))

  bounded_entries : (entries records at : ℕ) → at + 48 ≤ length s → Bounded at (read_entries entries records s at)
  unfolding read_entries
  bounded_entries entries records at l =
      check at (not (eqb records entries)) 10 (at + 4) _ tt (λ _ _. omega (arith, l)) (λ _.
      from_48 (repeated read_entry entries s (at + 48)) (bounded_repeated read_entry bounded_entry entries (at + 48)))
    where
      from_48 : (o : Outcome Unit) → Bounded (at + 48) o → Bounded at (then o (λ _ last. refuse_if (ltb last (length s)) 11 last (got (tt {0}) last)))
      from_48 (got a last) k =
          check at (ltb last (length s)) 11 last (got tt last) tt (λ _ _. k.1 l) (λ _. (omega (arith, k.0), λ j. k.1 l))
      from_48 (refused n p) k = (k.0, λ _. k.1 l)

  pub bounded_data : (type : ℤ) (entries records len at : ℕ) → at + 48 ≤ length s → Bounded at (read_data type entries records len s at)
  unfolding read_data
  bounded_data type entries records len at l =
      check at (not (is_chunk_type type)) 10 (at + 1) _ tt (λ _ _. omega (arith, l)) (λ _.
      check at (ltb (length s) (at + 48 + len)) 6 (at + 48) _ tt (λ _ _. l) (λ _.
      check at (ltb (at + 48 + len) (length s)) 11 (at + 48 + len) _ tt (λ e _. less (ltb-true _ _ e)) (λ _.
      choice at (has_entries type) (read_entries entries records s at) (got tt (length s)) (bounded_entries entries records at l) (omega (arith, l), λ k. omega arith))))
    where
      less : {a b : ℕ} → a < b → a ≤ b
      less h = omega (arith, h)

  bounded_chunk : (at : ℕ) → Bounded at (read_chunk s at)
  unfolding read_chunk
  bounded_chunk at =
      check_here at (ltb (length s) (at + 48)) 6 _ tt (λ e.
      both at (read_data (header_at s at).chunk_type (header_at s at).entries (header_at s at).records (header_at s at).data_length s at) _ (bounded_data (header_at s at).chunk_type (header_at s at).entries (header_at s at).records (header_at s at).data_length at (ltb-false _ _ e)) (λ a last. stay last))

mutual
  unfolding read_field read_row read_unsigned read_signed read_string read_specification

  pub bounded_field : (k : Kind) (s : List ℕ) (at : ℕ) → Bounded s at (read_field k s at)
  bounded_field (unsigned n most) s at = behind s n at _ (λ x next h i. check_here s at (ltb most x) 10 _ tt (λ _. (h, i)))
  bounded_field (signed n) s at = behind s n at _ (λ x next h i. (h, i))
  bounded_field (string form nullable) s at = behind s (length_width form) at _ (λ x next h i. bounded_body s form nullable at (two's.signed (length_width form) x) next h i)
  bounded_field (specification admits_none) s at = behind s 2 at _ (λ type next h i. bounded_typed s admits_none at type next h i)
  bounded_field (list rule row) s at = bounded_list s (λ t from. read_row row t from) (λ from. bounded_row row s from) at
  bounded_field chunk s at = bounded_chunk s at

  pub bounded_row : (row : Row) (s : List ℕ) (at : ℕ) → Bounded s at (read_row row s at)
  bounded_row end s at = stay s at
  bounded_row (k · row) s at =
      both s at (read_field k s at) _ (bounded_field k s at)
      (λ f next. both s next (read_row row s next) _ (bounded_row row s next) (λ fs last. stay s last))

pub bounded_content : (row : Row) (s : List ℕ) → Bounded s 0 (read_content row s)
unfolding read_content
bounded_content row s =
    both s 0 (read_row row s 0) _ (bounded_row row s 0)
    (λ fs last. check_here s last (ltb last (length s)) 11 (got fs last) tt (λ _. stay s last))

pub numbered_field : (k : Kind) (s : List ℕ) (at : ℕ) → Numbered (read_field k s at)
numbered_field k s at = numbered s at (read_field k s at) (bounded_field k s at)

pub numbered_row : (row : Row) (s : List ℕ) (at : ℕ) → Numbered (read_row row s at)
numbered_row row s at = numbered s at (read_row row s at) (bounded_row row s at)

pub numbered_count : (s : List ℕ) (at : ℕ) → Numbered (read_count s at)
numbered_count s at = numbered s at (read_count s at) (bounded_count s at)

pub numbered_entry : (s : List ℕ) (at : ℕ) → Numbered (read_entry s at)
numbered_entry s at = numbered s at (read_entry s at) (bounded_entry s at)

-- A count that is read lies within the part, wherever its reading began.
pub inside_count : (s : List ℕ) (at : ℕ) → Gives (λ _ next. next ≤ length s) (read_count s at)
unfolding read_count
inside_count s at = after_number (λ _ next. next ≤ length s) 4 s at _ (λ h. by (two's.signed 4 (big_endian 4 s at)) h)
  where
    by : (z : ℤ) → at + 4 ≤ length s → Gives (λ _ next. next ≤ length s) (count_of at z (at + 4))
    by (pos n) h = h
    by (negsuc k) h = tt
