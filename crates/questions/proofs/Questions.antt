-- What a question finds lies within the source: the elements and entries lie within their place, and that place within
-- the source. Assumes nothing.
use mathlib.Core.Path.{◌≡◌, subst}
use mathlib.Core.Bool.{false, not}
use mathlib.Core.List.{List}
use mathlib.Core.Option.{some}
use Prim.Native.Nat.{ℕ, ◌+◌, ◌≤◌}
use native.Mathlib.Omega.{arith}
use lib.Dec.{ltb, leb}
use lib.IntN.{ℤ}
use lib.ListN.{length}
use borrow.Author.Tests.{ltb-false}
use Rattle.wire.specs.Integers.{big_endian}
use Rattle.protocol.specs.Fields.{Field, bytes_at, outside, further, EndsBy, PlacesEndBy}
use Rattle.protocol.specs.Kinds.{Row}
use Rattle.protocol.specs.Refusals.{field_cut, value_not_admitted}
use Rattle.protocol.specs.declared.place.Place.{Place}
use Rattle.rules.specs.Outcome.{Outcome, got, refused, then, repeated, mapped}
use Rattle.rules.specs.Reading.{has_entries, read_entry, read_row}
use Rattle.questions.specs.Questions.{Asked, found, refusal, asked, read_nth, element_at, message_of}
use Rattle.rules.proofs.Bounds.{FieldNumber, FieldNumbered, Bounded, bounded_repeated, bounded_row, bounded_entry}
use Rattle.rules.proofs.Gives.{Gives, choice, check, after_number}
use Rattle.rules.proofs.Inside.{inside_row, moved}
use Rattle.rules.proofs.Parts.{length_part}

module _ {A : Type 0} (read : List ℕ → ℕ → Outcome A) (part : List ℕ) (index : ℕ) where
  -- What holds of each that is read holds of the one at an index.
  pub nth_gives : (P : A → ℕ → Type 0) → ((at : ℕ) → Gives P (read part at)) → Gives P (read_nth read index part)
  unfolding read_nth
  nth_gives P h = by (repeated read index part 0)
    where
      by : (o : Outcome Unit) → Gives P (then o (λ _ at. read part at))
      by (got _ at) = h at
      by (refused n at) = tt

  -- A refusal has a number that a field can be refused with.
  pub nth_bounded : ((at : ℕ) → Bounded part at (read part at)) → FieldNumbered (read_nth read index part)
  unfolding read_nth
  nth_bounded h = by (repeated read index part 0) (bounded_repeated part read h index 0)
    where
      of : (at : ℕ) (o : Outcome A) → Bounded part at o → FieldNumbered o
      of at (got a next) k = tt
      of at (refused n p) k = k.0

      by : (o : Outcome Unit) → Bounded part 0 o → FieldNumbered (then o (λ _ at. read part at))
      by (got _ at) k = of at (read part at) (h at)
      by (refused n at) k = k.0

-- What holds of an answer: of what was found, and of a refusal that its number is one of a field's.
abbrev Answers : {A : Type 0} → (A → Type 0) → Asked A → Type 0
Answers P (found a) = P a
Answers P (refusal n) = FieldNumber n

answers : {A B : Type 0} (P : A → ℕ → Type 0) (Q : B → Type 0) (f : A → B) (o : Outcome A) → ((a : A) (next : ℕ) → P a next → Q (f a)) → Gives P o → FieldNumbered o → Answers Q (asked (mapped f o))
answers P Q f (got a next) h g n = h a next g
answers P Q f (refused m at) h g n = n

is_6 : FieldNumber field_cut
is_6 = (omega arith, omega arith)

is_10 : FieldNumber value_not_admitted
is_10 = (omega arith, omega arith)

-- A message lies within its part.
pub entry_inside : (part : List ℕ) (at : ℕ) → Gives (λ q _. EndsBy (length part) (some q)) (read_entry part at)
unfolding read_entry
entry_inside part at =
    after_number (λ q _. EndsBy (length part) (some q)) 4 part at _ (λ _.
    check (λ q _. EndsBy (length part) (some q)) (leb 0x8000_0000 (big_endian 4 part at)) 10 at _ (λ _.
    check (λ q _. EndsBy (length part) (some q)) (ltb (length part) (at + 4 + big_endian 4 part at)) 6 at _ (λ e. ltb-false _ _ e)))

module _ (s : List ℕ) (p : Place) (index : ℕ) where
  room : outside p s ≡ false → p.at + length (bytes_at s p) ≤ length s
  room o = sum p.at p.len (length (bytes_at s p)) (length_part p.len p.at s (ltb-false _ _ o)) (ltb-false _ _ o)
    where
      sum : (a l m : ℕ) → m ≡ l → a + l ≤ length s → a + m ≤ length s
      sum a l m e h = omega (arith, e, h)

  module _ (row : Row) (count : ℕ) where
    element_answers : Answers (PlacesEndBy (length s)) (element_at row s count p index)
    unfolding element_at
    element_answers =
        choice (Answers (PlacesEndBy (length s))) (outside p s) _ _ (λ _. is_6) (λ o.
        choice (Answers (PlacesEndBy (length s))) (leb count index) _ _ (λ _. is_10) (λ _.
        answers (λ fs _. PlacesEndBy (length (bytes_at s p)) fs) (PlacesEndBy (length s)) _ (read_nth (read_row row) index (bytes_at s p))
        (λ fs _ h. moved p.at (length (bytes_at s p)) (length s) fs (room o) h)
        (nth_gives (read_row row) (bytes_at s p) index _ (λ at. inside_row (bytes_at s p) row at))
        (nth_bounded (read_row row) (bytes_at s p) index (λ at. bounded_row row (bytes_at s p) at))))

    -- Every place in an element that is found lies within the source.
    pub element_inside : (fs : List (Field Place)) → element_at row s count p index ≡ found fs → PlacesEndBy (length s) fs
    element_inside fs e = subst (Answers (PlacesEndBy (length s))) e element_answers

    pub element_number : (n : ℕ) → element_at row s count p index ≡ refusal n → FieldNumber n
    element_number n e = subst (Answers (PlacesEndBy (length s))) e element_answers

  abbrev Within : Place → Type 0
  Within q = EndsBy (length s) (some q)

  further_inside : (part : List ℕ) (q : Place) → p.at + length part ≤ length s → EndsBy (length part) (some q) → Within (further p.at q)
  further_inside part q h k = sum p.at q.at q.len (length part) h k
    where
      sum : (b a l n : ℕ) → b + n ≤ length s → a + l ≤ n → b + a + l ≤ length s
      sum b a l n h k = omega (arith, h, k)

  module _ (type : ℤ) (entries : ℕ) where
    message_answers : Answers Within (message_of s type entries p index)
    unfolding message_of
    message_answers =
        choice (Answers Within) (outside p s) _ _ (λ _. is_6) (λ o.
        choice (Answers Within) (not (has_entries type)) _ _ (λ _. is_10) (λ _.
        choice (Answers Within) (leb entries index) _ _ (λ _. is_10) (λ _.
        answers (λ q _. EndsBy (length (bytes_at s p)) (some q)) Within _ (read_nth read_entry index (bytes_at s p))
        (λ q _ k. further_inside (bytes_at s p) q (room o) k)
        (nth_gives read_entry (bytes_at s p) index _ (λ at. entry_inside (bytes_at s p) at))
        (nth_bounded read_entry (bytes_at s p) index (bounded_entry (bytes_at s p))))))

    -- A message that is found lies within the source.
    pub message_inside : (q : Place) → message_of s type entries p index ≡ found q → EndsBy (length s) (some q)
    message_inside q e = subst (Answers Within) e message_answers

    pub message_number : (n : ℕ) → message_of s type entries p index ≡ refusal n → FieldNumber n
    message_number n e = subst (Answers Within) e message_answers
