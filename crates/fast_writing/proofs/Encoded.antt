-- What each field is written as, where its checks pass, and so what each row is written as: in pieces, one for each number or
-- part that the code puts. Assumes nothing.
use mathlib.Core.Path.{◌≡◌, refl, ◌∙◌, sym, ap}
use mathlib.Core.Bool.{true, false}
use mathlib.Core.List.{List, [], ◌∷◌, ◌++◌, append_assoc, append-nil}
use Prim.Native.Nat.{ℕ, ◌+◌, ◌^◌, ◌<◌, ◌≤◌}
use native.Mathlib.Omega.{arith}
use lib.ListN.{length, take, drop}
use lib.Seq.{get_or-drop}
use borrow.Author.Tests.{lt-leb, ltb-false, ne_eqb}
use Rattle.wire.specs.Integers.{digits}
use Rattle.wire.specs.declared.integers.Width.TheVariants.{Eight}
use Rattle.wire.proofs.Splice.{part_length}
use mathlib.Core.Option.{some}
use Rattle.std.specs.Prelude.{Result, Ok, Err, is_err}
use Rattle.protocol.specs.Refusals.{number_in}
use Rattle.protocol.specs.declared.refusal.Refusal.{Refusal}
use Rattle.protocol.specs.Fields.{Field, elements, place, bytes_at}
use Rattle.protocol.specs.Frames.{list_field}
use Rattle.protocol.specs.declared.place.Place.{Place}
use Rattle.protocol.specs.declared.place.Elements.{Elements}
use Rattle.protocol.specs.Kinds.{Kind, Row, end, ◌·◌, list, list_of, plain, plain_list, u8, element_row}
use Rattle.protocol.specs.Table.{table, row_in, row_of}
use Rattle.protocol.specs.declared.kind.Element.TheVariants.{Message, Property, PublishingId}
use Rattle.protocol.specs.declared.kind.ListKind.{ListKind}
use Rattle.protocol.specs.declared.kind.Element.{Element}
use Rattle.protocol.specs.declared.kind.Form.TheVariants.{Text, Reference}
use Rattle.protocol.specs.declared.offset.OffsetSpecification.TheVariants.{Offset}
use Rattle.protocol.specs.declared.kind.ListRule.{ListRule}
use Rattle.rules.specs.Writing.{Encoding, wrote, followed, write_field, write_string, write_offset, write_row}
use Rattle.byte_strings.specs.Stops.{refusal_of}
use Rattle.fields.proofs.Encodings.{fits}
use Rattle.byte_strings.proofs.StringFields.{Admitted, admitted_bytes}
use Rattle.number_lists.specs.Fixed.{numbers}
use Rattle.number_lists.proofs.Lists.{not_refused}
use Rattle.slots.specs.Flat.{null_length}
use Rattle.slots.specs.Unflat.{slot, unflat_octets, unflat_offset, unflat_row}
use Rattle.fast_writing.specs.Answer.{listed}
use Rattle.fast_writing.proofs.Chain.{joined, part_front, number_front, Encodes}

-- ---- Fields

module _ (src : List ℕ) (at len : ℕ) where
  pub reference_written : Admitted Reference src at len → write_string Reference true src (unflat_octets true at len) ≡ wrote (digits 2 len ++ take len (drop at src))
  reference_written t = rw (ne_eqb len null_length (λ e. omega (arith, e, t.short))) (admitted_bytes Reference src at len true t)

-- What `is_err` tells.
pub not_err : (r : Result Unit Refusal) → is_err r ≡ false → number_in r ≡ 0
not_err (Ok a) e = refl
not_err (Err f) e = cc

-- A list that is not refused: its elements' place is in the source, and it is written as its count and these bytes.
pub record ListWritten (kind : Kind) (src : List ℕ) (n at len : ℕ) : Type 0 where
  pub inside : at + len ≤ length src
  pub is : write_field kind src (elements n (place at len)) ≡ wrote (digits 4 n ++ take len (drop at src))

pub list_written : (rule : ListRule) (row : Row) (src : List ℕ) (n at len r : ℕ) → r ≡ refusal_of (write_field (list rule row) src (elements n (place at len))) → r ≡ 0 → ListWritten (list rule row) src n at len
list_written rule row src n at len r e z =
    let w = not_refused rule row src n (place at len) (sym e ∙ z) in
    record { inside = ltb-false _ _ w.0; is = w.1 }

pub list_inside : (row : Row) (src : List ℕ) (l : Elements) (r : ℕ) → r ≡ refusal_of (write_field (list plain row) src (list_field l)) → r ≡ 0 → l.place.at + l.place.len ≤ length src
list_inside row src l r e z = ltb-false _ _ (not_refused plain row src l.count l.place (sym e ∙ z)).0

-- The list that stands in slots.
pub same_list : (l : Elements) (n at len : ℕ) → list_field l ≡ elements n (place at len) → (l.count ≡ n) × (l.place ≡ place at len)
same_list l n at len e =
    let octets : some l.place ≡ some (place at len) = ap (λ (f : Field Place). f.octets) e in
    (ap (λ (f : Field Place). f.number) e, cc)

module _ (kind : ListKind) (element : Element) (src : List ℕ) (l : Elements) (k : kind ≡ plain_list element) where
  abbrev checked_as : ℕ → Type 0
  checked_as r = r ≡ refusal_of (write_field (list_of kind) src (list_field l))

  pub plain_checked : (r : ℕ) → checked_as r → r ≡ refusal_of (write_field (list plain (element_row element)) src (list_field l))
  plain_checked r f = f ∙ ap (λ (x : ListKind). refusal_of (write_field (list_of x) src (list_field l))) k

  pub plain_written : (n at len r : ℕ) → list_field l ≡ elements n (place at len) → checked_as r → r ≡ 0 → ListWritten (list plain (element_row element)) src n at len
  plain_written n at len r e f z =
      list_written plain (element_row element) src n at len r (plain_checked r f ∙ ap (λ (x : Field Place). refusal_of (write_field (list plain (element_row element)) src x)) e) z

position_fits : (x : ℕ) → x < 256 ^ 8 → write_offset false (Offset x) ≡ wrote (digits 2 4 ++ digits 8 x)
unfolding write_offset
position_fits x h = rw (lt-leb (256 ^ 8) x h)

pub offset_written : (type v : ℕ) → type ≡ 4 → v < 0x1_0000_0000_0000_0000 → write_offset false (unflat_offset false type v) ≡ wrote (digits 2 4 ++ digits 8 v)
offset_written type v e h = ap (λ (t : ℕ). write_offset false (unflat_offset false t v)) e ∙ position_fits v h

-- ---- Rows

-- Two pieces of one field in front of the others.
two_in_front : (a b : List ℕ) (e f : Encoding) (bs : List (List ℕ)) → e ≡ wrote (a ++ b) → f ≡ wrote (joined bs) → followed e f ≡ wrote (joined (a ∷ b ∷ bs))
two_in_front a b e f bs i j = rw (i, j, append_assoc a b (joined bs))

one_in_front : (a : List ℕ) (e f : Encoding) (bs : List (List ℕ)) → e ≡ wrote a → f ≡ wrote (joined bs) → followed e f ≡ wrote (joined (a ∷ bs))
one_in_front a e f bs i j = rw (i, j)

abbrev pub row_written : ℕ → List ℕ → List ℕ → Encoding
row_written key s src = write_row (row_of key 1) src (unflat_row (row_of key 1) (drop 2 s))

module _ (s src : List ℕ) where
  pub heartbeat_row : Encodes (row_written 0x0017 s src) [] 4
  unfolding row_in table
  heartbeat_row = record { is = refl; sized = refl }

  abbrev credited : List (List ℕ)
  credited = digits 1 (slot s 2) ∷ digits 2 (slot s 3) ∷ []

  credit_written : slot s 2 ≤ 0xff → slot s 3 ≤ 0xffff → row_written 0x0009 s src ≡ wrote (joined credited)
  unfolding row_in table
  credit_written a b =
      simp get_or-drop
      (one_in_front (digits 1 (slot s 2)) _ _ (digits 2 (slot s 3) ∷ []) (fits 1 0xff (slot s 2) (omega arith) a)
      (one_in_front (digits 2 (slot s 3)) _ _ [] (fits 2 0xffff (slot s 3) (omega arith) b) refl))

  pub credit_row : slot s 2 ≤ 0xff → slot s 3 ≤ 0xffff → Encodes (row_written 0x0009 s src) credited 7
  credit_row a b =
      let l : length (joined credited) ≡ 1 + (2 + 0) = number_front 1 (slot s 2) _ _ (number_front 2 (slot s 3) [] 0 refl) in
      record { is = credit_written a b; sized = omega (arith, l) }

  -- A publisher's id, then a list of one kind of element.
  module _ (l : Elements) (e : list_field l ≡ elements (slot s 3) (place (slot s 4) (slot s 5))) (r : ℕ) (z : r ≡ 0) (id : slot s 2 ≤ 0xff) where
    row_listed : (row : Row) → r ≡ refusal_of (write_field (list plain row) src (list_field l)) → write_row (u8 · list plain row · end) src (unflat_row (u8 · list plain row · end) (drop 2 s)) ≡ wrote (listed (slot s 2) l.count (bytes_at src l.place))
    row_listed row f =
        let w : write_field (list plain row) src (list_field l) ≡ wrote (digits 4 l.count ++ bytes_at src l.place) = (not_refused plain row src l.count l.place (sym f ∙ z)).1 in
        let v : write_field (list plain row) src (elements (slot s 3) (place (slot s 4) (slot s 5))) ≡ wrote (digits 4 l.count ++ bytes_at src l.place) = ap (write_field (list plain row) src) (sym e) ∙ w in
        simp get_or-drop (rw (fits 1 0xff (slot s 2) (omega arith) id, v, append-nil))

    pub publish_row : r ≡ refusal_of (write_field (list plain (element_row Message)) src (list_field l)) → row_written 0x0002 s src ≡ wrote (listed (slot s 2) l.count (bytes_at src l.place))
    unfolding row_in table
    publish_row f = row_listed (element_row Message) f

    pub confirm_row : r ≡ refusal_of (write_field (numbers Eight) src (list_field l)) → row_written 0x0003 s src ≡ wrote (listed (slot s 2) l.count (bytes_at src l.place))
    unfolding row_in table
    confirm_row f = row_listed (element_row PublishingId) f

  -- A publisher's declaration.
  module _ (t : Admitted Reference src (slot s 4) (slot s 5)) (u : Admitted Text src (slot s 6) (slot s 7)) where
    abbrev reference : List ℕ
    reference = take (slot s 5) (drop (slot s 4) src)

    abbrev declared_stream : List ℕ
    declared_stream = take (slot s 7) (drop (slot s 6) src)

    abbrev declared : List (List ℕ)
    declared = digits 4 (slot s 2) ∷ digits 1 (slot s 3) ∷ digits 2 (slot s 5) ∷ reference ∷ digits 2 (slot s 7) ∷ declared_stream ∷ []

    declare_written : slot s 2 ≤ 0xffff_ffff → slot s 3 ≤ 0xff → row_written 0x0001 s src ≡ wrote (joined declared)
    unfolding row_in table
    declare_written a b =
        simp get_or-drop
        (one_in_front (digits 4 (slot s 2)) _ _ (digits 1 (slot s 3) ∷ digits 2 (slot s 5) ∷ reference ∷ digits 2 (slot s 7) ∷ declared_stream ∷ []) (fits 4 0xffff_ffff (slot s 2) (omega arith) a)
        (one_in_front (digits 1 (slot s 3)) _ _ (digits 2 (slot s 5) ∷ reference ∷ digits 2 (slot s 7) ∷ declared_stream ∷ []) (fits 1 0xff (slot s 3) (omega arith) b)
        (two_in_front (digits 2 (slot s 5)) reference _ _ (digits 2 (slot s 7) ∷ declared_stream ∷ []) (reference_written src (slot s 4) (slot s 5) t)
        (two_in_front (digits 2 (slot s 7)) declared_stream _ _ [] (admitted_bytes Text src (slot s 6) (slot s 7) false u) refl))))

    pub declare_row : slot s 2 ≤ 0xffff_ffff → slot s 3 ≤ 0xff → Encodes (row_written 0x0001 s src) declared (13 + slot s 5 + slot s 7)
    declare_row a b =
        let l : length (joined declared) ≡ 4 + (1 + (2 + (slot s 5 + (2 + (slot s 7 + 0))))) = number_front 4 (slot s 2) _ _ (number_front 1 (slot s 3) _ _ (number_front 2 (slot s 5) _ _ (part_front reference _ (slot s 5) _ (part_length [] 0 src (slot s 4) (slot s 5) t.inside) (number_front 2 (slot s 7) _ _ (part_front declared_stream [] (slot s 7) 0 (part_length [] 0 src (slot s 6) (slot s 7) u.inside) refl))))) in
        record { is = declare_written a b; sized = omega (arith, l) }

  -- A subscription from an offset.
  module _ (t : Admitted Text src (slot s 4) (slot s 5)) (p : ListWritten (list plain (element_row Property)) src (slot s 9) (slot s 10) (slot s 11)) where
    abbrev stream : List ℕ
    stream = take (slot s 5) (drop (slot s 4) src)

    abbrev properties : List ℕ
    properties = take (slot s 11) (drop (slot s 10) src)

    abbrev behind_stream : List (List ℕ)
    behind_stream =
        digits 2 4 ∷ digits 8 (slot s 7) ∷ digits 2 (slot s 8) ∷ digits 4 (slot s 9) ∷ properties ∷ []

    abbrev subscribed : List (List ℕ)
    subscribed = digits 4 (slot s 2) ∷ digits 1 (slot s 3) ∷ digits 2 (slot s 5) ∷ stream ∷ behind_stream

    module _ (a : slot s 2 ≤ 0xffff_ffff) (b : slot s 3 ≤ 0xff) (type : slot s 6 ≡ 4) (v : slot s 7 < 0x1_0000_0000_0000_0000) (w : slot s 8 ≤ 0xffff) where
      subscribe_written : row_written 0x0007 s src ≡ wrote (joined subscribed)
      unfolding row_in table
      subscribe_written =
          simp get_or-drop
          (one_in_front (digits 4 (slot s 2)) _ _ (digits 1 (slot s 3) ∷ digits 2 (slot s 5) ∷ stream ∷ behind_stream) (fits 4 0xffff_ffff (slot s 2) (omega arith) a)
          (one_in_front (digits 1 (slot s 3)) _ _ (digits 2 (slot s 5) ∷ stream ∷ behind_stream) (fits 1 0xff (slot s 3) (omega arith) b)
          (two_in_front (digits 2 (slot s 5)) stream _ _ behind_stream (admitted_bytes Text src (slot s 4) (slot s 5) false t)
          (two_in_front (digits 2 4) (digits 8 (slot s 7)) _ _ (digits 2 (slot s 8) ∷ digits 4 (slot s 9) ∷ properties ∷ []) (offset_written (slot s 6) (slot s 7) type v)
          (one_in_front (digits 2 (slot s 8)) _ _ (digits 4 (slot s 9) ∷ properties ∷ []) (fits 2 0xffff (slot s 8) (omega arith) w)
          (two_in_front (digits 4 (slot s 9)) properties _ _ [] p.is refl))))))

      pub subscribe_row : Encodes (row_written 0x0007 s src) subscribed (27 + slot s 5 + slot s 11)
      subscribe_row =
          let l : length (joined subscribed) ≡ 4 + (1 + (2 + (slot s 5 + (2 + (8 + (2 + (4 + (slot s 11 + 0)))))))) = number_front 4 (slot s 2) _ _ (number_front 1 (slot s 3) _ _ (number_front 2 (slot s 5) _ _ (part_front stream _ (slot s 5) _ (part_length [] 0 src (slot s 4) (slot s 5) t.inside) (number_front 2 4 _ _ (number_front 8 (slot s 7) _ _ (number_front 2 (slot s 8) _ _ (number_front 4 (slot s 9) _ _ (part_front properties [] (slot s 11) 0 (part_length [] 0 src (slot s 10) (slot s 11) p.inside) refl)))))))) in
          record { is = subscribe_written; sized = omega (arith, l) }

-- The same by the places that the code makes of slots.
module _ (s src : List ℕ) (p : Place) (e : p ≡ place (slot s 4) (slot s 5)) where
  pub declare_at : (q : Place) → q ≡ place (slot s 6) (slot s 7) → Admitted Reference src p.at p.len → Admitted Text src q.at q.len → slot s 2 ≤ 0xffff_ffff → slot s 3 ≤ 0xff → Encodes (row_written 0x0001 s src) (digits 4 (slot s 2) ∷ digits 1 (slot s 3) ∷ digits 2 p.len ∷ bytes_at src p ∷ digits 2 q.len ∷ bytes_at src q ∷ []) (13 + p.len + q.len)
  declare_at q f t u a b = rw (e, f) (declare_row s src (rw e at t) (rw f at u) a b)

  pub subscribe_at : (l : Elements) → list_field l ≡ elements (slot s 9) (place (slot s 10) (slot s 11)) → Admitted Text src p.at p.len → ListWritten (list plain (element_row Property)) src (slot s 9) (slot s 10) (slot s 11) → slot s 2 ≤ 0xffff_ffff → slot s 3 ≤ 0xff → slot s 6 ≡ 4 → slot s 7 < 0x1_0000_0000_0000_0000 → slot s 8 ≤ 0xffff → Encodes (row_written 0x0007 s src) (digits 4 (slot s 2) ∷ digits 1 (slot s 3) ∷ digits 2 p.len ∷ bytes_at src p ∷ digits 2 4 ∷ digits 8 (slot s 7) ∷ digits 2 (slot s 8) ∷ digits 4 l.count ∷ bytes_at src l.place ∷ []) (27 + p.len + l.place.len)
  subscribe_at l f t w a b type v c =
      let same = same_list l (slot s 9) (slot s 10) (slot s 11) f in
      rw (e, same.0, same.1) (subscribe_row s src (rw e at t) w a b type v c)

-- What is put of a list whose checks have passed.
pub listed_row : (id count : ℕ) (src : List ℕ) (p : Place) → p.at + p.len ≤ length src → Encodes (wrote (listed id count (bytes_at src p))) (digits 1 id ∷ digits 4 count ∷ bytes_at src p ∷ []) (9 + p.len)
listed_row id count src p h =
    let l : length (joined (digits 1 id ∷ digits 4 count ∷ bytes_at src p ∷ [])) ≡ 1 + (4 + (p.len + 0)) = number_front 1 id _ _ (number_front 4 count _ _ (part_front (bytes_at src p) [] p.len 0 (part_length [] 0 src p.at p.len h) refl)) in
    record { is = rw append-nil; sized = omega (arith, l) }
